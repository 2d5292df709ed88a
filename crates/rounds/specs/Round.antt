-- For the contracts of inner functions: what a round leaves in the storage.
use Rattle.std.specs.Prelude.{◌≡◌, false, cond, List, ℕ, ◌*◌, ◌<◌}
use Rattle.std.proofs.Math.Option.{Option}
use Rattle.completions.specs.Live.{Pairs}
use Rattle.completions.specs.Steps.{Within, pairs_within}
use Rattle.pairs.specs.Storage.{used, reached, scratch, set_words, reached_at}
use Rattle.pairs.specs.Changes.{Framed}

-- in the words that w valuations use, the reached set is R among the valuations below w and the scratch set is empty; no other word is
-- changed
pub record Rounded (w : ℕ) (s t : List ℕ) (R : Pairs) : Type 0 where
  pub frame : Framed reached_at (2 * set_words) s t
  pub reached : (b : ℕ) (c : Option ℕ) → b < 256 → Within 256 c
      → reached t b c ≡ cond (used w b c) (pairs_within w R b c) (reached s b c)
  pub scratch : (b : ℕ) (c : Option ℕ) → b < 256 → Within 256 c → scratch t b c ≡ cond (used w b c) false (scratch s b c)
