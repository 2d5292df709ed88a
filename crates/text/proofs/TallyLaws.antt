-- Laws of tally lines.
use mathlib.Core.Path.{◌≡◌, refl, sym, ap, ◌∙◌}
use mathlib.Core.List.{List, ◌++◌, append_assoc, append-nil}
use Prim.Native.Nat.{ℕ, zero, suc, ◌+◌, ◌*◌, ◌<◌, ◌≤◌}
use native.Mathlib.Nat.{add-zero, zero-add}
use native.Mathlib.Omega.{arith}
use native.Mathlib.Numerals.{add-one}
use lib.ListN.{length, get_or}
use Rattle.outcomes.specs.declared.Verdict.{Verdict}
use Rattle.outcomes.specs.declared.Verdict.TheVariants.{False, True, Open, Broken}
use Rattle.buffer.specs.Wrote.{Placed}
use Rattle.buffer.proofs.PlacedLaws.{placed_none, placed_then}
use Rattle.record.specs.Record.{count_at}
use Rattle.text.specs.Text.{spaced, tally_line, tally_lines}

-- the last of n + 1 tally lines
tallies_last : (c : ℕ → Verdict → ℕ) (xs : List ℕ) (k n : ℕ) → tally_lines c xs k (suc n) ≡ tally_lines c xs k n ++ tally_line c xs (k + n)
unfolding tally_lines
tallies_last c xs k zero = rw (add-zero, append-nil)
tallies_last c xs k (suc n) =
    ap (λ (t : List ℕ). tally_line c xs k ++ t) (tallies_last c xs (suc k) n) ∙ sym (append_assoc (tally_line c xs k) (tally_lines c xs (suc k) n) (tally_line c xs (suc k + n)))
    ∙ ap (λ (j : ℕ). (tally_line c xs k ++ tally_lines c xs (suc k) n) ++ tally_line c xs j) (omega arith)

-- the first column
pub placed_trues : {d e : List ℕ} {at r : ℕ} (counts : List ℕ) (k : ℕ) → Placed d at (spaced (get_or counts (4 * k) 0)) e r → Placed d at (spaced (count_at counts k True)) e r
placed_trues counts k w = rw (add-zero (4 * k)) w

pub placed_no_tally : (d : List ℕ) (at : ℕ) (c : ℕ → Verdict → ℕ) (xs : List ℕ) → at ≤ length d → Placed d at (tally_lines c xs 0 0) d at
unfolding tally_lines
placed_no_tally d at c xs h = placed_none d at h

pub placed_tally : {d e f : List ℕ} (c : ℕ → Verdict → ℕ) (xs : List ℕ) {at to r : ℕ} (n : ℕ) → Placed d at (tally_lines c xs 0 n) e to
    → Placed e to (tally_line c xs n) f r → Placed d at (tally_lines c xs 0 (n + 1)) f r
placed_tally c xs n v w = rw (add-one, tallies_last c xs 0 n, zero-add n) (placed_then v w)

-- only what is read counts: the counts and shares of the outputs from k on, below k + n
module _ (c d : ℕ → Verdict → ℕ) (xs ys : List ℕ) where
  tally-line-same : (k : ℕ) → ((v : Verdict) → c k v ≡ d k v) → get_or xs k 0 ≡ get_or ys k 0 → tally_line c xs k ≡ tally_line d ys k
  unfolding tally_line
  tally-line-same k h e = rw (h True, h False, h Open, h Broken, e)

  pub tally-lines-same : (k n : ℕ) → ((j : ℕ) → k ≤ j → j < k + n → ((v : Verdict) → c j v ≡ d j v) × (get_or xs j 0 ≡ get_or ys j 0)) → tally_lines c xs k n ≡ tally_lines d ys k n
  unfolding tally_lines
  tally-lines-same k zero h = refl
  tally-lines-same k (suc n) h =
      let e = h k (omega arith) (omega arith) in
      rw (tally-line-same k e.0 e.1, tally-lines-same (suc k) n (λ j a b. h j (omega arith) (omega arith)))
