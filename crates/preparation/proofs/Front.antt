-- A search in the words in front of the storage, said of the storage.
use Rattle.std.proofs.Common.{◌≡◌, Bool, sym, subst, ◌∙◌, ◌↔◌, T, List, ◌++◌, ℕ, ◌≤◌, ◌<◌, length, drop, arith}
use Rattle.std.proofs.Math.Option.{Option}
use Rattle.sheet.specs.RuleSheet.{RuleSheet}
use Rattle.completions.specs.Live.{Live}
use Rattle.completions.specs.Steps.{Within}
use Rattle.completions.proofs.Count.{pairs_same}
use Rattle.pairs.specs.Storage.{live, live_at, storage_words}
use Rattle.pairs.proofs.Front.{front, front-at, front-stored, Lent, lent-front, front-framed}
use Rattle.preparation.specs.Searched.{Searched}

searched-lent : (x : RuleSheet) (s t : List ℕ) (count : ℕ) → Lent s t → Searched x (front s) (front t) count → Searched x s t count
searched-lent x s t count l d =
    let here : (b : ℕ) (c : Option ℕ) → b < 256 → Within 256 c → live (front t) b c ≡ live t b c = λ b c h w. front-stored t live_at b c (omega arith) h w in
    record {
      frame = front-framed live_at storage_words s t l (omega arith) d.frame;
      cleared = λ k h w. sym (front-at t k w) ∙ d.cleared k h w;
      counted = d.counted ∙ pairs_same 256 (live (front t)) (live t) (λ b c h w u. subst T (here b c h w) u) (λ b c h w u. subst T (sym (here b c h w)) u);
      bound = d.bound;
      live = λ b c h w. subst (λ (u : Bool). T u ↔ Live x b c) (here b c h w) (d.live b c h w);
    }

pub searched-front : (x : RuleSheet) (s ws t : List ℕ) (count : ℕ) → t ≡ ws ++ drop storage_words s → length ws ≡ storage_words → storage_words ≤ length s
    → Searched x (front s) ws count → Searched x s t count
searched-front x s ws t count y n g d =
    let z = lent-front s t ws y n g in searched-lent x s t count z.0 (rw z.1 d)
