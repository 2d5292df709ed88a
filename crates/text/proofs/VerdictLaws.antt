-- Laws of verdicts as characters.
use Rattle.outcomes.specs.declared.Verdict.{Verdict}
use mathlib.Core.Path.{◌≡◌, sym, ap, subst, ◌∙◌}
use mathlib.Core.List.{List, [], ◌∷◌, ◌++◌, map, map-append}
use Prim.Native.Nat.{ℕ, ◌+◌, ◌<◌}
use lib.ListN.{length}
use Rattle.outcomes.specs.Numbers.{told_at, verdict_list}
use Rattle.outcomes.proofs.NumberLaws.{told_more}
use Rattle.buffer.specs.Wrote.{Placed}
use Rattle.buffer.proofs.PlacedLaws.{placed_then}
use Rattle.text.specs.Text.{verdict_char}

-- the last of i + 1 characters
chars_last : (vs : List Verdict) (i : ℕ) → i < length vs → map verdict_char (verdict_list vs (i + 1)) ≡ map verdict_char (verdict_list vs i) ++ (verdict_char (told_at vs i) ∷ [])
chars_last vs i h = ap (map verdict_char) (told_more vs i h) ∙ map-append verdict_char (verdict_list vs i) (told_at vs i ∷ [])

pub placed_verdict : {d e f : List ℕ} (vs : List Verdict) {at to r : ℕ} (i : ℕ) → i < length vs → Placed d at (map verdict_char (verdict_list vs i)) e to
    → Placed e to (verdict_char (told_at vs i) ∷ []) f r → Placed d at (map verdict_char (verdict_list vs (i + 1))) f r
placed_verdict {d} {e} {f} vs {at} {to} {r} i h v w = subst (λ (t : List ℕ). Placed d at t f r) (sym (chars_last vs i h)) (placed_then v w)
