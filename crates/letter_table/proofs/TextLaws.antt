-- Laws of the table's text.
use mathlib.Core.Path.{◌≡◌, sym, ap, ◌∙◌}
use mathlib.Core.List.{List, [], ◌∷◌, ◌++◌, append_assoc, append-nil}
use Prim.Native.Nat.{ℕ, zero, suc, ◌+◌, ◌≤◌}
use native.Mathlib.Nat.{add-zero, zero-add}
use native.Mathlib.Omega.{arith}
use native.Mathlib.Numerals.{add-one}
use lib.ListN.{length}
use Rattle.buffer.specs.Decimal.{decimal}
use Rattle.buffer.specs.Wrote.{Placed}
use Rattle.buffer.proofs.PlacedLaws.{placed_none, placed_then}
use Rattle.letter_table.specs.Entry.{entry_of, table_text}

-- the last of n + 1 lines
text-last : (e n : ℕ) → table_text e (suc n) ≡ table_text e n ++ (decimal (entry_of (e + n)) ++ (10 ∷ []))
unfolding table_text
text-last e zero = rw (add-zero, append-nil)
text-last e (suc n) =
    let z : suc e + n ≡ e + suc n = omega arith in
    ap (λ (t : List ℕ). (decimal (entry_of e) ++ (10 ∷ [])) ++ t) (text-last (suc e) n)
    ∙ sym (append_assoc (decimal (entry_of e) ++ (10 ∷ [])) (table_text (suc e) n) (decimal (entry_of (suc e + n)) ++ (10 ∷ [])))
    ∙ ap (λ (j : ℕ). ((decimal (entry_of e) ++ (10 ∷ [])) ++ table_text (suc e) n) ++ (decimal (entry_of j) ++ (10 ∷ []))) z

pub placed_no_line : (d : List ℕ) (at : ℕ) → at ≤ length d → Placed d at (table_text 0 0) d at
unfolding table_text
placed_no_line d at h = placed_none d at h

pub placed_line : {d e f g : List ℕ} {at to q r : ℕ} (n x : ℕ) → x ≡ entry_of n → Placed d at (table_text 0 n) e to → Placed e to (decimal x) f q → Placed f q (10 ∷ []) g r
    → Placed d at (table_text 0 (n + 1)) g r
placed_line n x i u v w = rw (add-one, text-last 0 n, zero-add n, ← i) (placed_then u (placed_then v w))
