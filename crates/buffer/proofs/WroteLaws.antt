-- Laws of writing: nothing, and one text after another.
use mathlib.Core.Path.{sym, ap, ◌∙◌}
use mathlib.Core.List.{List, [], ◌++◌, append_assoc, append-nil}
use Prim.Native.Nat.{ℕ}
use native.Mathlib.Omega.{arith}
use lib.ListN.{take, length-append}
use Rattle.buffer.specs.Wrote.{Wrote}

pub wrote_none : (d : List ℕ) (at : ℕ) → Wrote d at [] d at
wrote_none d at = record { end = omega arith; text = sym (append-nil (take at d)); size = omega arith }

pub wrote_then : {d e f xs ys : List ℕ} {at r q : ℕ} → Wrote d at xs e r → Wrote e r ys f q → Wrote d at (xs ++ ys) f q
wrote_then {d} {e} {f} {xs} {ys} {at} {r} {q} v w =
    record { end = simp length-append (omega (arith, v.end, w.end)); text = w.text ∙ ap (λ (l : List ℕ). l ++ ys) v.text ∙ append_assoc (take at d) xs ys; size = w.size ∙ v.size }
