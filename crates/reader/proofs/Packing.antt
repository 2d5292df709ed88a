-- Expressions copied from the sheet to their places in the code.
use mathlib.Core.Path.{◌≡◌, sym, ◌∙◌}
use mathlib.Core.List.{List}
use Prim.Native.Nat.{ℕ, ◌+◌, ◌*◌, ◌≤◌, ◌<◌}
use native.Mathlib.Omega.{arith}
use native.Mathlib.Nat.{zero-add}
use lib.ListN.{length, take, drop, get_or, set, length-drop}
use lib.Seq.{ext_get_or, get_or-take, get_or-drop, get_or-set_same, get_or-set_other, length-take-le, take_all}
use Rattle.sheet.specs.Parts.{code_at}
use Rattle.reader.specs.Answer.{Put}

-- parts that agree place by place are equal
same-part : (a b : List ℕ) (i j n : ℕ) → i + n ≤ length a → j + n ≤ length b → ((k : ℕ) → k < n → get_or a (i + k) 0 ≡ get_or b (j + k) 0) → take n (drop i a) ≡ take n (drop j b)
same-part a b i j n h l f =
    let p : length (take n (drop i a)) ≡ n = length-take-le n (drop i a) (omega (arith, length-drop i a)) in
    let q : length (take n (drop j b)) ≡ n = length-take-le n (drop j b) (omega (arith, length-drop j b)) in
    ext_get_or 0 (take n (drop i a)) (take n (drop j b)) (p ∙ sym q)
    (λ k g.
    get_or-take n (drop i a) k 0 (omega arith) ∙ get_or-drop i a k 0 ∙ f k (omega arith) ∙ sym (get_or-drop j b k 0) ∙ sym (get_or-take n (drop j b) k 0 (omega arith)))

-- one expression more is copied, after k that stay as they are
module _ (len old : List ℕ) (k l : ℕ) (e new : List ℕ) (size : length e ≡ l) (short : l ≤ 64) (sizes : length len ≡ 7) (code_size : length old ≡ 448) (few : k < 7)
    (small : (j : ℕ) → j < k → get_or len j 0 ≤ 64) (put : Put (64 * k) e old new) where
  pub copied : code_at new (set len k l) k ≡ e
  copied =
      rw (get_or-set_same len k l 0 (omega arith))
      (same-part new e (64 * k) 0 l (omega (arith, put.same_length)) (omega arith) (λ a b. rw (zero-add a) (put.part a (omega arith)))
      ∙ take_all l e (omega arith))

  pub not-touched : (j : ℕ) → j < k → code_at new (set len k l) j ≡ code_at old len j
  not-touched j h =
      rw (get_or-set_other len k j l 0 (omega arith))
      (same-part new old (64 * j) (64 * j) (get_or len j 0) (omega (arith, put.same_length, small j h)) (omega (arith, small j h))
      (λ a b. put.below (64 * j + a) (omega (arith, small j h))))
