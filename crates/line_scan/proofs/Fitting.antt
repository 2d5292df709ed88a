-- Which letters fit marks and alternatives.
use mathlib.Core.Path.{◌≡◌, refl, sym, ap, ap₂, ◌∙◌, subst}
use mathlib.Core.Bool.{Bool, true, false, cond, ◌&&◌, ◌||◌, or_comm, or_assoc, false≢true}
use mathlib.Core.List.{List, [], ◌∷◌, ◌++◌}
use Prim.Native.Nat.{ℕ, suc, ◌+◌, ◌*◌, ◌/◌, ◌%◌, ◌^◌, ◌<◌}
use native.Mathlib.Omega.{arith}
use native.Mathlib.Nat.{pow-suc}
use lib.Dec.{eqb}
use lib.ListN.{length}
use borrow.Author.Tests.{eqb-true}
use Rattle.words.specs.Below.{one}
use Rattle.words.proofs.Bools.{and_split}
use Rattle.words.proofs.CountLaws.{one_le_one}
use Rattle.line_scan.specs.Lines.{is_mark, all_marks, alternatives_from, whole, all_whole, fits, fits_one}

-- a mark says this of a bit
abbrev pub suits : ℕ → ℕ → Bool
suits b d = eqb b 63 || eqb b (48 + d)

-- a mark is `1`, `0` or `?`
pub mark_cases : (b : ℕ) (P : ℕ → Type 0) → P 48 → P 49 → P 63 → is_mark b ≡ true → P b
mark_cases b P p q r e = go (eqb b 48) (eqb b 49) (eqb b 63) refl refl refl e
  where
    go : (t u v : Bool) → eqb b 48 ≡ t → eqb b 49 ≡ u → eqb b 63 ≡ v → (t || (u || v)) ≡ true → P b
    go true u v h i j e = subst P (sym (eqb-true b 48 h)) p
    go false true v h i j e = subst P (sym (eqb-true b 49 i)) q
    go false false true h i j e = subst P (sym (eqb-true b 63 j)) r
    go false false false h i j e = absurd (false≢true e)

-- one alternative more
pub one-more-fits : (as' : List (List ℕ)) (a : List ℕ) (l : ℕ) → fits_one (as' ++ a ∷ []) l ≡ (fits_one as' l || fits a l)
unfolding fits_one
one-more-fits [] a l = or_comm (fits a l) false
one-more-fits (c ∷ as') a l = ap (λ (t : Bool). fits c l || t) (one-more-fits as' a l) ∙ sym (or_assoc (fits c l) (fits_one as' l) (fits a l))

-- ---- marks fit a letter

-- with 0 for the inputs that may be either
unfoldable least : List ℕ → ℕ
least [] = 0
least (b ∷ bs) = one (eqb b 49) + 2 * least bs

least_lt : (a : List ℕ) → least a < 2 ^ length a
unfolding least
least_lt [] = omega arith
least_lt (b ∷ bs) = omega (arith, least_lt bs, one_le_one (eqb b 49), pow-suc 2 (length bs))

mark_suits : (b : ℕ) → is_mark b ≡ true → suits b (one (eqb b 49)) ≡ true
mark_suits b e = mark_cases b (λ b. suits b (one (eqb b 49)) ≡ true) refl refl refl e

least_fits : (a : List ℕ) → all_marks a ≡ true → fits a (least a) ≡ true
unfolding fits all_marks least
least_fits [] e = refl
least_fits (b ∷ bs) e =
    let z = and_split (is_mark b) (all_marks bs) e in
    let low : (one (eqb b 49) + 2 * least bs) % 2 ≡ one (eqb b 49) = omega (arith, one_le_one (eqb b 49)) in
    let high : (one (eqb b 49) + 2 * least bs) / 2 ≡ least bs = omega (arith, one_le_one (eqb b 49)) in
    ap₂ (λ (d k : ℕ). suits b d && fits bs k) low high ∙ ap₂ ◌&&◌ (mark_suits b z.0) (least_fits bs z.1)

-- there is an alternative
pub some_alternative : (p l : List ℕ) → alternatives_from p l ≡ [] → ⊥
unfolding alternatives_from
some_alternative p [] e = let z : ◌≡◌ {A = ℕ} 1 0 = ap length e in omega arith
some_alternative p (b ∷ bs) e = go (eqb b 124) e (some_alternative (p ++ b ∷ []) bs)
  where
    go : (t : Bool) → cond t (p ∷ alternatives_from [] bs) (alternatives_from (p ++ b ∷ []) bs) ≡ [] → (alternatives_from (p ++ b ∷ []) bs ≡ [] → ⊥) → ⊥
    go true e rec = let z : suc (length (alternatives_from [] bs)) ≡ 0 = ap length e in omega arith
    go false e rec = rec e

-- and a letter below 2^m that fits it
pub some-letter : (m : ℕ) (as' : List (List ℕ)) → (as' ≡ [] → ⊥) → all_whole m as' ≡ true → (l : ℕ) × (l < 2 ^ m) × (fits_one as' l ≡ true)
unfolding all_whole fits_one
some-letter m [] n e = absurd (n refl)
some-letter m (a ∷ as') n e =
    let z = and_split (whole m a) (all_whole m as') e in
    let y = and_split (eqb (length a) m) (all_marks a) z.0 in
    let size : length a ≡ m = eqb-true (length a) m y.0 in
    (least a, rw (← size) (least_lt a), ap (λ (t : Bool). t || fits_one as' (least a)) (least_fits a y.1))
