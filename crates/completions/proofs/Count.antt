-- Counts of pairs that pass a test.
use mathlib.Core.Bool.{not}
use mathlib.Core.Path.{◌≡◌}
use mathlib.Core.Option.{Option, none, some}
use Prim.Native.Nat.{ℕ, ◌+◌, ◌*◌, ◌≤◌, ◌<◌}
use native.Mathlib.Nat.{le_antisymm}
use native.Mathlib.Omega.{arith}
use lib.Dec.{T}
use Rattle.words.specs.Below.{sum_below, count_below}
use Rattle.words.proofs.CountLaws.{sum_le, sum_lt, sum_bound, sum_cong, sum_add, sum_nothing, count-le, count-lt, count-bound, count_none, count_wider}
use Rattle.completions.specs.Live.{count_pairs, Pairs}
use Rattle.completions.specs.Steps.{Within}

abbrev pub Subset : ℕ → Pairs → Pairs → Type 0
Subset w S R = (a : ℕ) (b : Option ℕ) → a < w → Within w b → T (S a b) → T (R a b)

module _ (w : ℕ) (S R : Pairs) (sub : Subset w S R) where
  row-le : (b : Option ℕ) → Within w b → count_below w (λ a. S a b) ≤ count_below w (λ a. R a b)
  row-le b h = count-le w (λ a. S a b) (λ a. R a b) (λ a k t. sub a b k h t)

  row_lt : (b : Option ℕ) → Within w b → (a : ℕ) → a < w → T (not (S a b)) → T (R a b) → count_below w (λ a. S a b) < count_below w (λ a. R a b)
  row_lt b h a k x y = count-lt w (λ a. S a b) (λ a. R a b) (λ a k t. sub a b k h t) a k x y

  rows_le : sum_below w (λ b. count_below w (λ a. S a (some b))) ≤ sum_below w (λ b. count_below w (λ a. R a (some b)))
  rows_le = sum_le w (λ b. count_below w (λ a. S a (some b))) (λ b. count_below w (λ a. R a (some b))) (λ b h. row-le (some b) h)

  pub pairs-le : count_pairs w S ≤ count_pairs w R
  unfolding count_pairs
  pairs-le = omega (arith, row-le none tt, rows_le)

  -- one pair more counts one more
  pub pairs_lt : (a : ℕ) (b : Option ℕ) → a < w → Within w b → T (not (S a b)) → T (R a b) → count_pairs w S < count_pairs w R
  unfolding count_pairs
  pairs_lt a none k h x y = omega (arith, row_lt none tt a k x y, rows_le)
  pairs_lt a (some b) k h x y =
      omega (
        arith,
        row-le none tt,
        sum_lt w (λ b. count_below w (λ a. S a (some b))) (λ b. count_below w (λ a. R a (some b))) (λ b h. row-le (some b) h) b h (row_lt (some b) h a k x y),
      )

-- there are at most w * (w + 1) pairs
pub pairs_bound : (w : ℕ) (S : Pairs) → count_pairs w S ≤ w * 1 + w * (w * 1)
unfolding count_pairs
pairs_bound w S =
    omega (
      arith,
      count-bound w (λ a. S a none),
      sum_bound w (λ b. count_below w (λ a. S a (some b))) (w * 1) (λ b h. count-bound w (λ a. S a (some b))),
    )

-- a count depends only on the pairs below w
pub pairs_same : (w : ℕ) (S R : Pairs) → Subset w S R → Subset w R S → count_pairs w S ≡ count_pairs w R
pairs_same w S R f g = le_antisymm (pairs-le w S R f) (pairs-le w R S g)

-- ---- a wider search counts nothing more where all that passes lies below the narrower bound

module _ (p q : ℕ) where
  pub pairs-wider : (S : Pairs) → ((a : ℕ) (b : Option ℕ) → T (S a b) → (a < p) × Within p b) → count_pairs (p + q) S ≡ count_pairs p S
  unfolding count_pairs
  pairs-wider S h =
      let rows : sum_below p (λ b. count_below (p + q) (λ a. S a (some b))) ≡ sum_below p (λ b. count_below p (λ a. S a (some b))) =
      sum_cong p (λ b. count_below (p + q) (λ a. S a (some b))) (λ b. count_below p (λ a. S a (some b))) (λ b k. count_wider p q (λ a. S a (some b)) (λ a t. (h a (some b) t).0)) in
      let rest : sum_below q (λ i. count_below (p + q) (λ a. S a (some (p + i)))) ≡ 0 =
      sum_nothing q (λ i. count_below (p + q) (λ a. S a (some (p + i))))
      (λ i k. count_none (p + q) (λ a. S a (some (p + i))) (λ a t. omega (arith, (h a (some (p + i)) t).1))) in
      omega (arith, count_wider p q (λ a. S a none) (λ a t. (h a none t).0), rows, rest, sum_add p q (λ b. count_below (p + q) (λ a. S a (some b))))
