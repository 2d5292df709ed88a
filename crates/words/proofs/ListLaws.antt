-- Lists of zeros, and lists written entry by entry.
use mathlib.Core.Path.{◌≡◌, refl}
use mathlib.Core.List.{List}
use Prim.Native.Nat.{ℕ, zero, suc, ◌+◌, ◌<◌}
use native.Mathlib.Omega.{arith}
use lib.ListN.{length, get_or, set, replicate}
use lib.Seq.{get_or-set_same, get_or-set_other}
use borrow.Author.Count.{below_more}

-- every number of a list of zeros is 0, and so is what is read past its end
pub zeros : (n k : ℕ) → ◌≡◌ {A = ℕ} (get_or (replicate n 0) k 0) 0
zeros zero k = refl
zeros (suc n) zero = refl
zeros (suc n) (suc k) = zeros n k

module _ (P : ℕ → ℕ → Type 0) where
  -- what holds of the entries below k, and of x at k, holds below k + 1 once x is put there
  pub set_more : (xs : List ℕ) (k x : ℕ) → k < length xs → P k x → ((j : ℕ) → j < k → P j (get_or xs j 0)) → (j : ℕ) → j < k + 1 → P j (get_or (set xs k x) j 0)
  set_more xs k x h p f =
      below_more (λ (j : ℕ). P j (get_or (set xs k x) j 0)) k (λ j l. rw (get_or-set_other xs k j x 0 (omega arith)) (f j l)) (rw (get_or-set_same xs k x 0 h) p)

  -- the same for the entries from `from` on
  pub set-more-from : (from : ℕ) (xs : List ℕ) (k x : ℕ) → from + k < length xs → P k x → ((j : ℕ) → j < k → P j (get_or xs (from + j) 0))
      → (j : ℕ) → j < k + 1 → P j (get_or (set xs (from + k) x) (from + j) 0)
  set-more-from from xs k x h p f =
      below_more (λ (j : ℕ). P j (get_or (set xs (from + k) x) (from + j) 0)) k (λ j l. rw (get_or-set_other xs (from + k) (from + j) x 0 (omega arith)) (f j l))
      (rw (get_or-set_same xs (from + k) x 0 h) p)
