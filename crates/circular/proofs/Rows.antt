-- Rows filled entry by entry, and tables filled row by row.
use Rattle.std.proofs.Common.{◌≡◌, refl, ◌∙◌, ap, ap₂, List, [], ℕ, ◌+◌, ◌≤◌, ◌<◌, length, get_or, set, replicate, arith, below_more, get_or-set_same, get_or-set_other}
use Prim.Native.Nat.{max}
use lib.ListN.{get_or-replicate, length-set}
use native.Mathlib.Decide.{dec_lt, ℕ_discrete}
use Rattle.words.proofs.ListLaws.{zeros}
use Rattle.circular.specs.Table.{row_of, entry, plus_n, loop_n, cell_n, Small, SmallTable, Tails, Joined}
use Rattle.circular.proofs.Codes.{plus_le, loop_le}

-- what holds of the entries below k, and of x at k, holds below k + 1 once x is put there
pub put-more : {A : Type 0} (P : ℕ → A → Type 0) (d : A) (xs : List A) (k : ℕ) (x : A) → k < length xs → P k x → ((j : ℕ) → j < k → P j (get_or xs j d)) → (j : ℕ) → j < k + 1 → P j (get_or (set xs k x) j d)
put-more P d xs k x h p f =
    below_more (λ (j : ℕ). P j (get_or (set xs k x) j d)) k (λ j l. rw (get_or-set_other xs k j x d (omega arith)) (f j l)) (rw (get_or-set_same xs k x d h) p)

-- the first n entries are those of f, and the others are kept
pub record Front (n : ℕ) (f : ℕ → ℕ) (old new : List ℕ) : Type 0 where
  pub same_length : length new ≡ length old
  pub done : (q : ℕ) → q < n → get_or new q 0 ≡ f q
  pub left : (q : ℕ) → n ≤ q → get_or new q 0 ≡ get_or old q 0

larger_le : (x y : ℕ) → x ≤ 4096 → y ≤ 4096 → max x y ≤ 4096
larger_le x y h g = omega arith

module _ (f : ℕ → ℕ) (old : List ℕ) where
  pub front-more : (n v : ℕ) (new : List ℕ) → n < length new → v ≡ f n → Front n f old new → Front (n + 1) f old (set new n v)
  front-more n v new h e p =
      record {
        same_length = length-set new n v ∙ p.same_length;
        done = put-more (λ q x. x ≡ f q) 0 new n v h e p.done;
        left = λ q l. get_or-set_other new n q v 0 (omega arith) ∙ p.left q (omega arith);
      }

module _ (n : ℕ) (f : ℕ → ℕ) (old new : List ℕ) (p : Front n f old new) where
  pub small-front : ((q : ℕ) → q < n → f q ≤ 4096) → Small old → Small new
  small-front b s = record { entries = λ q h. go q h (dec_lt q n) }
    where
      go : (q : ℕ) → q < 8 → Dec (q < n) → get_or new q 0 ≤ 4096
      go q h (yes l) = rw (p.done q l) (b q l)
      go q h (no l) = rw (p.left q (omega arith)) (s.entries q h)

pub small_zeros : Small (replicate 8 0)
small_zeros = record { entries = λ q h. rw (zeros 8 q) (omega arith) }

pub eight-rows : SmallTable (replicate 8 (replicate 8 0))
eight-rows = let zero : List ℕ = replicate 8 0 in record { size = refl; rows = λ s h. rw (get_or-replicate 8 s zero [] h) small_zeros }

pub small_set : (t : List (List ℕ)) (i : ℕ) (row : List ℕ) → i < 8 → Small row → SmallTable t → SmallTable (set t i row)
small_set t i row h r s = record { size = length-set t i row ∙ s.size; rows = λ j l. go j l (ℕ_discrete j i) }
  where
    go : (j : ℕ) → j < 8 → Dec (j ≡ i) → Small (row_of (set t i row) j)
    go j l (yes e) = rw (e, get_or-set_same t i row [] (omega (arith, s.size))) r
    go j l (no e) = rw (get_or-set_other t i j row [] (λ q. e (omega arith))) (s.rows j l)

-- the first n rows have their first w entries from f, and the other rows are kept
pub record FrontRows (n w : ℕ) (f : ℕ → ℕ → ℕ) (old new : List (List ℕ)) : Type 0 where
  pub done : (i : ℕ) → i < n → (j : ℕ) → j < w → entry new i j ≡ f i j
  pub left : (i : ℕ) → n ≤ i → row_of new i ≡ row_of old i

module _ (w : ℕ) (f : ℕ → ℕ → ℕ) (old : List (List ℕ)) where
  pub rows_none : FrontRows 0 w f old old
  rows_none = record { done = λ i h. absurd (omega arith); left = λ i h. refl }

  pub rows_more : (n : ℕ) (row : List ℕ) (new : List (List ℕ)) → n < length new → ((j : ℕ) → j < w → get_or row j 0 ≡ f n j) → FrontRows n w f old new → FrontRows (n + 1) w f old (set new n row)
  rows_more n row new h e p =
      record {
        done = put-more (λ i x. (j : ℕ) → j < w → get_or x j 0 ≡ f i j) [] new n row h e p.done;
        left = λ i l. get_or-set_other new n i row [] (omega arith) ∙ p.left i (omega arith);
      }

  pub rows-kept : (n : ℕ) (new : List (List ℕ)) → ((j : ℕ) → j < w → entry new n j ≡ f n j) → FrontRows n w f old new → FrontRows (n + 1) w f old new
  rows-kept n new e p =
      record { done = below_more (λ (i : ℕ). (j : ℕ) → j < w → entry new i j ≡ f i j) n p.done e; left = λ i l. p.left i (omega arith) }

-- one row of a stage
module _ (t₀ t : List (List ℕ)) (k i : ℕ) (on : List ℕ) (tails : Tails (row_of t₀ k) k on) (r : FrontRows i 8 (cell_n t₀ k) t₀ t) where
  abbrev After : List (List ℕ) → Type 0
  After u = SmallTable u × FrontRows (i + 1) 8 (cell_n t₀ k) t₀ u

  -- with walks to output k
  pub stage-joined : i < 8 → (row : List ℕ) → Joined (row_of t i) (entry t i k) on row → SmallTable t → After (set t i row)
  unfolding cell_n
  stage-joined l row j s = (small_set t i row l j.small s, rows_more 8 (cell_n t₀ k) t₀ i row t (omega (arith, s.size)) cells r)
    where
      cells : (q : ℕ) → q < 8 → get_or row q 0 ≡ cell_n t₀ k i q
      cells q h =
          j.cells q h
          ∙ ap₂ max (ap (λ (z : List ℕ). get_or z q 0) (r.left i (omega arith))) (ap₂ plus_n (ap (λ (z : List ℕ). get_or z k 0) (r.left i (omega arith))) (tails.cells q h))

  -- with none
  pub stage-kept : entry t i k ≡ 0 → SmallTable t → After t
  unfolding cell_n plus_n
  stage-kept e s = (s, rows-kept 8 (cell_n t₀ k) t₀ i t cells r)
    where
      cells : (q : ℕ) → q < 8 → entry t i q ≡ cell_n t₀ k i q
      cells q h =
          let same : row_of t i ≡ row_of t₀ i = r.left i (omega arith) in
          let none : entry t₀ i k ≡ 0 = rw same at e in
          rw (same, none) (omega arith)

pub tails-of : (row : List ℕ) (k n : ℕ) (new : List ℕ) → 8 ≤ n → Small row → Front n (λ q. loop_n (get_or row k 0) (get_or row q 0)) row new → Tails row k new
tails-of row k n new h s p =
    record { small = record { entries = λ q l. rw (p.done q (omega arith)) (loop_le _ _ (s.entries q l)) }; cells = λ q l. p.done q (omega arith) }

pub joined-of : (row : List ℕ) (to n : ℕ) (on new : List ℕ) → 8 ≤ n → Small row → Front n (λ q. max (get_or row q 0) (plus_n to (get_or on q 0))) row new → Joined row to on new
joined-of row to n on new h s p =
    record {
      small = record { entries = λ q l. rw (p.done q (omega arith)) (larger_le _ _ (s.entries q l) (plus_le to (get_or on q 0))) };
      cells = λ q l. p.done q (omega arith);
    }
