-- A stack of words is a stack of truth values in each lane: what each branch of a step does to it.
use mathlib.Core.Path.{◌≡◌, refl, sym, ap, ap₂, ◌∙◌}
use mathlib.Core.Bool.{Bool, not}
use mathlib.Core.List.{List, ◌∷◌}
use Prim.Native.Nat.{ℕ, zero, suc, ◌+◌, ◌-◌, ◌%◌, ◌≤◌, ◌<◌}
use native.Mathlib.Omega.{arith}
use native.Mathlib.Numerals.{add-one}
use native.Mathlib.Decide.{ℕ_discrete}
use lib.Dec.{eqb}
use borrow.Author.Tests.{eq-eqb, ne_eqb, lt-ltb, le-ltb}
use Rattle.lanes.specs.Machine.{neg_top, and_top, or_top, equal_top, basic, stepped}
use Rattle.lanes.specs.Around.{down_from, lane_stack}

-- ---- what a byte does, by the tests that the code makes

module _ (env : ℕ → Bool) (e : ℕ) (s : List Bool) where
  pub byte-read : 64 ≤ e → env (e % 64) ∷ s ≡ stepped env e s
  unfolding stepped
  byte-read l = sym (rw (le-ltb e 64 l))

  byte-basic : e < 64 → basic e s ≡ stepped env e s
  unfolding stepped
  byte-basic l = sym (rw (lt-ltb e 64 l))

  pub byte-const : e < 2 → eqb e 1 ∷ s ≡ stepped env e s
  unfolding basic
  byte-const l = sym (rw (lt-ltb e 2 l)) ∙ byte-basic (omega arith)

  pub byte-not : e ≡ 2 → neg_top s ≡ stepped env e s
  unfolding basic
  byte-not q = let l : 2 ≤ e = omega arith in sym (rw (le-ltb e 2 l, eq-eqb e 2 q)) ∙ byte-basic (omega arith)

  pub byte-and : e ≡ 3 → and_top s ≡ stepped env e s
  unfolding basic
  byte-and q =
      let l : 2 ≤ e = omega arith in let n : e ≡ 2 → ⊥ = λ h. omega arith in sym (rw (le-ltb e 2 l, ne_eqb e 2 n, eq-eqb e 3 q)) ∙ byte-basic (omega arith)

  pub byte_or : e ≡ 4 → or_top s ≡ stepped env e s
  unfolding basic
  byte_or q =
      let l : 2 ≤ e = omega arith in
      let n2 : e ≡ 2 → ⊥ = λ h. omega arith in
      let n3 : e ≡ 3 → ⊥ = λ h. omega arith in
      sym (rw (le-ltb e 2 l, ne_eqb e 2 n2, ne_eqb e 3 n3, eq-eqb e 4 q)) ∙ byte-basic (omega arith)

  pub byte-equal : 4 < e → e < 64 → equal_top s ≡ stepped env e s
  unfolding basic
  byte-equal g u =
      let l : 2 ≤ e = omega arith in
      let n2 : e ≡ 2 → ⊥ = λ h. omega arith in
      let n3 : e ≡ 3 → ⊥ = λ h. omega arith in
      let n4 : e ≡ 4 → ⊥ = λ h. omega arith in
      sym (rw (le-ltb e 2 l, ne_eqb e 2 n2, ne_eqb e 3 n3, ne_eqb e 4 n4)) ∙ byte-basic u

-- ---- one lane

cons : {u v : Bool} {s t : List Bool} → u ≡ v → s ≡ t → u ∷ s ≡ v ∷ t
cons p q = ap₂ (λ (x : Bool) (xs : List Bool). x ∷ xs) p q

down_same : (E F : ℕ → Bool) (n : ℕ) → ((k : ℕ) → k < n → F k ≡ E k) → down_from F n ≡ down_from E n
unfolding down_from
down_same E F zero h = refl
down_same E F (suc n) h = cons (h n (omega arith)) (down_same E F n (λ k l. h k (omega arith)))

-- E below the top x and F below the top y, for a byte that the code has put into effect
module _ (env : ℕ → Bool) (e : ℕ) (x : Bool) (E : ℕ → Bool) (n : ℕ) (y : Bool) (F : ℕ → Bool) where
  pushed : (v : Bool) → y ≡ v → F n ≡ x → ((k : ℕ) → k < n → F k ≡ E k) → lane_stack y F (n + 1) ≡ v ∷ lane_stack x E n
  unfolding down_from
  pushed v p q h = ap (lane_stack y F) (add-one n) ∙ cons p (cons q (down_same E F n h))

  pub lane-read : 64 ≤ e → y ≡ env (e % 64) → F n ≡ x → ((k : ℕ) → k < n → F k ≡ E k) → lane_stack y F (n + 1) ≡ stepped env e (lane_stack x E n)
  lane-read l p q h = pushed (env (e % 64)) p q h ∙ byte-read env e (lane_stack x E n) l

  pub lane-const : e < 2 → y ≡ eqb e 1 → F n ≡ x → ((k : ℕ) → k < n → F k ≡ E k) → lane_stack y F (n + 1) ≡ stepped env e (lane_stack x E n)
  lane-const l p q h = pushed (eqb e 1) p q h ∙ byte-const env e (lane_stack x E n) l

  pub lane_not : e ≡ 2 → y ≡ not x → ((k : ℕ) → k < n → F k ≡ E k) → lane_stack y F n ≡ stepped env e (lane_stack x E n)
  unfolding neg_top
  lane_not q p h = cons p (down_same E F n h) ∙ byte-not env e (lane_stack x E n) q

-- an operator on two values; one that lacks a value changes nothing
module _ (env : ℕ → Bool) (e : ℕ) (x : Bool) (E : ℕ → Bool) (y : Bool) (F : ℕ → Bool) where
  pub lane-two : (op : Bool → Bool → Bool) → ((v : Bool) (s : List Bool) → op v x ∷ s ≡ stepped env e (x ∷ (v ∷ s)))
      → (n : ℕ) → 1 ≤ n → y ≡ op (E (n - 1)) x → ((k : ℕ) → k < n - 1 → F k ≡ E k) → lane_stack y F (n - 1) ≡ stepped env e (lane_stack x E n)
  unfolding down_from
  lane-two op does zero l p h = absurd (omega arith)
  lane-two op does (suc n) l p h =
      let z : suc n - 1 ≡ n = omega arith in
      ap (lane_stack y F) z ∙ cons (p ∙ ap (λ (k : ℕ). op (E k) x) z) (down_same E F n (λ k g. h k (omega arith))) ∙ does (E n) (down_from E n)

pub lane_lacks : (env : ℕ → Bool) (e : ℕ) (x : Bool) (E : ℕ → Bool) (n : ℕ) → n ≡ 0 → 2 < e → e < 64
    → lane_stack x E n ≡ stepped env e (lane_stack x E n)
unfolding and_top or_top equal_top down_from
lane_lacks env e x E (suc n) z l u = absurd (omega arith)
lane_lacks env e x E zero z l u = go (ℕ_discrete e 3) (ℕ_discrete e 4)
  where
    go : Dec (e ≡ 3) → Dec (e ≡ 4) → lane_stack x E zero ≡ stepped env e (lane_stack x E zero)
    go (yes q) d = byte-and env e (lane_stack x E zero) q
    go (no n3) (yes q) = byte_or env e (lane_stack x E zero) q
    go (no n3) (no n4) = byte-equal env e (lane_stack x E zero) (omega arith) u
