-- The largest weight of a walk from one output to another, worked out by Kleene's (Floyd and Warshall's) algorithm on a table of entries:
-- no walk, a largest weight p - l, or weights without bound; and the proof that it is just that.
use mathlib.Core.Path.{◌≡◌, refl, sym, subst, ap₂}
use mathlib.Core.Bool.{Bool, true, false}
use Prim.Native.Nat.{ℕ, zero, suc, ◌+◌, ◌≤◌, ◌<◌}
use native.Mathlib.Omega.{arith}
use native.Mathlib.Decide.{dec_lt}
use lib.Dec.{leb}
use borrow.Author.Tests.{leb-true, leb-false}
use Rattle.circular.specs.Circular.{Edge}
use Rattle.circular.proofs.Walks.{Walk, one, more, append}

pub data Entry : Type 0 where
  none : Entry
  fin : ℕ → ℕ → Entry
  unb : Entry

unfoldable pub pick : Bool → Entry → Entry → Entry
pick true x y = x
pick false x y = y

unfoldable pub larger : Entry → Entry → Entry
unfolding pick
larger none y = y
larger (fin p l) none = fin p l
larger (fin p l) (fin p' l') = pick (leb (p + l') (p' + l)) (fin p' l') (fin p l)
larger (fin p l) unb = unb
larger unb y = unb

unfoldable pub plus : Entry → Entry → Entry
plus none y = none
plus (fin p l) none = none
plus (fin p l) (fin p' l') = fin (p + p') (l + l')
plus (fin p l) unb = unb
plus unb none = none
plus unb (fin p l) = unb
plus unb unb = unb

unfoldable pub blow : Entry → Entry
blow none = none
blow (fin p l) = unb
blow unb = unb

-- x after any number of rounds of a loop whose largest weight is c
unfoldable pub loop : Entry → Entry → Entry
unfolding pick blow
loop none x = x
loop (fin p l) x = pick (leb p l) x (blow x)
loop unb x = blow x

-- the edges from one output to another: the largest offset
unfoldable pub top : Bool → Bool → Bool → Entry
top e n true = fin 2 1
top e true false = fin 1 1
top true false false = fin 0 1
top false false false = none

-- walks whose inner outputs are below k
unfoldable pub Best : (ℕ → ℕ → ℕ → Bool) → ℕ → ℕ → ℕ → Entry
unfolding top larger plus loop
Best E zero i j = top (E i j 0) (E i j 1) (E i j 2)
Best E (suc k) i j = larger (Best E k i j) (plus (Best E k i k) (loop (Best E k k k) (Best E k k j)))

-- the order of entries
abbrev pub Le : Entry → Entry → Type 0
Le none y = Unit {0}
Le (fin p l) none = ⊥
Le (fin p l) (fin p' l') = p + l' ≤ p' + l
Le (fin p l) unb = Unit {0}
Le unb none = ⊥
Le unb (fin p l) = ⊥
Le unb unb = Unit {0}

le_refl : (x : Entry) → Le x x
le_refl none = tt
le_refl (fin p l) = omega arith
le_refl unb = tt

le_unb : (x : Entry) → Le x unb
le_unb none = tt
le_unb (fin p l) = tt
le_unb unb = tt

le_trans : (x y z : Entry) → Le x y → Le y z → Le x z
le_trans none y z h k = tt
le_trans (fin p l) none z h k = absurd h
le_trans (fin p l) (fin p' l') none h k = absurd k
le_trans (fin p l) (fin p' l') (fin p'' l'') h k = omega arith
le_trans (fin p l) (fin p' l') unb h k = tt
le_trans (fin p l) unb none h k = absurd k
le_trans (fin p l) unb (fin p'' l'') h k = absurd k
le_trans (fin p l) unb unb h k = tt
le_trans unb none z h k = absurd h
le_trans unb (fin p' l') z h k = absurd h
le_trans unb unb z h k = k

-- a statement of the larger of two follows from that of either
larger_elim : (P : Entry → Type 0) (x y : Entry) → P x → P y → P (larger x y)
unfolding larger pick
larger_elim P none y a b = b
larger_elim P (fin p l) none a b = a
larger_elim P (fin p l) (fin p' l') a b = go (leb (p + l') (p' + l))
  where
    go : (t : Bool) → P (pick t (fin p' l') (fin p l))
    go true = b
    go false = a
larger_elim P (fin p l) unb a b = b
larger_elim P unb y a b = a

larger_l : (x y : Entry) → Le x (larger x y)
unfolding larger pick
larger_l none y = tt
larger_l (fin p l) none = omega arith
larger_l (fin p l) (fin p' l') = go (leb (p + l') (p' + l)) refl
  where
    go : (t : Bool) → leb (p + l') (p' + l) ≡ t → Le (fin p l) (pick t (fin p' l') (fin p l))
    go true e = leb-true (p + l') (p' + l) e
    go false e = omega arith
larger_l (fin p l) unb = tt
larger_l unb y = tt

larger_r : (x y : Entry) → Le y (larger x y)
unfolding larger pick
larger_r none y = le_refl y
larger_r (fin p l) none = tt
larger_r (fin p l) (fin p' l') = go (leb (p + l') (p' + l)) refl
  where
    go : (t : Bool) → leb (p + l') (p' + l) ≡ t → Le (fin p' l') (pick t (fin p' l') (fin p l))
    go true e = omega arith
    go false e = omega (arith, leb-false (p + l') (p' + l) e)
larger_r (fin p l) unb = tt
larger_r unb y = le_unb y

plus_mono_l : (x y z : Entry) → Le x y → Le (plus x z) (plus y z)
unfolding plus
plus_mono_l none y z h = tt
plus_mono_l (fin p l) none z h = absurd h
plus_mono_l (fin p l) (fin p' l') none h = tt
plus_mono_l (fin p l) (fin p' l') (fin a b) h = omega arith
plus_mono_l (fin p l) (fin p' l') unb h = tt
plus_mono_l (fin p l) unb none h = tt
plus_mono_l (fin p l) unb (fin a b) h = tt
plus_mono_l (fin p l) unb unb h = tt
plus_mono_l unb none z h = absurd h
plus_mono_l unb (fin p' l') z h = absurd h
plus_mono_l unb unb none h = tt
plus_mono_l unb unb (fin a b) h = tt
plus_mono_l unb unb unb h = tt

plus_mono_r : (o u : ℕ) (y z : Entry) → Le y z → Le (plus (fin o u) y) (plus (fin o u) z)
unfolding plus
plus_mono_r o u none z h = tt
plus_mono_r o u (fin p l) none h = absurd h
plus_mono_r o u (fin p l) (fin p' l') h = omega arith
plus_mono_r o u (fin p l) unb h = tt
plus_mono_r o u unb none h = absurd h
plus_mono_r o u unb (fin p' l') h = absurd h
plus_mono_r o u unb unb h = tt

plus_assoc : (o u : ℕ) (y z : Entry) → plus (fin o u) (plus y z) ≡ plus (plus (fin o u) y) z
unfolding plus
plus_assoc o u none z = refl
plus_assoc o u (fin p l) none = refl
plus_assoc o u (fin p l) (fin p' l') = ap₂ fin (omega arith) (omega arith)
plus_assoc o u (fin p l) unb = refl
plus_assoc o u unb none = refl
plus_assoc o u unb (fin p l) = refl
plus_assoc o u unb unb = refl

le_blow : (x : Entry) → Le x (blow x)
unfolding blow
le_blow none = tt
le_blow (fin p l) = tt
le_blow unb = tt

le_loop : (c x : Entry) → Le x (loop c x)
unfolding loop pick
le_loop none x = le_refl x
le_loop (fin p l) x = go (leb p l)
  where
    go : (t : Bool) → Le x (pick t x (blow x))
    go true = le_refl x
    go false = le_blow x
le_loop unb x = le_blow x

blow_absorb : (p l : ℕ) (x : Entry) → Le (plus (fin p l) (blow x)) (blow x)
unfolding blow plus
blow_absorb p l none = tt
blow_absorb p l (fin a b) = tt
blow_absorb p l unb = tt

unb_absorb : (x : Entry) → Le (plus unb (blow x)) (blow x)
unfolding blow plus
unb_absorb none = tt
unb_absorb (fin a b) = tt
unb_absorb unb = tt

fin_absorb : (p l : ℕ) (x : Entry) → p ≤ l → Le (plus (fin p l) x) x
unfolding plus
fin_absorb p l none h = tt
fin_absorb p l (fin a b) h = omega arith
fin_absorb p l unb h = tt

loop_absorb : (c x : Entry) → Le (plus c (loop c x)) (loop c x)
unfolding loop plus pick
loop_absorb none x = tt
loop_absorb (fin p l) x = go (leb p l) refl
  where
    go : (t : Bool) → leb p l ≡ t → Le (plus (fin p l) (pick t x (blow x))) (pick t x (blow x))
    go true e = fin_absorb p l x (leb-true p l e)
    go false e = blow_absorb p l x
loop_absorb unb x = unb_absorb x

top_le : (E : ℕ → ℕ → ℕ → Bool) (i j o : ℕ) → o ≤ 2 → E i j o ≡ true → Le (fin o 1) (top (E i j 0) (E i j 1) (E i j 2))
unfolding top
top_le E i j zero h e = rw e (go (E i j 1) (E i j 2))
  where
    go : (b c : Bool) → Le (fin 0 1) (top true b c)
    go true true = omega arith
    go true false = omega arith
    go false true = omega arith
    go false false = omega arith
top_le E i j (suc zero) h e = rw e (go (E i j 2))
  where
    go : (c : Bool) → Le (fin 1 1) (top (E i j 0) true c)
    go true = omega arith
    go false = omega arith
top_le E i j (suc (suc zero)) h e = rw e go
  where
    go : Le (fin 2 1) (top (E i j 0) (E i j 1) true)
    go = omega arith
top_le E i j (suc (suc (suc o))) h e = absurd (omega arith)

cons_le : (o p l : ℕ) (x : Entry) → Le (fin p l) x → Le (fin (o + p) (suc l)) (plus (fin o 1) x)
unfolding plus
cons_le o p l none h = absurd h
cons_le o p l (fin a b) h = omega arith
cons_le o p l unb h = tt

-- an edge before a walk whose first inner output is below k, and before one whose first inner output is k
step-below : (o : ℕ) (d a x y r : Entry) → Le (plus (fin o 1) x) d → Le (plus (fin o 1) y) a → Le (plus (fin o 1) (larger x (plus y r))) (larger d (plus a r))
step-below o d a x y r h g =
    larger_elim (λ z. Le (plus (fin o 1) z) (larger d (plus a r))) x (plus y r)
    (le_trans (plus (fin o 1) x) d (larger d (plus a r)) h (larger_l d (plus a r)))
    (rw (plus_assoc o 1 y r) (le_trans (plus (plus (fin o 1) y) r) (plus a r) (larger d (plus a r)) (plus_mono_l (plus (fin o 1) y) a r g) (larger_r d (plus a r))))

step-at : (o : ℕ) (d a c x : Entry) → Le (fin o 1) a → Le (plus (fin o 1) (larger x (plus c (loop c x)))) (larger d (plus a (loop c x)))
step-at o d a c x h =
    le_trans (plus (fin o 1) (larger x (plus c r))) (plus (fin o 1) r) (larger d (plus a r))
    (plus_mono_r o 1 (larger x (plus c r)) r (larger_elim (λ z. Le z r) x (plus c r) (le_loop c x) (loop_absorb c x)))
    (le_trans (plus (fin o 1) r) (plus a r) (larger d (plus a r)) (plus_mono_l (fin o 1) a r h) (larger_r d (plus a r)))
  where
    r : Entry
    r = loop c x

module _ (n : ℕ) (E : ℕ → ℕ → ℕ → Bool) where
  -- an edge is no heavier than the entry
  edge-le : (k i j o : ℕ) → Edge n E i j o → Le (fin o 1) (Best E k i j)
  unfolding Best
  edge-le zero i j o e = top_le E i j o e.off e.is
  edge-le (suc k) i j o e =
      le_trans (fin o 1) (Best E k i j) _ (edge-le k i j o e) (larger_l (Best E k i j) (plus (Best E k i k) (loop (Best E k k k) (Best E k k j))))

  -- an edge before the best walk from an output below k
  edge-step : (k i m j o : ℕ) → Edge n E i m o → m < k → Le (plus (fin o 1) (Best E k m j)) (Best E k i j)
  unfolding Best
  edge-step zero i m j o e h = absurd (omega arith)
  edge-step (suc k) i m j o e h = go (dec_lt m k) (λ q. edge-step k i m j o e q) (λ q. edge-step k i m k o e q)
    where
      Aim : ℕ → Type 0
      Aim m = Le (plus (fin o 1) (larger (Best E k m j) (plus (Best E k m k) (loop (Best E k k k) (Best E k k j))))) (Best E (suc k) i j)

      go : Dec (m < k) → (m < k → Le (plus (fin o 1) (Best E k m j)) (Best E k i j)) → (m < k → Le (plus (fin o 1) (Best E k m k)) (Best E k i k)) → Aim m
      go (yes q) f g = step-below o (Best E k i j) (Best E k i k) (Best E k m j) (Best E k m k) (loop (Best E k k k) (Best E k k j)) (f q) (g q)
      go (no q) f g =
          let eq : m ≡ k = omega arith in
          subst Aim (sym eq) (step-at o (Best E k i j) (Best E k i k) (Best E k k k) (Best E k k j) (edge-le k i k o (subst (λ z. Edge n E i z o) eq e)))

  -- no walk is heavier than its entry
  pub bounded : {i j p l : ℕ} → Walk n E i j p l → Le (fin p l) (Best E n i j)
  bounded {i} {j} (one {o = o} e) = edge-le n i j o e
  bounded {i} {j} (more {r = m} {o = o} {p = p} {l = l} e w) =
      le_trans (fin (o + p) (suc l)) (plus (fin o 1) (Best E n m j)) (Best E n i j)
      (cons_le o p l (Best E n m j) (bounded w))
      (edge-step n i m j o e e.to)

-- what an entry says of the walks there are
abbrev pub Made : (n : ℕ) (E : ℕ → ℕ → ℕ → Bool) → ℕ → ℕ → Entry → Type 0
Made n E i j none = Unit {0}
Made n E i j (fin p l) = Walk n E i j p l
Made n E i j unb = (B : ℕ) → (p : ℕ) × (l : ℕ) × Walk n E i j p l × (l + B ≤ p)

module _ (n : ℕ) (E : ℕ → ℕ → ℕ → Bool) where
  made-plus : (i k j : ℕ) (x y : Entry) → Made n E i k x → Made n E k j y → Made n E i j (plus x y)
  unfolding plus
  made-plus i k j none y a b = tt
  made-plus i k j (fin p l) none a b = tt
  made-plus i k j (fin p l) (fin p' l') a b = append a b
  made-plus i k j (fin p l) unb a b = λ B. let (p', l', w, h) = b (B + l) in (p + p', l + l', append a w, omega arith)
  made-plus i k j unb none a b = tt
  made-plus i k j unb (fin p' l') a b = λ B. let (p, l, w, h) = a (B + l') in (p + p', l + l', append w b, omega arith)
  made-plus i k j unb unb a b = λ B. let (p, l, w, h) = a B in let (p', l', w', h') = b 0 in (p + p', l + l', append w w', omega arith)

  -- a closed walk of positive weight, round and round
  pump : {k p l : ℕ} → Walk n E k k p l → l < p → Made n E k k unb
  pump {p = p} {l = l} w h zero = (p, l, w, omega arith)
  pump {p = p} {l = l} w h (suc B) = let (p', l', w', h') = pump w h B in (p + p', l + l', append w w', omega arith)

  made-blow : (k j : ℕ) (x : Entry) → Made n E k k unb → Made n E k j x → Made n E k j (blow x)
  unfolding blow
  made-blow k j none c b = tt
  made-blow k j (fin p l) c b = λ B. let (p', l', w, h) = c (B + l) in (p' + p, l' + l, append w b, omega arith)
  made-blow k j unb c b = b

  made-loop : (k j : ℕ) (c x : Entry) → Made n E k k c → Made n E k j x → Made n E k j (loop c x)
  unfolding loop pick
  made-loop k j none x c b = b
  made-loop k j (fin p l) x c b = go (leb p l) refl
    where
      go : (t : Bool) → leb p l ≡ t → Made n E k j (pick t x (blow x))
      go true e = b
      go false e = made-blow k j x (pump c (leb-false p l e)) b
  made-loop k j unb x c b = made-blow k j x c b

  made-top : (i j : ℕ) → i < n → j < n → Made n E i j (top (E i j 0) (E i j 1) (E i j 2))
  unfolding top
  made-top i j hi hj = go (E i j 0) (E i j 1) (E i j 2) refl refl refl
    where
      edge : (o : ℕ) → o ≤ 2 → E i j o ≡ true → Walk n E i j o 1
      edge o h e = one (record { from = hi; to = hj; off = h; is = e })

      go : (a b c : Bool) → E i j 0 ≡ a → E i j 1 ≡ b → E i j 2 ≡ c → Made n E i j (top a b c)
      go a b true p q r = edge 2 (omega arith) r
      go a true false p q r = edge 1 (omega arith) q
      go true false false p q r = edge 0 (omega arith) p
      go false false false p q r = tt

  -- every entry is made by walks
  pub made : (k i j : ℕ) → k ≤ n → i < n → j < n → Made n E i j (Best E k i j)
  unfolding Best
  made zero i j h hi hj = made-top i j hi hj
  made (suc k) i j h hi hj =
      larger_elim (Made n E i j) (Best E k i j) (plus (Best E k i k) (loop (Best E k k k) (Best E k k j)))
      (made k i j (omega arith) hi hj)
      (made-plus i k j (Best E k i k) (loop (Best E k k k) (Best E k k j))
      (made k i k (omega arith) hi h)
      (made-loop k j (Best E k k k) (Best E k k j) (made k k k (omega arith) h h) (made k k j (omega arith) h hj)))
