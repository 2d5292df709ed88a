-- The tables of numbers that the code keeps stand for the tables of entries.
use mathlib.Core.Path.{◌≡◌, refl, sym, ap, ap₂, ◌∙◌}
use mathlib.Core.Bool.{Bool, true, false, cond, ◌&&◌, false≢true}
use mathlib.Core.List.{List}
use Rattle.std.specs.Prelude.{IsTrue, ◌↔◌}
use Prim.Native.Nat.{ℕ, zero, suc, ◌+◌, ◌-◌, ◌^◌, ◌≤◌, ◌<◌, max}
use native.Mathlib.Omega.{arith}
use native.Mathlib.Numerals.{add-one}
use lib.Pow.{pow_mono}
use lib.Dec.{leb, eqb}
use borrow.Author.Tests.{leb-true, leb-false, le-leb, lt-leb, eq-eqb, ne_eqb}
use Rattle.words.specs.Below.{any_below}
use Rattle.words.proofs.AnyLaws.{any_cong, some_any, any_none, none_any}
use Rattle.circular.specs.Circular.{Edge, Reach, last, then, Circular}
use Rattle.circular.specs.Table.{clip_n, plus_n, loop_n, entry, cell_n, best_n, top_n, base_n, Next, Based, Closed, level_both}
use Rattle.circular.proofs.Closure.{Entry, none, fin, unb, pick, larger, plus, blow, loop, top, Best}
use Rattle.circular.proofs.Decide.{turned, at_least0, circular_at, circular?, circular?_true, circular?_of}

-- bounds
cond_le : (b : Bool) (x y : ℕ) → x ≤ 4096 → y ≤ 4096 → cond b x y ≤ 4096
cond_le true x y h g = h
cond_le false x y h g = g

clip_le : (s : ℕ) → clip_n s ≤ 4096
unfolding clip_n
clip_le s = go (leb 5120 s) refl
  where
    go : (b : Bool) → leb 5120 s ≡ b → cond b 4096 (s - 1024) ≤ 4096
    go true e = omega arith
    go false e = omega (arith, leb-false 5120 s e)

pub plus_le : (x y : ℕ) → plus_n x y ≤ 4096
unfolding plus_n
plus_le x y =
    cond_le (eqb x 0) 0 _ (omega arith)
    (cond_le (eqb y 0) 0 _ (omega arith)
    (cond_le (eqb x 4096) 4096 _ (omega arith)
    (cond_le (eqb y 4096) 4096 _ (omega arith) (clip_le (x + y)))))

pub loop_le : (c x : ℕ) → x ≤ 4096 → loop_n c x ≤ 4096
unfolding loop_n
loop_le c x h = cond_le (leb c 1024) x _ h (cond_le (eqb x 0) 0 4096 (omega arith) (omega arith))

-- a number stands for an entry whose weight is at most w either way
abbrev pub Rep : ℕ → Entry → ℕ → Type 0
Rep w none x = x ≡ 0
Rep w (fin p l) x = (x + l ≡ 1024 + p) × (1024 ≤ x + w) × (x ≤ 1024 + w)
Rep w unb x = x ≡ 4096

rep_wider : (w v : ℕ) (e : Entry) (x : ℕ) → w ≤ v → Rep w e x → Rep v e x
rep_wider w v none x h r = r
rep_wider w v (fin p l) x h r = (r.0, omega arith, omega arith)
rep_wider w v unb x h r = r

-- the larger of two codes is one of them
larger_first : (w : ℕ) (e : Entry) (x y : ℕ) → y ≤ x → Rep w e x → Rep w e (max x y)
larger_first w e x y h r = let z : max x y ≡ x = omega arith in rw z r

larger_second : (w : ℕ) (e : Entry) (x y : ℕ) → x ≤ y → Rep w e y → Rep w e (max x y)
larger_second w e x y h r = let z : max x y ≡ y = omega arith in rw z r

rep_larger : (w : ℕ) (a b : Entry) (x y : ℕ) → w ≤ 512 → Rep w a x → Rep w b y → Rep w (larger a b) (max x y)
unfolding larger pick
rep_larger w none b x y h r q = larger_second w b x y (omega arith) q
rep_larger w (fin p l) none x y h r q = larger_first w (fin p l) x y (omega arith) r
rep_larger w (fin p l) (fin p' l') x y h r q = go (leb (p + l') (p' + l)) refl
  where
    go : (t : Bool) → leb (p + l') (p' + l) ≡ t → Rep w (pick t (fin p' l') (fin p l)) (max x y)
    go true e = larger_second w (fin p' l') x y (omega (arith, leb-true (p + l') (p' + l) e)) q
    go false e = larger_first w (fin p l) x y (omega (arith, leb-false (p + l') (p' + l) e)) r
rep_larger w (fin p l) unb x y h r q = larger_second w unb x y (omega arith) q
rep_larger w unb none x y h r q = larger_first w unb x y (omega arith) r
rep_larger w unb (fin p l) x y h r q = larger_first w unb x y (omega arith) r
rep_larger w unb unb x y h r q = larger_first w unb x y (omega arith) r

rep_plus : (w : ℕ) (a b : Entry) (x y : ℕ) → w ≤ 256 → Rep w a x → Rep w b y → Rep (w + w) (plus a b) (plus_n x y)
unfolding plus plus_n clip_n
rep_plus w none b x y h r q = rw (eq-eqb x 0 r) refl
rep_plus w (fin p l) none x y h r q = simp (ne_eqb x 0 (λ e. omega arith), eq-eqb y 0 q)
rep_plus w (fin p l) (fin p' l') x y h r q =
    simp (ne_eqb x 0 (λ e. omega arith), ne_eqb y 0 (λ e. omega arith), ne_eqb x 4096 (λ e. omega arith), ne_eqb y 4096 (λ e. omega arith), lt-leb 5120 (x + y) (omega arith))
    (omega arith, omega arith, omega arith)
rep_plus w (fin p l) unb x y h r q = simp (ne_eqb x 0 (λ e. omega arith), ne_eqb y 0 (λ e. omega arith), ne_eqb x 4096 (λ e. omega arith), eq-eqb y 4096 q)
rep_plus w unb none x y h r q = simp (ne_eqb x 0 (λ e. omega arith), eq-eqb y 0 q)
rep_plus w unb (fin p l) x y h r q = simp (ne_eqb x 0 (λ e. omega arith), ne_eqb y 0 (λ e. omega arith), eq-eqb x 4096 r)
rep_plus w unb unb x y h r q = simp (ne_eqb x 0 (λ e. omega arith), ne_eqb y 0 (λ e. omega arith), eq-eqb x 4096 r)

rep_blow : (w : ℕ) (a : Entry) (y : ℕ) → w ≤ 512 → Rep w a y → Rep w (blow a) (cond (eqb y 0) 0 4096)
unfolding blow
rep_blow w none y h q = rw (eq-eqb y 0 q) refl
rep_blow w (fin p l) y h q = rw (ne_eqb y 0 (λ e. omega arith)) refl
rep_blow w unb y h q = rw (ne_eqb y 0 (λ e. omega arith)) refl

rep_loop : (w : ℕ) (c a : Entry) (x y : ℕ) → w ≤ 512 → Rep w c x → Rep w a y → Rep w (loop c a) (loop_n x y)
unfolding loop loop_n pick
rep_loop w none a x y h r q = rw (le-leb x 1024 (omega arith)) q
rep_loop w (fin p l) a x y h r q = go (leb p l) (leb x 1024) refl refl
  where
    go : (t u : Bool) → leb p l ≡ t → leb x 1024 ≡ u → Rep w (pick t a (blow a)) (cond u y (cond (eqb y 0) 0 4096))
    go true true e f = q
    go true false e f = absurd (omega (arith, leb-true p l e, leb-false x 1024 f))
    go false true e f = absurd (omega (arith, leb-false p l e, leb-true x 1024 f))
    go false false e f = rep_blow w a y h q
rep_loop w unb a x y h r q = rw (lt-leb x 1024 (omega arith)) (rep_blow w a y h q)

rep_top : (a b c : Bool) → Rep 1 (top a b c) (top_n a b c)
unfolding top top_n
rep_top a b true = (refl, omega arith, omega arith)
rep_top a true false = (refl, omega arith, omega arith)
rep_top true false false = (refl, omega arith, omega arith)
rep_top false false false = refl

pow_le : (k : ℕ) → k ≤ 7 → 2 ^ k ≤ 128
pow_le k h = pow_mono h

-- the table of codes stands for the table of entries
module _ (E : ℕ → ℕ → ℕ → Bool) where
  rep-best : (g : ℕ → ℕ → ℕ) → ((i j : ℕ) → Rep 1 (top (E i j 0) (E i j 1) (E i j 2)) (g i j)) → (k i j : ℕ) → k ≤ 7 → Rep (2 ^ k) (Best E k i j) (best_n g k i j)
  unfolding Best best_n
  rep-best g base zero i j h = base i j
  rep-best g base (suc k) i j h =
      let b : 2 ^ k ≤ 128 = pow_le k (omega arith) in
      rep_wider (2 ^ k + 2 ^ k) (2 ^ suc k)
      (larger (Best E k i j) (plus (Best E k i k) (loop (Best E k k k) (Best E k k j))))
      (max (best_n g k i j) (plus_n (best_n g k i k) (loop_n (best_n g k k k) (best_n g k k j)))) (omega arith)
      (rep_larger (2 ^ k + 2 ^ k) (Best E k i j) (plus (Best E k i k) (loop (Best E k k k) (Best E k k j))) (best_n g k i j) (plus_n (best_n g k i k) (loop_n (best_n g k k k) (best_n g k k j))) (omega arith)
      (rep_wider (2 ^ k) (2 ^ k + 2 ^ k) (Best E k i j) (best_n g k i j) (omega arith) (rep-best g base k i j (omega arith)))
      (rep_plus (2 ^ k) (Best E k i k) (loop (Best E k k k) (Best E k k j)) (best_n g k i k) (loop_n (best_n g k k k) (best_n g k k j)) (omega arith)
      (rep-best g base k i k (omega arith))
      (rep_loop (2 ^ k) (Best E k k k) (Best E k k j) (best_n g k k k) (best_n g k k j) (omega arith) (rep-best g base k k k (omega arith)) (rep-best g base k k j (omega arith)))))

rep_up : (w : ℕ) (a : Entry) (x : ℕ) → w ≤ 512 → Rep w a x → leb 1024 x ≡ at_least0 a
unfolding at_least0
rep_up w none x h r = lt-leb 1024 x (omega arith)
rep_up w (fin p l) x h r = go (leb l p) refl
  where
    go : (t : Bool) → leb l p ≡ t → leb 1024 x ≡ t
    go true e = le-leb 1024 x (omega (arith, leb-true l p e))
    go false e = lt-leb 1024 x (omega (arith, leb-false l p e))
rep_up w unb x h r = le-leb 1024 x (omega arith)

-- the largest weights of single reads
top_le : (a b c : Bool) → top_n a b c ≤ 4096
unfolding top_n
top_le a b c = cond_le c 1025 _ (omega arith) (cond_le b 1024 _ (omega arith) (cond_le a 1023 0 (omega arith) (omega arith)))

pub base_le : (up : Bool) (e : ℕ → Bool) → base_n up e ≤ 4096
unfolding base_n
base_le true e = top_le (e 0) (e 1) (e 2)
base_le false e = top_le (e 2) (e 1) (e 0)

pub base_same : (up : Bool) (e f : ℕ → Bool) → ((o : ℕ) → o ≤ 2 → e o ≡ f o) → base_n up e ≡ base_n up f
unfolding base_n
base_same true e f h = rw (h 0 (omega arith), h 1 (omega arith), h 2 (omega arith)) refl
base_same false e f h = rw (h 0 (omega arith), h 1 (omega arith), h 2 (omega arith)) refl

-- the table after k stages
pub record Stage (n : ℕ) (g : ℕ → ℕ → ℕ) (k : ℕ) (t : List (List ℕ)) : Type 0 where
  pub cells : (i j : ℕ) → i < n → j < n → entry t i j ≡ best_n g k i j

module _ (n : ℕ) (g : ℕ → ℕ → ℕ) where
  pub stage-start : (t : List (List ℕ)) → Based n g t → Stage n g 0 t
  unfolding best_n
  stage-start t b = record { cells = b.cells }

  pub stage-next : (k : ℕ) (t u : List (List ℕ)) → k < n → n ≤ 8 → Stage n g k t → Next n t k u → Stage n g (k + 1) u
  unfolding cell_n best_n
  stage-next k t u h l s x =
      record {
        cells = λ i j hi hj.
            rw add-one
            (x.cells i j hi (omega arith)
            ∙ ap₂ max (s.cells i j hi hj) (ap₂ plus_n (s.cells i k hi h) (ap₂ loop_n (s.cells k k h h) (s.cells k j h hj))));
      }

  pub stage-closed : (k : ℕ) (t : List (List ℕ)) → k ≡ n → Stage n g k t → Closed n g t
  stage-closed k t e s = record { cells = λ i j hi hj. s.cells i j hi hj ∙ ap (λ z. best_n g z i j) e }

-- the entries of closed walks
module _ (n : ℕ) (few : n ≤ 7) (E : ℕ → ℕ → ℕ → Bool) where
  closed_is : (g : ℕ → ℕ → ℕ) → ((i j : ℕ) → Rep 1 (top (E i j 0) (E i j 1) (E i j 2)) (g i j)) → (r : List (List ℕ)) → Closed n g r
      → (s : ℕ) → s < n → leb 1024 (entry r s s) ≡ at_least0 (Best E n s s)
  closed_is g base r c s h =
      rw (c.cells s s h h)
      (rep_up (2 ^ n) (Best E n s s) (best_n g n s s) (omega (arith, pow_le n few)) (rep-best E g base n s s few))

and_same : (a : Bool) → a && a ≡ false → a ≡ false
and_same true e = e
and_same false e = e

-- what is found is found below n
pub any_iff : (n : ℕ) (p : ℕ → Bool) (r : Bool) → (IsTrue r ↔ ((s : ℕ) × (s < n) × IsTrue (p s))) → r ≡ any_below n p
any_iff n p true e = let x = e.0 refl in sym (some_any n p x.0 x.1 x.2)
any_iff n p false e = sym (none_any n p (λ s h. go s h (p s) refl))
  where
    go : (s : ℕ) → s < n → (b : Bool) → p s ≡ b → p s ≡ false
    go s h true k = absurd (false≢true (e.1 (s, h, k)))
    go s h false k = k

-- what the scan comes to, by the definition
not_circular : (n : ℕ) (E : ℕ → ℕ → ℕ → Bool) → any_below n (circular_at n E) ≡ false → Circular n E → ⊥
unfolding circular?
not_circular n E h c = false≢true (sym h ∙ circular?_of n E c)

-- no reads at all
pub none_reads : (n : ℕ) (E : ℕ → ℕ → ℕ → Bool) → ((s : ℕ) → s < n → (q o : ℕ) → o ≤ 2 → E s q o ≡ false) → Circular n E → ⊥
none_reads n E f c = go c.reach
  where
    no_edge : {s q o : ℕ} → Edge n E s q o → ⊥
    no_edge {s} {q} {o} e = false≢true (sym (f s e.from q o e.off) ∙ e.is)

    go : {N s t q u : ℕ} → Reach n E N s t q u → ⊥
    go (last r) = no_edge r.edge
    go (then r w) = no_edge r.edge

module _ (n : ℕ) (few : n ≤ 7) (E : ℕ → ℕ → ℕ → Bool) (r : List (List ℕ)) (c : Closed n (λ s q. base_n true (E s q)) r) where
  rising-is : (s : ℕ) → s < n → leb 1024 (entry r s s) ≡ at_least0 (Best E n s s)
  unfolding base_n
  rising-is = closed_is n few E (λ s q. base_n true (E s q)) (λ i j. rep_top (E i j 0) (E i j 1) (E i j 2)) r c

  -- no closed walk of weight at least 0
  pub none-rises : any_below n (level_both r r) ≡ false → Circular n E → ⊥
  unfolding circular_at
  none-rises e =
      not_circular n E
      (none_any n (circular_at n E)
      (λ s h. rw (sym (rising-is s h) ∙ and_same (leb 1024 (entry r s s)) (any_none n (level_both r r) e s h)) refl))

  module _ (r' : List (List ℕ)) (c' : Closed n (λ s q. base_n false (E s q)) r') where
    falling-is : (s : ℕ) → s < n → leb 1024 (entry r' s s) ≡ at_least0 (Best (turned E) n s s)
    unfolding base_n turned
    falling-is = closed_is n few (turned E) (λ s q. base_n false (E s q)) (λ i j. rep_top (E i j 2) (E i j 1) (E i j 0)) r' c'

    scan-is : any_below n (level_both r r') ≡ any_below n (circular_at n E)
    unfolding circular_at
    scan-is = any_cong n (level_both r r') (circular_at n E) (λ s h. ap₂ ◌&&◌ (rising-is s h) (falling-is s h))

    pub scan-circular : any_below n (level_both r r') ≡ true → Circular n E
    unfolding circular?
    scan-circular e = circular?_true n E (sym scan-is ∙ e)

    pub scan-not-circular : any_below n (level_both r r') ≡ false → Circular n E → ⊥
    scan-not-circular e = not_circular n E (sym scan-is ∙ e)
