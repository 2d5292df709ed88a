-- Circular or not, computed: exact for `Circular`.
use mathlib.Core.Path.{◌≡◌, refl}
use mathlib.Core.Bool.{Bool, true, false, ◌&&◌, false≢true}
use Prim.Native.Nat.{ℕ, ◌+◌, ◌-◌, ◌≤◌, ◌<◌}
use native.Mathlib.Omega.{arith}
use lib.Dec.{leb}
use borrow.Author.Tests.{leb-true, le-leb}
use Rattle.words.specs.Below.{any_below}
use Rattle.words.proofs.AnyLaws.{some_any, any_some}
use Rattle.words.proofs.Bools.{and_split, and_join}
use Rattle.circular.specs.Circular.{Edge, Circular}
use Rattle.circular.proofs.Walks.{Walk, one, more, from-of, Up, Down, circular→walks, walks→circular}
use Rattle.circular.proofs.Closure.{Entry, none, fin, unb, Best, Le, bounded, Made, made}

-- time the other way round
unfoldable pub turned : (ℕ → ℕ → ℕ → Bool) → ℕ → ℕ → ℕ → Bool
turned E s q o = E s q (2 - o)

-- the entry is at least 0
unfoldable pub at_least0 : Entry → Bool
at_least0 none = false
at_least0 (fin p l) = leb l p
at_least0 unb = true

unfoldable pub circular_at : ℕ → (ℕ → ℕ → ℕ → Bool) → ℕ → Bool
circular_at n E s = at_least0 (Best E n s s) && at_least0 (Best (turned E) n s s)

unfoldable pub circular? : ℕ → (ℕ → ℕ → ℕ → Bool) → Bool
circular? n E = any_below n (circular_at n E)

-- a walk turned round
module _ {n : ℕ} {E : ℕ → ℕ → ℕ → Bool} where
  turn-edge : {s q o : ℕ} → Edge n E s q o → Edge n (turned E) s q (2 - o)
  unfolding turned
  turn-edge {s} {q} {o} e =
      let back : 2 - (2 - o) ≡ o = omega (arith, e.off) in
      record { from = e.from; to = e.to; off = omega arith; is = rw back e.is }

  unturn-edge : {s q o : ℕ} → Edge n (turned E) s q o → Edge n E s q (2 - o)
  unfolding turned
  unturn-edge {s} {q} {o} e = record { from = e.from; to = e.to; off = omega arith; is = e.is }

  turn : {s q p l : ℕ} → Walk n E s q p l → (p' : ℕ) × Walk n (turned E) s q p' l × (p + p' ≡ l + l)
  turn (one {o = o} e) = (2 - o, one (turn-edge e), omega (arith, e.off))
  turn (more {o = o} e w) = let (p', v, h) = turn w in (2 - o + p', more (turn-edge e) v, omega (arith, e.off))

  unturn : {s q p l : ℕ} → Walk n (turned E) s q p l → (p' : ℕ) × Walk n E s q p' l × (p + p' ≡ l + l)
  unturn (one {o = o} e) = (2 - o, one (unturn-edge e), omega (arith, e.off))
  unturn (more {o = o} e w) = let (p', v, h) = unturn w in (2 - o + p', more (unturn-edge e) v, omega (arith, e.off))

module _ (n : ℕ) (E : ℕ → ℕ → ℕ → Bool) where
  up-of-entry : (s : ℕ) (x : Entry) → Made n E s s x → at_least0 x ≡ true → Up n E s
  unfolding at_least0
  up-of-entry s none m e = absurd (false≢true e)
  up-of-entry s (fin p l) m e = record { p = p; l = l; walk = m; weight = leb-true l p e }
  up-of-entry s unb m e = let (p, l, w, h) = m 0 in record { p = p; l = l; walk = w; weight = omega arith }

  entry-of-up : (p l : ℕ) (x : Entry) → l ≤ p → Le (fin p l) x → at_least0 x ≡ true
  unfolding at_least0
  entry-of-up p l none h b = absurd b
  entry-of-up p l (fin p' l') h b = le-leb l' p' (omega arith)
  entry-of-up p l unb h b = refl

  best-up : (s : ℕ) → s < n → at_least0 (Best E n s s) ≡ true → Up n E s
  best-up s h e = up-of-entry s (Best E n s s) (made n E n s s (omega arith) h h) e

  up-best : (s : ℕ) → Up n E s → at_least0 (Best E n s s) ≡ true
  up-best s u = entry-of-up u.p u.l (Best E n s s) u.weight (bounded n E u.walk)

up→down : (n : ℕ) (E : ℕ → ℕ → ℕ → Bool) (s : ℕ) → Up n (turned E) s → Down n E s
up→down n E s u = let (p, w, h) = unturn u.walk in record { p = p; l = u.l; walk = w; weight = omega (arith, u.weight) }

down→up : (n : ℕ) (E : ℕ → ℕ → ℕ → Bool) (s : ℕ) → Down n E s → Up n (turned E) s
down→up n E s u = let (p, w, h) = turn u.walk in record { p = p; l = u.l; walk = w; weight = omega (arith, u.weight) }

pub circular?_true : (n : ℕ) (E : ℕ → ℕ → ℕ → Bool) → circular? n E ≡ true → Circular n E
unfolding circular? circular_at
circular?_true n E e =
    let (s, h, f) = any_some n (circular_at n E) e in
    walks→circular (record {
      s = s;
      up = best-up n E s h (and_split (at_least0 (Best E n s s)) (at_least0 (Best (turned E) n s s)) f).0;
      down = up→down n E s (best-up n (turned E) s h (and_split (at_least0 (Best E n s s)) (at_least0 (Best (turned E) n s s)) f).1);
    })

pub circular?_of : (n : ℕ) (E : ℕ → ℕ → ℕ → Bool) → Circular n E → circular? n E ≡ true
unfolding circular? circular_at
circular?_of n E c =
    let x = circular→walks c in
    some_any n (circular_at n E) x.s (from-of x.up.walk)
    (and_join (at_least0 (Best E n x.s x.s)) (at_least0 (Best (turned E) n x.s x.s))
    (up-best n E x.s x.up)
    (up-best n (turned E) x.s (down→up n E x.s x.down)))
