-- Walks along reads, with their weights. A table of reads is circular exactly if some output has a closed walk of weight at least 0 and
-- one of weight at most 0.
use mathlib.Core.Path.{◌≡◌, refl, subst₂}
use mathlib.Core.Bool.{Bool}
use Prim.Native.Nat.{ℕ, zero, suc, ◌+◌, ◌*◌, ◌-◌, ◌≤◌, ◌<◌}
use native.Mathlib.Omega.{arith}
use Rattle.circular.specs.Circular.{Edge, Read, Reach, last, then, Circular}

-- a walk of l edges, l at least 1, whose offsets' numbers add up to p: its weight is p - l
pub data Walk (n : ℕ) (E : ℕ → ℕ → ℕ → Bool) : ℕ → ℕ → ℕ → ℕ → Type 0 where
  one : {s q o : ℕ} → Edge n E s q o → Walk n E s q o 1
  more : {s r q o p l : ℕ} → Edge n E s r o → Walk n E r q p l → Walk n E s q (o + p) (suc l)

-- a closed walk through s of weight at least 0, and one of weight at most 0
pub record Up (n : ℕ) (E : ℕ → ℕ → ℕ → Bool) (s : ℕ) : Type 0 where
  pub p : ℕ
  pub l : ℕ
  pub walk : Walk n E s s p l
  pub weight : l ≤ p

pub record Down (n : ℕ) (E : ℕ → ℕ → ℕ → Bool) (s : ℕ) : Type 0 where
  pub p : ℕ
  pub l : ℕ
  pub walk : Walk n E s s p l
  pub weight : p ≤ l

pub record UpDown (n : ℕ) (E : ℕ → ℕ → ℕ → Bool) : Type 0 where
  pub s : ℕ
  pub up : Up n E s
  pub down : Down n E s

-- what a reach comes to: a walk, and the round tells its weight
pub record Trail (n : ℕ) (E : ℕ → ℕ → ℕ → Bool) (s t q u : ℕ) : Type 0 where
  pub p : ℕ
  pub l : ℕ
  pub walk : Walk n E s q p l
  pub shift : u + l ≡ t + p

module _ {n : ℕ} {E : ℕ → ℕ → ℕ → Bool} where
  cast : {s q p l p' l' : ℕ} → p ≡ p' → l ≡ l' → Walk n E s q p l → Walk n E s q p' l'
  cast {s} {q} e f w = subst₂ (λ a b. Walk n E s q a b) e f w

  pub append : {s r q p l p' l' : ℕ} → Walk n E s r p l → Walk n E r q p' l' → Walk n E s q (p + p') (l + l')
  append {p' = p'} {l' = l'} (one e) w = cast refl (omega arith) (more e w)
  append {p' = p'} {l' = l'} (more {o = o} {p = p} {l = l} e v) w = cast (omega arith) (omega arith) (more e (append v w))

  -- k + 1 times round a closed walk
  repeat : {s p l : ℕ} (k : ℕ) → Walk n E s s p l → Walk n E s s (suc k * p) (suc k * l)
  repeat {p = p} {l = l} zero w = cast (omega arith) (omega arith) w
  repeat {p = p} {l = l} (suc k) w = cast (omega arith) (omega arith) (append w (repeat k w))

  pub from-of : {s q p l : ℕ} → Walk n E s q p l → s < n
  from-of (one e) = e.from
  from-of (more e w) = e.from

  trail : {N s t q u : ℕ} → Reach n E N s t q u → Trail n E s t q u
  trail (last r) = record { p = r.o; l = 1; walk = one r.edge; shift = r.shift }
  trail (then r w) =
      let x = trail w in
      record { p = r.o + x.p; l = suc x.l; walk = more r.edge x.walk; shift = omega (arith, r.shift, x.shift) }

  -- a walk of l steps from a round t that has l rounds on either side is a reach
  pub fits : {N s q p l : ℕ} (t u : ℕ) → Walk n E s q p l → suc l ≤ t → t + l ≤ N → u + l ≡ t + p → Reach n E N s t q u
  fits t u (one {o = o} e) low high eq =
      last (record { o = o; edge = e; shift = eq; t_low = omega arith; t_high = omega arith; u_low = omega arith; u_high = omega (arith, e.off) })
  fits {N} t u (more {s = s} {r = r} {o = o} {p = p} {l = l} e w) low high eq =
      let step : Read n E N s t r (t + o - 1) =
      record { o = o; edge = e; shift = omega arith; t_low = omega arith; t_high = omega arith; u_low = omega arith; u_high = omega (arith, e.off) } in
      then step (fits (t + o - 1) u w (omega arith) (omega (arith, e.off)) (omega arith))

  -- a closed walk of weight 0 is a self-reach
  pub level : {s l : ℕ} (p : ℕ) → Walk n E s s p l → p ≡ l → Circular n E
  level {s} {l} p w eq = record { N = l + l + 1; s = s; t = suc l; reach = fits (suc l) (suc l) w (omega arith) (omega arith) (omega arith) }

  pub circular→walks : Circular n E → UpDown n E
  circular→walks c =
      let x = trail c.reach in
      record {
        s = c.s;
        up = record { p = x.p; l = x.l; walk = x.walk; weight = omega (arith, x.shift) };
        down = record { p = x.p; l = x.l; walk = x.walk; weight = omega (arith, x.shift) };
      }

  -- a the weight of one walk, b the other's without its sign
  meet : {s p l p' l' : ℕ} (a b : ℕ) → Walk n E s s p l → Walk n E s s p' l' → p ≡ l + a → l' ≡ p' + b → Circular n E
  meet {p = p} {l = l} {p' = p'} {l' = l'} zero b w v e f = level p w (omega arith)
  meet {p = p} {l = l} {p' = p'} {l' = l'} (suc a) zero w v e f = level p' v (omega arith)
  meet {p = p} {l = l} {p' = p'} {l' = l'} (suc a) (suc b) w v e f =
      level (suc b * p + suc a * p') (append (repeat b w) (repeat a v)) (rw (e, f) (omega arith))

  pub walks→circular : UpDown n E → Circular n E
  walks→circular x =
      meet (x.up.p - x.up.l) (x.down.l - x.down.p) x.up.walk x.down.walk (omega (arith, x.up.weight)) (omega (arith, x.down.weight))
