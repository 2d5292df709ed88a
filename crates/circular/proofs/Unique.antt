-- A sheet that is not circular has exactly one assignment of values to its outputs that satisfies all equations, for every N and every inputs.
-- The right sides are any function of the values at the places that are read.
use mathlib.Core.Path.{◌≡◌, sym, subst, subst₂, ◌∙◌}
use mathlib.Core.Bool.{Bool, false}
use Prim.Native.Nat.{ℕ, zero, suc, ◌+◌, ◌*◌, ◌-◌, ◌≤◌, ◌<◌}
use native.Mathlib.Omega.{arith}
use native.Mathlib.Nat.{mul-le-mul_left}
use native.Mathlib.Decide.{dec_lt}
use Rattle.circular.specs.Circular.{Read, Reach, last, then, Circular}
use Rattle.circular.specs.Places.{Chain, stop, go, Place, Reads, Solves}
use Rattle.circular.proofs.Pigeon.{pigeonhole}

-- a place's number
number : (n s t : ℕ) → ℕ
number n s t = s + n * (t - 1)

number_lt : (n N s t : ℕ) → Place n N s t → number n s t < n * N
unfolding number
number_lt n N s t h = let b : suc (t - 1) ≤ N = omega arith in omega (arith, mul-le-mul_left n b)

rows_le : (n s a s' a' : ℕ) → s < n → s + n * a ≡ s' + n * a' → a' ≤ a
rows_le n s a s' a' h e = pick (dec_lt a a')
  where
    pick : Dec (a < a') → a' ≤ a
    pick (yes q) = absurd (omega (arith, mul-le-mul_left n q))
    pick (no q) = omega arith

number_inj : (n N s t s' t' : ℕ) → Place n N s t → Place n N s' t' → number n s t ≡ number n s' t' → (s ≡ s') × (t ≡ t')
unfolding number
number_inj n N s t s' t' h h' e =
    let a = rows_le n s (t - 1) s' (t' - 1) h.s_lt e in
    let b = rows_le n s' (t' - 1) s (t - 1) h'.s_lt (sym e) in
    let eq : t ≡ t' = omega (arith, h.t_low, h'.t_low) in
    let e' : s + n * (t' - 1) ≡ s' + n * (t' - 1) = subst (λ z. s + n * (z - 1) ≡ s' + n * (t' - 1)) eq e in
    (omega (arith, e'), eq)

module _ {n : ℕ} {E : ℕ → ℕ → ℕ → Bool} {N : ℕ} where
  -- the i-th place of a chain
  out_at : {k s t : ℕ} → Chain n E N k s t → ℕ → ℕ
  out_at {s = s} c zero = s
  out_at (stop {s = s}) (suc i) = s
  out_at (go r c) (suc i) = out_at c i

  roundAt : {k s t : ℕ} → Chain n E N k s t → ℕ → ℕ
  roundAt {t = t} c zero = t
  roundAt (stop {t = t}) (suc i) = t
  roundAt (go r c) (suc i) = roundAt c i

  place : {k s t : ℕ} (c : Chain n E N k s t) → Place n N s t → (i : ℕ) → Place n N (out_at c i) (roundAt c i)
  unfolding out_at roundAt
  place c h zero = h
  place stop h (suc i) = h
  place (go r c) h (suc i) = place c (record { s_lt = r.edge.to; t_low = r.u_low; t_high = r.u_high }) i

  reach-to : {k s t : ℕ} (c : Chain n E N k s t) (j : ℕ) → suc j ≤ k → Reach n E N s t (out_at c (suc j)) (roundAt c (suc j))
  unfolding out_at roundAt
  reach-to stop j h = absurd (omega arith)
  reach-to (go r c) zero h = last r
  reach-to (go r c) (suc j) h = then r (reach-to c j (omega arith))

  reach-from : {k s t : ℕ} (c : Chain n E N k s t) (i j : ℕ) → i < j → j ≤ k → Reach n E N (out_at c i) (roundAt c i) (out_at c j) (roundAt c j)
  unfolding out_at roundAt
  reach-from c i zero h b = absurd (omega arith)
  reach-from c zero (suc j) h b = reach-to c j b
  reach-from stop (suc i) (suc j) h b = absurd (omega arith)
  reach-from (go r c) (suc i) (suc j) h b = reach-from c i j (omega arith) (omega arith)

  -- a chain as long as there are places comes round
  pub round : {s t : ℕ} → Chain n E N (n * N) s t → Place n N s t → Circular n E
  round c h =
      let x = pigeonhole (n * N) (λ i. number n (out_at c i) (roundAt c i)) (λ i b. number_lt n N (out_at c i) (roundAt c i) (place c h i)) in
      let same = number_inj n N (out_at c x.i) (roundAt c x.i) (out_at c x.j) (roundAt c x.j) (place c h x.i) (place c h x.j) x.same in
      record {
        N = N;
        s = out_at c x.i;
        t = roundAt c x.i;
        reach = subst₂ (λ a b. Reach n E N (out_at c x.i) (roundAt c x.i) a b) (sym same.0) (sym same.1) (reach-from c x.i x.j x.less x.j_le);
      }

-- k times over
unfoldable pub run : ((ℕ → ℕ → Bool) → ℕ → ℕ → Bool) → ℕ → ℕ → ℕ → Bool
run f zero s t = false
run f (suc k) s t = f (run f k) s t

module _ (n : ℕ) (E : ℕ → ℕ → ℕ → Bool) (N : ℕ) (f : (ℕ → ℕ → Bool) → ℕ → ℕ → Bool) (local : Reads n E N f) where
  read-place : {s t q u : ℕ} → Read n E N s t q u → Place n N q u
  read-place r = record { s_lt = r.edge.to; t_low = r.u_low; t_high = r.u_high }

  agree : (k : ℕ) (v w : ℕ → ℕ → Bool) → Solves n N f v → Solves n N f w → (s t : ℕ) → Place n N s t → (Chain n E N k s t → ⊥) → v s t ≡ w s t
  agree zero v w hv hw s t h c = absurd (c stop)
  agree (suc k) v w hv hw s t h c =
      hv.all s t h ∙ local.only v w s t h (λ q u r. agree k v w hv hw q u (read-place r) (λ d. c (go r d))) ∙ sym (hw.all s t h)

  settled : (k : ℕ) (s t : ℕ) → Place n N s t → (Chain n E N k s t → ⊥) → run f k s t ≡ f (run f k) s t
  unfolding run
  settled zero s t h c = absurd (c stop)
  settled (suc k) s t h c = local.only (run f k) (run f (suc k)) s t h (λ q u r. settled k q u (read-place r) (λ d. c (go r d)))

  pub unique : (Circular n E → ⊥) → (v w : ℕ → ℕ → Bool) → Solves n N f v → Solves n N f w → (s t : ℕ) → Place n N s t → v s t ≡ w s t
  unique nc v w hv hw s t h = agree (n * N) v w hv hw s t h (λ c. nc (round c h))

  pub solution : (Circular n E → ⊥) → Solves n N f (run f (n * N))
  solution nc = record { all = λ s t h. settled (n * N) s t h (λ c. nc (round c h)) }
