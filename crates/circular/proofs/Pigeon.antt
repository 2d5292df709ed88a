-- The pigeonhole principle on native numbers: K + 1 numbers below K are not all different.
use mathlib.Core.Path.{◌≡◌, sym, subst}
use Prim.Native.Nat.{ℕ, zero, suc, ◌≤◌, ◌<◌}
use native.Mathlib.Omega.{arith}
use native.Mathlib.Decide.{dec_lt, ℕ_discrete}

pub record Twice (K : ℕ) (f : ℕ → ℕ) : Type 0 where
  pub i : ℕ
  pub j : ℕ
  pub less : i < j
  pub j_le : j ≤ K
  pub same : f i ≡ f j

-- c is f of one of the first k numbers, or of none
data Found (f : ℕ → ℕ) (c k : ℕ) : Type 0 where
  at : (i : ℕ) → i < k → f i ≡ c → Found f c k
  nowhere : ((i : ℕ) → i < k → f i ≡ c → ⊥) → Found f c k

find : (f : ℕ → ℕ) (c k : ℕ) → Found f c k
find f c zero = nowhere (λ i h e. omega arith)
find f c (suc k) = go (find f c k) (ℕ_discrete (f k) c)
  where
    go : Found f c k → Dec (f k ≡ c) → Found f c (suc k)
    go (at i h e) d = at i (omega arith) e
    go (nowhere g) (yes e) = at k (omega arith) e
    go (nowhere g) (no e) =
        nowhere (λ i h q. split i h q (dec_lt i k))
      where
        split : (i : ℕ) → i < suc k → f i ≡ c → Dec (i < k) → ⊥
        split i h q (yes b) = g i b q
        split i h q (no b) = let eq : i ≡ k = omega arith in e (subst (λ z. f z ≡ c) eq q)

-- f with its value k replaced by c
swap : (f : ℕ → ℕ) (k c i : ℕ) → Dec (f i ≡ k) → ℕ
swap f k c i (yes e) = c
swap f k c i (no e) = f i

pub pigeonhole : (K : ℕ) (f : ℕ → ℕ) → ((i : ℕ) → i ≤ K → f i < K) → Twice K f
unfolding swap
pigeonhole zero f h = absurd (omega (arith, h 0 (omega arith)))
pigeonhole (suc K) f h = go (find f (f (suc K)) (suc K)) (λ g b. pigeonhole K g b)
  where
    below : ((i : ℕ) → i < suc K → f i ≡ f (suc K) → ⊥) → (i : ℕ) → i ≤ K → (d : Dec (f i ≡ K)) → swap f K (f (suc K)) i d < K
    below g i b (yes e) = omega (arith, g i (omega arith), h (suc K) (omega arith))
    below g i b (no e) = omega (arith, h i (omega arith))

    back : ((i : ℕ) → i < suc K → f i ≡ f (suc K) → ⊥) → (i j : ℕ) → i ≤ K → j ≤ K → (d : Dec (f i ≡ K)) (d' : Dec (f j ≡ K)) → swap f K (f (suc K)) i d ≡ swap f K (f (suc K)) j d' → f i ≡ f j
    back g i j b b' (yes d) (yes d') e = omega arith
    back g i j b b' (yes d) (no d') e = absurd (g j (omega arith) (sym e))
    back g i j b b' (no d) (yes d') e = absurd (g i (omega arith) e)
    back g i j b b' (no d) (no d') e = e

    go : Found f (f (suc K)) (suc K) → ((g : ℕ → ℕ) → ((i : ℕ) → i ≤ K → g i < K) → Twice K g) → Twice (suc K) f
    go (at i b e) r = record { i = i; j = suc K; less = b; j_le = omega arith; same = e }
    go (nowhere g) r =
        let x = r (λ i. swap f K (f (suc K)) i (ℕ_discrete (f i) K)) (λ i b. below g i b (ℕ_discrete (f i) K)) in
        record {
          i = x.i;
          j = x.j;
          less = x.less;
          j_le = omega (arith, x.j_le);
          same = back g x.i x.j (omega (arith, x.less, x.j_le)) x.j_le (ℕ_discrete (f x.i) K) (ℕ_discrete (f x.j) K) x.same;
        }
