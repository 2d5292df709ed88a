-- The share is the one number that is nearest, and even at a half.
use mathlib.Core.Path.{◌≡◌, refl, sym, ap, ◌∙◌}
use Prim.Native.Nat.{ℕ, ◌+◌, ◌*◌, ◌/◌, ◌%◌, ◌≤◌, ◌<◌}
use native.Mathlib.Omega.{arith}
use native.Mathlib.Nat.{div-add-mod', mod-lt, div-eq_of_lt-le, le_of_mul-le-mul_right, mul-le-mul_right}
use native.Mathlib.Decide.{dec_lt, ℕ_discrete}
use Rattle.record.specs.Record.{share}
use Rattle.record.proofs.Tallies.{share_down, share_up, share_half}
use Rattle.claims.specs.Share.{Nearest, OneShare, halves_up, OtherShares, HalfShares, HalvesBySixteen, ShareEnds, ShareExamples}

-- ---- from a quotient q and its rest r

-- how q + r / t goes to s: down, up, or from a half to the even one of two
data Way (q r t s : ℕ) : Type 0 where
  down : 2 * r < t → s ≡ q → Way q r t s
  up : t < 2 * r → s ≡ q + 1 → Way q r t s
  half : 2 * r ≡ t → s ≡ q + q % 2 → Way q r t s

module _ (trues t q r : ℕ) (parts : q * t + r ≡ 1000 * trues) (rest : r < t) where
  way-nearest : (s : ℕ) → Way q r t s → Nearest trues t s
  way-nearest s (down d e) = rw e (record { low = omega arith; high = omega arith; upper = λ z. absurd (omega arith); lower = λ z. absurd (omega arith) })
  way-nearest s (up d e) = rw e (record { low = omega arith; high = omega arith; upper = λ z. absurd (omega arith); lower = λ z. absurd (omega arith) })
  way-nearest s (half d e) = rw e (go (ℕ_discrete (q % 2) 0))
    where
      go : Dec (q % 2 ≡ 0) → Nearest trues t (q + q % 2)
      go (yes g) = rw g (record { low = omega arith; high = omega arith; upper = λ z. absurd (omega arith); lower = λ z. omega arith })
      go (no g) =
          let odd : q % 2 ≡ 1 = omega arith in
          rw odd (record { low = omega arith; high = omega arith; upper = λ z. omega arith; lower = λ z. absurd (omega arith) })

  -- what the first release made of it
  before-down : 2 * r < t → halves_up trues t ≡ q
  before-down h = div-eq_of_lt-le {k = q} (2 * t) {m = 2000 * trues + t} (omega arith) (omega arith)

  before-up : t ≤ 2 * r → halves_up trues t ≡ q + 1
  before-up h = div-eq_of_lt-le {k = q + 1} (2 * t) {m = 2000 * trues + t} (omega arith) (omega arith)

  way-before : (s : ℕ) → Way q r t s → (2 * r ≡ t → ⊥) → s ≡ halves_up trues t
  way-before s (down d e) no-half = e ∙ sym (before-down d)
  way-before s (up d e) no-half = e ∙ sym (before-up (omega arith))
  way-before s (half d e) no-half = absurd (no-half d)

  way-half : (s : ℕ) → Way q r t s → 2 * r ≡ t → halves_up trues t ≡ s + halves_up trues t % 2
  way-half s (down d e) h = absurd (omega arith)
  way-half s (up d e) h = absurd (omega arith)
  way-half s (half d e) h = rw (before-up (omega arith)) (omega arith)

-- an odd multiple of t is even only if t is
odd_times : (q t n : ℕ) → (2 * q + 1) * t ≡ 2 * n → (t ≡ 2 * (t / 2)) × ((2 * q + 1) * (t / 2) ≡ n)
odd_times q t n e =
    let even : t ≡ 2 * (t / 2) = omega arith in
    let twice : (2 * q + 1) * (2 * (t / 2)) ≡ 2 * n = ap (λ (z : ℕ). (2 * q + 1) * z) (sym even) ∙ e in
    (even, omega arith)

-- ---- of the share

module _ (trues t : ℕ) (some : 1 ≤ t) where
  abbrev q : ℕ
  q = 1000 * trues / t

  abbrev r : ℕ
  r = 1000 * trues % t

  parts : q * t + r ≡ 1000 * trues
  parts = div-add-mod' (1000 * trues) t

  rest : r < t
  rest = mod-lt (1000 * trues) some

  share-way : Way q r t (share trues t)
  share-way = go (dec_lt (2 * r) t) (dec_lt t (2 * r))
    where
      go : Dec (2 * r < t) → Dec (t < 2 * r) → Way q r t (share trues t)
      go (yes d) e = down d (share_down trues t d)
      go (no d) (yes e) = up e (share_up trues t e)
      go (no d) (no e) = let h : 2 * r ≡ t = omega arith in half h (share_half trues t h)

  share-nearest : Nearest trues t (share trues t)
  share-nearest = way-nearest trues t q r parts rest (share trues t) share-way

  share-before : (2 * r ≡ t → ⊥) → share trues t ≡ halves_up trues t
  share-before = way-before trues t q r parts rest (share trues t) share-way

  share-at-half : 2 * r ≡ t → halves_up trues t ≡ share trues t + halves_up trues t % 2
  share-at-half = way-half trues t q r parts rest (share trues t) share-way

  -- of two nearest ones, the lesser would be one less, and both would be even
  not_less : (s s' : ℕ) → Nearest trues t s → Nearest trues t s' → s < s' → ⊥
  not_less s s' n n' l =
      let close : s' ≤ s + 1 = le_of_mul-le-mul_right {m = s'} {n = s + 1} {k = t} (omega (arith, n.high, n'.low)) some in
      let next : s' ≡ s + 1 = omega arith in
      let low = rw next at n'.low in
      let even : s % 2 ≡ 0 = n.lower (omega (arith, n.high)) in
      let even' : s' % 2 ≡ 0 = n'.upper (rw next (omega (arith, n.high))) in
      omega arith

  one-nearest : (s s' : ℕ) → Nearest trues t s → Nearest trues t s' → s ≡ s'
  one-nearest s s' n n' = go (dec_lt s s') (dec_lt s' s)
    where
      go : Dec (s < s') → Dec (s' < s) → s ≡ s'
      go (yes d) e = absurd (not_less s s' n n' d)
      go (no d) (yes e) = absurd (not_less s' s n' n e)
      go (no d) (no e) = omega arith

pub one-share : OneShare
one-share trues t h = (share-nearest trues t h, λ s n. one-nearest trues t h s (share trues t) n (share-nearest trues t h))

pub other_shares : OtherShares
other_shares trues t h = share-before trues t h

pub half_shares : HalfShares
half_shares trues t h = share-at-half trues t h

pub halves_by_sixteen : HalvesBySixteen
halves_by_sixteen trues t h e =
    let q = 1000 * trues / t in
    let whole : (2 * q + 1) * t ≡ 2 * (1000 * trues) = omega (arith, parts trues t h) in
    let two = odd_times q t (1000 * trues) whole in
    let four = odd_times q (t / 2) (500 * trues) (two.1 ∙ omega arith) in
    let eight = odd_times q (t / 2 / 2) (250 * trues) (four.1 ∙ omega arith) in
    let sixteen = odd_times q (t / 2 / 2 / 2) (125 * trues) (eight.1 ∙ omega arith) in
    multiple t (t / 2) (t / 2 / 2) (t / 2 / 2 / 2) (t / 2 / 2 / 2 / 2) two.0 four.0 eight.0 sixteen.0
  where
    multiple : (a b c d e : ℕ) → a ≡ 2 * b → b ≡ 2 * c → c ≡ 2 * d → d ≡ 2 * e → a % 16 ≡ 0
    multiple a b c d e ab bc cd de = omega arith

pub share-ends : ShareEnds
share-ends trues t h few = record {
  most = go (dec_lt 1000 (share trues t));
  whole = (λ e. omega (arith, rw e at near.low), λ z. even-share 1000 refl (omega arith) (omega arith));
  none = (λ e. omega (arith, rw e at near.high), λ z. even-share 0 refl (omega arith) (omega arith));
}
  where
    near : Nearest trues t (share trues t)
    near = share-nearest trues t h

    -- an even number that is near enough is the share
    even-share : (s : ℕ) → s % 2 ≡ 0 → 2 * s * t ≤ 2000 * trues + t → 2000 * trues ≤ 2 * s * t + t → share trues t ≡ s
    even-share s e l g = sym ((one-share trues t h).1 s (record { low = l; high = g; upper = λ _. e; lower = λ _. e }))

    go : Dec (1000 < share trues t) → share trues t ≤ 1000
    go (yes d) = let more : 1001 * t ≤ share trues t * t = mul-le-mul_right t d in absurd (omega (arith, near.low))
    go (no d) = omega arith

pub share_examples : ShareExamples
unfolding share
share_examples = (refl, refl)
