-- The number of valuations, and the words of a row that they take.
use mathlib.Core.Path.{◌≡◌, sym, ap, subst}
use Prim.Native.Nat.{ℕ, ◌+◌, ◌*◌, ◌/◌, ◌%◌, ◌^◌, ◌≤◌, ◌<◌}
use native.Mathlib.Omega.{arith}
use native.Mathlib.Decide.{ℕ_discrete, dec_lt}
use lib.Pow.{pow_pos, pow_mono}
use Rattle.words.specs.declared.Size.{Size}
use Rattle.words.specs.Sizes.{Wide, SizedBy}
use Rattle.words.proofs.BitLaws.{one_shl}

pub two_to : (k : ℕ) → k ≤ 8 → (1 * 2 ^ k % 2 ^ 64 ≡ 2 ^ k) × (1 * 2 ^ k % 2 ^ 64 ≤ 256)
two_to k h = let g : 2 ^ k ≤ 256 = pow_mono h in (one_shl k (omega arith), omega (arith, one_shl k (omega arith)))

-- the words that they take
pub wide : (k v : ℕ) → k ≤ 8 → v ≡ 2 ^ k → Wide (2 ^ k) ((v + 63) / 64)
wide k v h e = go (dec_lt k 7) (ℕ_discrete k 7)
  where
    one : 1 ≤ 2 ^ k → 2 ^ k ≤ 64 → Wide (2 ^ k) ((v + 63) / 64)
    one l g = record { count = omega arith; least = omega arith; most = omega arith; not_three = λ q. omega arith; under = omega arith; full = λ q. omega arith }

    two : 2 ^ k ≡ 128 → Wide (2 ^ k) ((v + 63) / 64)
    two g = record { count = omega arith; least = omega arith; most = omega arith; not_three = λ q. omega arith; under = omega arith; full = λ q. omega arith }

    four : 2 ^ k ≡ 256 → Wide (2 ^ k) ((v + 63) / 64)
    four g = record { count = omega arith; least = omega arith; most = omega arith; not_three = λ q. omega arith; under = omega arith; full = λ q. omega arith }

    go : Dec (k < 7) → Dec (k ≡ 7) → Wide (2 ^ k) ((v + 63) / 64)
    go (yes l) d = let l' : k ≤ 6 = omega arith in one (pow_pos k) (pow_mono l')
    go (no l) (yes d) = two (ap (λ (i : ℕ). 2 ^ i) d)
    go (no l) (no d) = let q : k ≡ 8 = omega arith in four (ap (λ (i : ℕ). 2 ^ i) q)

-- the size of a sheet, with the number of valuations as the code has it
pub sized_by : (m n v w : ℕ) → m + n ≤ 8 → v ≡ 2 ^ (m + n) → w ≡ (v + 63) / 64 → SizedBy m n v w
sized_by m n v w h e f =
    let low : 2 ^ (m + n) ≤ 2 ^ 8 = pow_mono h in
    record {
      streams = h;
      power = e;
      some_valuation = omega (arith, e, pow_pos (m + n));
      most_valuations = omega (arith, e, low);
      wide = subst (λ (u : ℕ). Wide v u) (sym f) (subst (λ (k : ℕ). Wide k ((v + 63) / 64)) (sym e) (wide (m + n) v h e));
    }

pub sized-under : (z : Size) → 2 ^ (z.inputs + z.outputs) ≤ 64 * z.words
sized-under z = omega (arith, z.sized.power, z.sized.wide.under)
