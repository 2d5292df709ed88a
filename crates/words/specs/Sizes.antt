-- For the contracts of inner functions: how many valuations a sheet has, and the words of a row that they take.
use Rattle.std.specs.Prelude.{◌≡◌, ℕ, ◌+◌, ◌*◌, ◌/◌, ◌^◌, ◌<◌, ◌≤◌}

-- w is the number of words that v valuations take: one, two or four
pub record Wide (v w : ℕ) : Type 0 where
  pub count : w ≡ (v + 63) / 64
  pub least : 1 ≤ w
  pub most : w ≤ 4
  pub not_three : w ≡ 3 → ⊥
  pub under : v ≤ 64 * w
  pub full : 1 < w → v ≡ 64 * w

-- The size of a sheet of m inputs and n outputs: v valuations, w words to a row.
pub record SizedBy (m n v w : ℕ) : Type 0 where
  pub streams : m + n ≤ 8
  pub power : v ≡ 2 ^ (m + n)
  pub some_valuation : 1 ≤ v
  pub most_valuations : v ≤ 256
  pub wide : Wide v w
