-- The share of an output (01, "Tallies"; 02, W7) is what the words ask for: true rounds per thousand, the nearest number, halves to the even one.
-- Manual: "Tallies".
use Rattle.std.specs.Prelude.{◌≡◌, ◌↔◌, ℕ, ◌+◌, ◌*◌, ◌/◌, ◌%◌, ◌≤◌}
use Rattle.record.specs.Record.{share}

-- No number is nearer to 1000 * trues / t than s, and s is even if another is as near: 1000 * trues / t is at least s - 1/2 and at most s + 1/2, and s
-- is even if it is one of the two. Here all sides are taken 2 * t times.
pub record Nearest (trues t s : ℕ) : Type 0 where
  pub low : 2 * s * t ≤ 2000 * trues + t
  pub high : 2000 * trues ≤ 2 * s * t + t
  pub upper : 2 * s * t ≡ 2000 * trues + t → s % 2 ≡ 0
  pub lower : 2000 * trues ≡ 2 * s * t + t → s % 2 ≡ 0

-- This determines the share.
abbrev pub OneShare : Type 0
OneShare = (trues t : ℕ) → 1 ≤ t → Nearest trues t (share trues t) × ((s : ℕ) → Nearest trues t s → s ≡ share trues t)

-- the share of the first release: nearest, halves up
abbrev pub halves_up : ℕ → ℕ → ℕ
halves_up trues t = (2000 * trues + t) / (2 * t)

-- Where 1000 * trues / t is no half, the share is that of the first release.
abbrev pub OtherShares : Type 0
OtherShares = (trues t : ℕ) → 1 ≤ t → (2 * (1000 * trues % t) ≡ t → ⊥) → share trues t ≡ halves_up trues t

-- Where it is a half, the share of the first release is kept if it is even, and was one more if it is odd.
abbrev pub HalfShares : Type 0
HalfShares = (trues t : ℕ) → 1 ≤ t → 2 * (1000 * trues % t) ≡ t → halves_up trues t ≡ share trues t + halves_up trues t % 2

-- Only multiples of 16 rounds have a half.
abbrev pub HalvesBySixteen : Type 0
HalvesBySixteen = (trues t : ℕ) → 1 ≤ t → 2 * (1000 * trues % t) ≡ t → t % 16 ≡ 0

-- If no more rounds are true than there are, the share is at most 1000; it is 1000 exactly if at most half a thousandth of them is missing, and 0
-- exactly if at most half a thousandth is there.
pub record Ends (trues t : ℕ) : Type 0 where
  pub most : share trues t ≤ 1000
  pub whole : (share trues t ≡ 1000) ↔ (2000 * t ≤ 2000 * trues + t)
  pub none : (share trues t ≡ 0) ↔ (2000 * trues ≤ t)

abbrev pub ShareEnds : Type 0
ShareEnds = (trues t : ℕ) → 1 ≤ t → trues ≤ t → Ends trues t

-- One true round in 16 gives 62, three in 16 give 188.
abbrev pub ShareExamples : Type 0
ShareExamples = (share 1 16 ≡ 62) × (share 3 16 ≡ 188)
