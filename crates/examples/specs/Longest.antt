-- A sheet of 463 bytes, the most that a sheet can have (01, "The sheet"): one input, seven outputs of 64 bytes each, which read the input and
-- negate it 63 times.
-- Manual: "The sheet".
use Rattle.std.specs.Prelude.{◌≡◌, List, [], ◌∷◌, ◌++◌, ℕ, zero, suc, length, replicate}
use Rattle.sheet.specs.RuleSheet.{RuleSheet}
use Rattle.examples.specs.Table.{AcceptedAs, one_input}

unfoldable pub long_outputs : ℕ → List ℕ
long_outputs zero = []
long_outputs (suc k) = 64 ∷ 0x40 ∷ (replicate 63 0x02 ++ long_outputs k)

unfoldable pub longest : List ℕ
longest = one_input 7 255 (long_outputs 7)

-- it has 463 bytes and is accepted
abbrev pub LongestMet : Type 0
LongestMet = (length longest ≡ 463) × ((x : RuleSheet) × AcceptedAs longest x)
