-- The exact reach of four sheets (02, W13).
-- Manual: "Preparation".
use Rattle.std.specs.Prelude.{List, [], ◌∷◌, ℕ}
use Rattle.sheet.specs.RuleSheet.{RuleSheet}
use Rattle.completions.specs.Live.{ExactReach}
use Rattle.examples.specs.Table.{AcceptedAs, one_input, session}

-- the bytes are an accepted sheet whose exact reach is r
abbrev pub Reaches : List ℕ → ℕ → Type 0
Reaches bs r = (x : RuleSheet) × AcceptedAs bs x × ExactReach x r

-- an assumption that no trace keeps: only pairs with the end mark are live
unfoldable pub no_trace : List ℕ
no_trace = one_input 1 0 (1 ∷ 0x00 ∷ [])

-- an output that reads its own round: the second valuation of a live pair may be the last
unfoldable pub own_round : List ℕ
own_round = one_input 1 255 (1 ∷ 0x40 ∷ [])

-- output 0 is as one round earlier, which is false in every trace, and output 1 says that output 0 is true and so is the input one round later: no
-- trace has to go on for it, but a second valuation with both outputs does
unfoldable pub never_true : List ℕ
never_true = one_input 2 255 (1 ∷ 0x51 ∷ 3 ∷ 0x41 ∷ 0x60 ∷ 0x03 ∷ [])

abbrev pub ReachExamples : Type 0
ReachExamples = Reaches no_trace 0 × Reaches own_round 1 × Reaches session 2 × Reaches never_true 2
