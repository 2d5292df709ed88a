-- Examples of rule 10, over the definition: sheets of one input, by the bytes of their outputs.
use mathlib.Core.Path.{◌≡◌, refl}
use mathlib.Core.Bool.{Bool, true, false, false≢true}
use mathlib.Core.List.{List, [], ◌∷◌, map}
use Prim.Native.Nat.{ℕ, ◌+◌}
use lib.ListN.{length}
use Rattle.words.specs.Below.{any_below}
use Rattle.sheet.specs.Bytes.{op_of, reads_of}
use Rattle.sheet.specs.Expression.{newest, apply_op, final, parse}
use Rattle.sheet.specs.RuleSheet.{RuleSheet, outputs}
use Rattle.sheet.specs.Reading.{tree_of}
use Rattle.lola.specs.Reads.{has_read}
use Rattle.circular.specs.Circular.{CircularSheet, edges}
use Rattle.circular.proofs.Closure.{Best, top, larger, plus, loop, pick, blow}
use Rattle.circular.proofs.Decide.{turned, at_least0, circular_at, circular?, circular?_true, circular?_of}

abbrev sheet_of : List (List ℕ) → RuleSheet
sheet_of es = record { inputs = 1; expressions = map (λ e. tree_of (parse (newest (1 + length es)) [] e)) es; required = [] }

abbrev Rule10 : List (List ℕ) → Bool → Type 0
Rule10 es true = CircularSheet (sheet_of es)
Rule10 es false = CircularSheet (sheet_of es) → ⊥

rule10 : (es : List (List ℕ)) (b : Bool) → circular? (outputs (sheet_of es)) (edges (sheet_of es)) ≡ b → Rule10 es b
rule10 es true e = circular?_true (outputs (sheet_of es)) (edges (sheet_of es)) e
rule10 es false e = λ c. false≢true (let t : circular? (outputs (sheet_of es)) (edges (sheet_of es)) ≡ true = circular?_of (outputs (sheet_of es)) (edges (sheet_of es)) c in cc)

-- In their order: outputs that read each other one round earlier and one round later (01, case e); an output that reads itself both ways
-- (01, case f); reads that logic makes irrelevant, of both operands of an equality too; closed walks of weights 2 and -3, with no simple
-- one of weight 0; reads that lean one way in one output and the other way in another, with no closed walk through both, twice; the last
-- one with the walk closed.
pub examples :
    Rule10 ((0x52 ∷ []) ∷ ((0x61 ∷ []) ∷ [])) true
    × Rule10 ((0x51 ∷ (0x61 ∷ (0x03 ∷ []))) ∷ []) true
    × Rule10 ((0x41 ∷ (0x00 ∷ (0x03 ∷ []))) ∷ []) true
    × Rule10 ((0x41 ∷ (0x41 ∷ (0x05 ∷ []))) ∷ []) true
    × Rule10 ((0x41 ∷ (0x40 ∷ (0x05 ∷ []))) ∷ []) true
    × Rule10 ((0x40 ∷ (0x41 ∷ (0x05 ∷ []))) ∷ []) true
    × Rule10 ((0x62 ∷ (0x53 ∷ (0x03 ∷ []))) ∷ ((0x61 ∷ []) ∷ ((0x54 ∷ []) ∷ ((0x51 ∷ []) ∷ [])))) true
    × Rule10 ((0x51 ∷ []) ∷ ((0x62 ∷ (0x41 ∷ (0x04 ∷ []))) ∷ [])) false
    × Rule10 ((0x51 ∷ (0x62 ∷ (0x04 ∷ []))) ∷ ((0x52 ∷ []) ∷ [])) false
    × Rule10 ((0x51 ∷ (0x62 ∷ (0x04 ∷ []))) ∷ ((0x52 ∷ (0x51 ∷ (0x04 ∷ []))) ∷ [])) true
unfolding circular? circular_at any_below at_least0 turned edges has_read parse apply_op final op_of reads_of Best top larger plus loop pick blow
examples = (
  rule10 ((0x52 ∷ []) ∷ ((0x61 ∷ []) ∷ [])) true refl,
  rule10 ((0x51 ∷ (0x61 ∷ (0x03 ∷ []))) ∷ []) true refl,
  rule10 ((0x41 ∷ (0x00 ∷ (0x03 ∷ []))) ∷ []) true refl,
  rule10 ((0x41 ∷ (0x41 ∷ (0x05 ∷ []))) ∷ []) true refl,
  rule10 ((0x41 ∷ (0x40 ∷ (0x05 ∷ []))) ∷ []) true refl,
  rule10 ((0x40 ∷ (0x41 ∷ (0x05 ∷ []))) ∷ []) true refl,
  rule10 ((0x62 ∷ (0x53 ∷ (0x03 ∷ []))) ∷ ((0x61 ∷ []) ∷ ((0x54 ∷ []) ∷ ((0x51 ∷ []) ∷ [])))) true refl,
  rule10 ((0x51 ∷ []) ∷ ((0x62 ∷ (0x41 ∷ (0x04 ∷ []))) ∷ [])) false refl,
  rule10 ((0x51 ∷ (0x62 ∷ (0x04 ∷ []))) ∷ ((0x52 ∷ []) ∷ [])) false refl,
  rule10 ((0x51 ∷ (0x62 ∷ (0x04 ∷ []))) ∷ ((0x52 ∷ (0x51 ∷ (0x04 ∷ []))) ∷ [])) true refl,
)
