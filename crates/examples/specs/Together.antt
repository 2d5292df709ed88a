-- Two outputs that are open, and what is known of both together (02, W8): their own verdicts don't tell.
-- Manual: "Completions and verdicts".
use Rattle.std.specs.Prelude.{List, [], ◌∷◌, ℕ}
use Rattle.outcomes.specs.declared.Verdict.{Verdict}
use Rattle.outcomes.specs.declared.Verdict.TheVariants.{False, Open}
use Rattle.sheet.specs.RuleSheet.{RuleSheet}
use Rattle.completions.specs.Judged.{RoundVerdict}
use Rattle.completions.specs.Together.{named, TogetherVerdict}
use Rattle.examples.specs.Table.{unheard, AcceptedAs, one_input}

-- the bytes are an accepted sheet; after one round in which nothing is heard outputs 0 and 1 are open, and v is the verdict on both
pub record BothOpen (bs : List ℕ) (v : Verdict) : Type 0 where
  pub sheet : RuleSheet
  pub accepted : AcceptedAs bs sheet
  pub first : RoundVerdict sheet (unheard ∷ []) 0 Open
  pub second : RoundVerdict sheet (unheard ∷ []) 1 Open
  pub both : TogetherVerdict sheet (unheard ∷ []) (named 3) v

-- the input, and its opposite
unfoldable pub opposites : List ℕ
opposites = one_input 2 255 (1 ∷ 0x40 ∷ 2 ∷ 0x40 ∷ 0x02 ∷ [])

-- the input twice
unfoldable pub twice : List ℕ
twice = one_input 2 255 (1 ∷ 0x40 ∷ 1 ∷ 0x40 ∷ [])

abbrev pub TogetherExamples : Type 0
TogetherExamples = BothOpen opposites False × BothOpen twice Open
