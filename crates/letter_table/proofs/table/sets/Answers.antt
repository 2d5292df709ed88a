-- `letter_table::table::sets` meets its contract.
use mathlib.Core.Path.{refl}
use Rattle.words.specs.Bits.{digit, bit}
use Rattle.letter_table.specs.Entry.{matches_digits}
use Rattle.letter_table.proofs.EachEntry.{each, has_bits, rule-of}
use Rattle.letter_table.proofs.table.sets.Goals as goal

-- the list is the constant of the source, and the test is computed
pub returns : goal.returns
unfolding each has_bits matches_digits bit digit
returns c = rule-of _ refl refl
