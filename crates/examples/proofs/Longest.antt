-- The sheet of 463 bytes is accepted.
use mathlib.Core.Path.{refl}
use mathlib.Core.List.{[], ◌∷◌}
use lib.Dec.{T}
use Rattle.words.specs.Below.{any_below}
use Rattle.sheet.specs.Bytes.{op_of, reads_of}
use Rattle.sheet.specs.Expression.{apply_op, final, parse}
use Rattle.sheet.specs.Header.{mark_ok, version_of, version_ok, counts_ok, assumed_at, header_of}
use Rattle.sheet.specs.RuleSheet.{read_outputs, read_sheet}
use Rattle.lola.specs.Reads.{has_read}
use Rattle.circular.specs.Circular.{edges}
use Rattle.circular.proofs.Decide.{circular?, circular_at, at_least0, turned}
use Rattle.circular.proofs.Closure.{Best, top, larger, plus, loop, pick, blow}
use Rattle.examples.specs.Table.{one_input}
use Rattle.examples.specs.Longest.{long_outputs, longest, LongestMet}
use Rattle.examples.proofs.Accepted.{all_of, of_reading, read-passed, level_test, accepted-as}

tested : T (of_reading (read_sheet longest) (λ x. level_test x ∷ []))
unfolding all_of longest long_outputs one_input any_below read_sheet header_of mark_ok version_of version_ok counts_ok assumed_at read_outputs parse final apply_op op_of reads_of circular? circular_at at_least0 Best top larger plus loop pick blow turned edges has_read
tested = tt

pub longest_met : LongestMet
unfolding longest long_outputs one_input
longest_met = let (x, e, p) = read-passed longest (λ x. level_test x ∷ []) tested in (refl, (x, accepted-as longest x e p.0))
