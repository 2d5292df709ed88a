-- The exact reach of the four sheets, by a computed test: the layer of that number has a pair, and the next has none.
use mathlib.Core.Bool.{Bool, not}
use mathlib.Core.List.{List, [], ◌∷◌}
use Prim.Native.Nat.{ℕ}
use native.Mathlib.Nat.{le_refl}
use lib.Dec.{T}
use Rattle.words.specs.Bits.{bit, digit}
use Rattle.words.specs.Below.{any_below}
use Rattle.sheet.specs.Bytes.{op_of, reads_of}
use Rattle.sheet.specs.Expression.{apply_op, final, parse}
use Rattle.sheet.specs.Header.{mark_ok, version_of, version_ok, counts_ok, assumed_at, header_of}
use Rattle.sheet.specs.RuleSheet.{RuleSheet, read_outputs, read_sheet}
use Rattle.lola.specs.Value.{value, near}
use Rattle.lola.specs.Equations.{equations, holds}
use Rattle.lola.specs.Reads.{has_read}
use Rattle.circular.specs.Circular.{edges}
use Rattle.circular.proofs.Decide.{circular?, circular_at, at_least0, turned}
use Rattle.circular.proofs.Closure.{Best, top, larger, plus, loop, pick, blow}
use Rattle.completions.specs.Live.{all_true, allowed}
use Rattle.completions.specs.Steps.{any_next, any_pair}
use Rattle.completions.proofs.Search.{pair_found}
use Rattle.completions.proofs.Backward.{end_set, back_set, live_within, layer}
use Rattle.completions.proofs.ExactReach.{fresh, reach-is}
use Rattle.effects.specs.Results.{width}
use Rattle.examples.specs.Table.{one_input, session}
use Rattle.examples.specs.Reaches.{Reaches, no_trace, own_round, never_true, ReachExamples}
use Rattle.examples.proofs.Accepted.{all_of, of_reading, read-passed, level_test, accepted-as}

abbrev reach_tests : ℕ → RuleSheet → List Bool
reach_tests r x = level_test x ∷ any_pair (width x) (fresh x (width x) r) ∷ not (any_pair (width x) (layer x (width x) r)) ∷ []

abbrev reaches? : List ℕ → ℕ → Bool
reaches? bs r = of_reading (read_sheet bs) (reach_tests r)

reaches : (bs : List ℕ) (r : ℕ) → T (reaches? bs r) → Reaches bs r
reaches bs r t =
    let (x, e, p) = read-passed bs (reach_tests r) t in
    let y = pair_found (width x) (fresh x (width x) r) p.1.0 in
    (x, accepted-as bs x e p.0, reach-is x (width x) (le_refl (width x)) r p.1.1.0 y.0 y.1 y.4)

pub reach_examples : ReachExamples
unfolding all_of no_trace own_round never_true session one_input fresh layer live_within end_set back_set any_pair any_next any_below holds equations value near bit digit allowed all_true read_sheet header_of mark_ok version_of version_ok counts_ok assumed_at read_outputs parse final apply_op op_of reads_of circular? circular_at at_least0 Best top larger plus loop pick blow turned edges has_read
reach_examples = (reaches no_trace _ tt, reaches own_round _ tt, reaches session _ tt, reaches never_true _ tt)
