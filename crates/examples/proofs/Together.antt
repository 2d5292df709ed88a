-- The two sheets with two open outputs, by a computed test.
use mathlib.Core.Bool.{Bool}
use mathlib.Core.Path.{refl, subst}
use mathlib.Core.List.{List, [], ◌∷◌}
use Prim.Native.Nat.{ℕ}
use lib.Dec.{T, eqb}
use Rattle.outcomes.specs.Numbers.{verdict_no}
use Rattle.outcomes.specs.declared.Verdict.{Verdict}
use Rattle.outcomes.specs.declared.Verdict.TheVariants.{Open}
use Rattle.words.specs.Bits.{bit, digit}
use Rattle.words.specs.Below.{any_below}
use Rattle.sheet.specs.Bytes.{op_of, reads_of}
use Rattle.sheet.specs.Expression.{apply_op, final, parse}
use Rattle.sheet.specs.Header.{mark_ok, version_of, version_ok, counts_ok, assumed_at, header_of}
use Rattle.sheet.specs.RuleSheet.{RuleSheet, read_outputs, read_sheet}
use Rattle.lola.specs.Value.{value, near}
use Rattle.lola.specs.Equations.{equations, holds}
use Rattle.lola.specs.Reads.{has_read}
use Rattle.circular.specs.Circular.{edges}
use Rattle.circular.proofs.Decide.{circular?, circular_at, at_least0, turned}
use Rattle.circular.proofs.Closure.{Best, top, larger, plus, loop, pick, blow}
use Rattle.completions.specs.Live.{all_true, allowed}
use Rattle.completions.specs.Completion.{masked}
use Rattle.completions.specs.Steps.{any_next, any_pair, start_set, pairs_verdict}
use Rattle.completions.specs.Together.{named, together, TogetherVerdict}
use Rattle.completions.proofs.Backward.{end_set, back_set, live_within, layer}
use Rattle.effects.specs.Results.{width}
use Rattle.claims.proofs.BookLaws.{reaches-together}
use Rattle.examples.specs.Table.{unheard, one_input}
use Rattle.examples.specs.Together.{BothOpen, opposites, twice, TogetherExamples}
use Rattle.examples.proofs.Accepted.{all_of, of_reading, read-passed, level_test, accepted-as}
use Rattle.examples.proofs.Computed.{gives, live_set, deep, reached_set, byRounds, live, verdict-same, judged-round, after-round}

abbrev opens : List Verdict
opens = Open ∷ Open ∷ []

module _ (x : RuleSheet) where
  abbrev onBoth : Verdict
  onBoth = pairs_verdict (width x) (reached_set x) (together x (named 3))

  abbrev openTests : Verdict → List Bool
  openTests v = level_test x ∷ deep x ∷ gives (byRounds x) 0 opens ∷ eqb (verdict_no onBoth) (verdict_no v) ∷ []

  judged-both : (d : T (deep x)) (v : Verdict) → T (eqb (verdict_no onBoth) (verdict_no v)) → TogetherVerdict x (unheard ∷ []) (named 3) v
  judged-both d v t = subst (TogetherVerdict x (unheard ∷ []) (named 3)) (verdict-same onBoth v t) (reaches-together x (live_set x) (live x d) unheard [] (reached_set x) (after-round x d) (named 3))

both_open : (bs : List ℕ) (v : Verdict) → T (of_reading (read_sheet bs) (λ x. openTests x v)) → BothOpen bs v
both_open bs v t =
    let (x, e, p) = read-passed bs (λ x. openTests x v) t in
    record {
      sheet = x;
      accepted = accepted-as bs x e p.0;
      first = judged-round x p.1.0 opens p.1.1.0 0 Open refl;
      second = judged-round x p.1.0 opens p.1.1.0 1 Open refl;
      both = judged-both x p.1.0 v p.1.1.1.0;
    }

pub together_examples : TogetherExamples
unfolding all_of opposites twice one_input gives deep live_set reached_set masked start_set pairs_verdict together layer live_within end_set back_set any_pair any_next any_below holds equations value near bit digit allowed all_true read_sheet header_of mark_ok version_of version_ok counts_ok assumed_at read_outputs parse final apply_op op_of reads_of circular? circular_at at_least0 Best top larger plus loop pick blow turned edges has_read
together_examples = (both_open opposites _ tt, both_open twice _ tt)
