-- `effects::step` meets its contract.
use Rattle.std.proofs.Common.{sym, subst, arith}
use Rattle.completions.specs.Live.{Pairs}
use Rattle.pairs.specs.Storage.{live, reached}
use Rattle.lanes.specs.Sheets.{sheet_by}
use Rattle.rounds.specs.Rows.{among}
use Rattle.rounds.specs.Round.{Rounded}
use Rattle.effects.proofs.Rounding.{next-first}
use Rattle.effects.proofs.Done.{later-step}
use Rattle.effects.proofs.step.Goals as goal

pub returns-then-rounds-eq0 : goal.returns-then-rounds-eq0
returns-then-rounds-eq0 c = λ ks.
    subst (λ (R : Pairs). Rounded c.args.equations.now.size.valuations c.args.words.now c.first_round.new.s R)
    (sym (next-first (sheet_by c.args.equations.now ks) (live c.args.words.now) (reached c.args.words.now) (among c.args.letters) c.args.rounds c.if-rounds-eq0.true)) (c.first_round.ensures ks)

pub returns-then-before-gt0 : goal.returns-then-before-gt0
returns-then-before-gt0 c = λ ks.
    subst (λ (R : Pairs). Rounded c.args.equations.now.size.valuations c.args.words.now c.later_round.new.s R)
    (sym (later-step c.args.equations.now ks (live c.args.words.now) (reached c.args.words.now) (among c.args.letters) c.args.rounds c.if-rounds-eq0.false)) (c.later_round.ensures ks)

pub returns-else-before-gt0 : goal.returns-else-before-gt0
returns-else-before-gt0 c = absurd (c.if-rounds-eq0.false (omega arith))
