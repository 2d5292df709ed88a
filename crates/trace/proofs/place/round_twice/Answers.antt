-- `trace::place::round_twice` meets its contract.
use Rattle.std.proofs.Common.{arith}
use Rattle.trace.proofs.Rounds.{round-twice-none, before-first, after_last, round-twice-some}
use Rattle.trace.proofs.place.round_twice.Goals as goal
use Rattle.trace.proofs.place.round_twice.Goals.{then-at-lt2-via-then-at-lt2, then-at-lt2-via-else-at-lt2+then-last-at}

pub returns-then-at-lt2 : goal.returns-then-at-lt2
returns-then-at-lt2 c =
    round-twice-none _ _ _ _
    (elim c.then-at-lt2.branch [
      | then-at-lt2-via-then-at-lt2 w ↦ before-first c.args.letters.now _ w.if-at-lt2.true
      | then-at-lt2-via-else-at-lt2+then-last-at w ↦ after_last c.args.letters.now _ w.if-last-at.true
    ])

pub returns : goal.returns
returns c = round-twice-some c.args.sheet.now _ _ _ c.requires (omega arith) (omega arith) _ c.valuation-v.ensures
