-- `rounds::group::group_rows` meets its contract.
use Rattle.std.proofs.Common.{arith, ◌≡◌, ◌+◌, ◌*◌}
use Rattle.rounds.proofs.WordLaws.{upto-none, upto-row, upto-quiet}
use Rattle.rounds.proofs.group.group_rows.Goals as goal

pub loop-four-init : goal.loop-four-init
loop-four-init c = (upto-none _ _ _ _ _ c.args.size.now.sized.most_valuations, λ f. f)

pub loop-four-preserved-then-is_quiet : goal.loop-four-preserved-then-is_quiet
loop-four-preserved-then-is_quiet c =
    let e : 4 * (c.loop-four.four + 1) ≡ 4 * c.loop-four.four + 4 = omega arith in
    (rw e (upto-quiet _ _ _ _ _ c.args.size.now.sized.most_valuations _ _ (omega arith) c.loop-four.invariant.0 (c.is_quiet.ensures c.if-is_quiet.true)), c.loop-four.invariant.1)

pub loop-a-preserved : goal.loop-a-preserved
loop-a-preserved c =
    (upto-row _ _ _ _ _ c.args.size.now.sized.most_valuations _ _ _ (omega (arith, c.min-a-end.ensures, c.loop-a-test.true)) c.loop-a.invariant.0 c.group_row.ensures.joined, λ f. c.group_row.ensures.sparse _ c.args.size.now.sized.most_valuations (c.loop-a.invariant.1 f))
