-- `rounds::group::clear_groups` meets its contract.
use Rattle.std.proofs.Common.{arith}
use Rattle.rounds.proofs.GroupLaws.{emptying-none, emptying-more, emptying-all}
use Rattle.rounds.proofs.group.clear_groups.Goals as goal

pub loop-g-init : goal.loop-g-init
loop-g-init c = (omega arith, emptying-none _ _)

pub loop-g-preserved : goal.loop-g-preserved
loop-g-preserved c = (omega (arith, c.in-Some.ensures.1), emptying-more _ _ _ _ _ _ _ c.in-Some.ensures c.loop-g.invariant.1 c.take_row.ensures)

pub returns : goal.returns
returns c = emptying-all _ _ _ _ _ c.loop-g.invariant.0 c.args.size.now.sized.most_valuations c.in_default.ensures c.requires.0 c.requires.1 c.loop-g.invariant.1
