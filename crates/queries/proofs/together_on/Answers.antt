-- `queries::together_on` meets its contract.
use Rattle.std.proofs.Common.{◌∙◌, ◌+◌, ◌^◌}
use Rattle.verdicts.specs.Firsts.{all_named}
use Rattle.effects.proofs.Front.{pairs-front, valuations}
use Rattle.queries.proofs.Answering.{turned_down, answered}
use Rattle.queries.proofs.together_on.Goals as goal

pub returns-in-Err : goal.returns-in-Err
returns-in-Err c =
    let d = c.in-Err.ensures in
    λ bs ok. turned_down bs c.args.x.now ok c.args.storage.now c.args.r c.args.outputs _ _ c.refused.ensures d

pub returns-in-Ok : goal.returns-in-Ok
returns-in-Ok c =
    let x = c.args.x.now in
    let z = c.new-size.ensures in
    let e = rw (z.0, z.1) at (rw c.in_front.ensures at c.set_verdict.ensures) in
    let f = pairs-front (2 ^ (x.inputs + x.outputs)) (valuations x.inputs x.outputs x.ranges.streams) c.args.storage.now (all_named x.inputs x.outputs c.args.outputs) in
    λ bs ok. answered bs x ok c.args.storage.now c.args.r c.args.outputs _ c.in-Ok.ensures (e ∙ f)
