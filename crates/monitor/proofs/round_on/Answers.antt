-- `monitor::round_on` meets its contract.
use Rattle.checks.proofs.Checking.{round_ready}
use Rattle.monitor.proofs.Entries.{round-turned-down, round-done}
use lib.ListN.{length}
use Rattle.monitor.proofs.round_on.Goals as goal

pub round-requires : goal.round-requires
round-requires c =
    let d = rw c.in-Ok.is at c.check_round-outcome.ensures in
    let y = round_ready c.args.x.now.inputs c.args.x.now.outputs (length c.args.storage.now) c.args.r c.args.letters d in
    (y.long, y.right, y.rounds-left)

pub returns-in-Err : goal.returns-in-Err
returns-in-Err c =
    let d = rw c.in-Err.is at c.check_round-outcome.ensures in
    λ bs ok. round-turned-down bs c.args.x.now ok c.args.r c.args.letters c.args.storage.now _ _ c.refused_round.ensures d

pub returns-in-Ok : goal.returns-in-Ok
returns-in-Ok c =
    let d = rw c.in-Ok.is at c.check_round-outcome.ensures in
    λ bs ok. round-done bs c.args.x.now ok c.args.r c.args.letters c.args.storage.now c.round.new.storage c.round.result c.round.ensures.0 d c.round.ensures.1
