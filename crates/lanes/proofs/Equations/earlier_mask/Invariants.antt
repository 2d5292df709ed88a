-- The loop of `lanes::Equations::earlier_mask`.
use Rattle.std.proofs.Common.{◌+◌}
use Rattle.lanes.proofs.BlindLaws.{Covers}
use Rattle.lanes.proofs.Equations.earlier_mask.Given as goal

abbrev pub invariant-loop-k : goal.invariant-loop-k
invariant-loop-k l = Covers (l.self.size.inputs + l.self.size.outputs) l.self.code.now l.self.len.now l.reads l.k
