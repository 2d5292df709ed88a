-- `lanes::Equations::successors` meets its contract.
use mathlib.Core.Path.{◌∙◌}
use Prim.Native.Nat.{◌+◌, ◌*◌}
use Rattle.words.specs.Bits.{bit, digit}
use Rattle.lanes.proofs.AroundLaws.{seen_look}
use Rattle.lanes.proofs.CodeLaws.{look-holds}
use Rattle.lanes.proofs.Equations.successors.Goals as goal

pub returns : goal.returns
unfolding bit digit
returns c =
    λ p seen ks j i g h. c.row.ensures.lanes j i g h ∙ look-holds _ _ _ _ c.args.self.now.coded _ _ _ _ (seen_look _ p _ seen (64 * j + i)) ks
