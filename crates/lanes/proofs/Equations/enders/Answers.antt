-- `lanes::Equations::enders` meets its contract.
use mathlib.Core.Path.{◌∙◌}
use Prim.Native.Nat.{◌+◌, ◌*◌}
use Rattle.words.specs.Bits.{bit, digit}
use Rattle.lanes.proofs.AroundLaws.{seen_alone, ender-look}
use Rattle.lanes.proofs.CodeLaws.{look-holds}
use Rattle.lanes.proofs.Equations.enders.Goals as goal

pub returns : goal.returns
unfolding bit digit
returns c =
    λ p h ks j i g l.
    c.row.ensures.lanes j i g l ∙ look-holds _ _ _ _ c.args.self.now.coded _ _ _ _ (ender-look _ p 0 (rw c.from.ensures (seen_alone _ p h)) (64 * j + i)) ks
