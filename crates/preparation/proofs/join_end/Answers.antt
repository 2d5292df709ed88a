-- `preparation::join_end` meets its contract.
use Rattle.std.proofs.Common.{refl, arith}
use Rattle.preparation.proofs.Joining.{joins_both}
use Rattle.preparation.proofs.join_end.Goals as goal

pub returns : goal.returns
returns c = joins_both _ _ _ _ _ _ (omega arith) c.insert_end.ensures c.insert_end-2.ensures (λ x y hx hy. refl)
