-- `words::Size::new` meets its contract.
use Rattle.std.proofs.Common.{arith}
use Rattle.words.proofs.SizeLaws.{two_to, sized_by}
use Rattle.words.proofs.Size.new.Goals as goal

pub invariant_of-result : goal.invariant_of-result
invariant_of-result c = record { sized = sized_by _ _ _ _ c.requires (two_to _ c.requires).0 (omega (arith, c.div_ceil.ensures)) }
