-- `trace::place::put_bit` meets its contract.
use Rattle.std.proofs.Common.{ap, ◌∙◌}
use Rattle.words.specs.Bits.{bit}
use Rattle.trace.proofs.Flips.{put_byte}
use Rattle.trace.proofs.place.put_bit.Goals as goal

pub returns : goal.returns
returns c = rw c.from-2.ensures (put_byte _ _ _ _ c.requires.0 c.requires.1 _ (c.has_bit.ensures ∙ ap (bit c.args.s) c.from.ensures))
