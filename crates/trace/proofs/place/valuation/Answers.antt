-- `trace::place::valuation` meets its contract.
use Rattle.trace.proofs.Rounds.{shifted}
use Rattle.trace.proofs.place.valuation.Goals as goal

pub returns : goal.returns
returns c = rw (c.from.ensures, c.from-2.ensures, shifted _ c.requires.0 _ (c.type_inv.buf c.args.i).fits)
