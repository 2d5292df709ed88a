-- `predecessors::allowed_word` meets its contract.
use Rattle.std.proofs.Common.{◌&&◌, ap₂, ◌∙◌}
use Rattle.words.proofs.BitLaws.{bit-and}
use Rattle.predecessors.proofs.Rows.{allowed-nothing, allowed-by}
use Rattle.predecessors.proofs.allowed_word.Goals as goal

pub returns-in-None : goal.returns-in-None
returns-in-None c =
    let e = c.args.equations.now in
    λ i h. c.lanes_below-low.ensures i h ∙ allowed-nothing _ _ e.code.now e.len.now _ _ _ c.in-None.is e.size.sized.power

pub returns-in-Some : goal.returns-in-Some
returns-in-Some c =
    let e = c.args.equations.now in
    λ i h.
    bit-and i _ _ ∙ ap₂ ◌&&◌ (c.lanes_below-low.ensures i h) (c.stream_word.ensures i h)
    ∙ allowed-by _ _ e.code.now e.len.now _ _ _ _ _ c.in-Some.is e.size.sized.power (c.from.ensures ∙ c.stream_of-stream.ensures)
