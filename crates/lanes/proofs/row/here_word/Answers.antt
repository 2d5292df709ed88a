-- `lanes::row::here_word` meets its contract.
use Rattle.std.proofs.Common.{sym, ap, ◌∙◌, ◌+◌, ◌*◌}
use Rattle.words.specs.Bits.{bit}
use Rattle.lanes.proofs.AroundLaws.{own-here, shared-here}
use Rattle.lanes.proofs.row.here_word.Goals as goal

pub returns-then-has_bit : goal.returns-then-has_bit
returns-then-has_bit c = λ i h.
    c.stream_word.ensures i h ∙ sym (ap (bit c.args.q) (own-here c.args.reads.now.own c.args.reads.now.round (64 * c.args.j + i) (sym c.has_bit.ensures ∙ c.if-has_bit.true)))

pub returns : goal.returns
returns c = λ i h.
    c.spread.ensures i h ∙ c.has_bit-value.ensures ∙ sym (ap (bit c.args.q) (shared-here c.args.reads.now.own c.args.reads.now.round (64 * c.args.j + i) (sym c.has_bit.ensures ∙ c.if-has_bit.false)))
