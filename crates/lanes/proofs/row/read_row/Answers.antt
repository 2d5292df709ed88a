-- `lanes::row::read_row` meets its contract.
use Rattle.std.proofs.Common.{sym, ap, ◌∙◌, ◌+◌, ◌*◌, ◌%◌}
use Rattle.words.specs.Bits.{bit}
use Rattle.lanes.proofs.AroundLaws.{own_read, shared-read}
use Rattle.lanes.proofs.row.read_row.Goals as goal

pub returns-then-has_bit-clause-words : goal.returns-then-has_bit-clause-words
returns-then-has_bit-clause-words g c = λ j i h l. c.stream_row.ensures.words j i h l ∙ sym (own_read _ _ _ _ (sym c.has_bit.ensures ∙ c.if-has_bit.true))

pub returns-clause-words : goal.returns-clause-words
returns-clause-words g c =
    λ j i h l.
    ap (bit i) (c.fill_row.ensures.words j h) ∙ c.spread.ensures i l ∙ c.has_bit-value.ensures
    ∙ sym (shared-read c.args.reads.now.env c.args.reads.now.own (64 * j + i) (c.args.e % 64) (sym c.has_bit.ensures ∙ c.if-has_bit.false))
