-- `reader::read_assumed` meets its contract.
use borrow.Author.Tests.{eq-eqb, ne_eqb, lt-ltb, le-ltb}
use Rattle.sheet.specs.Header.{assumed_at}
use Rattle.reader.proofs.read_assumed.Goals as goal

pub returns-then-byte-eq255 : goal.returns-then-byte-eq255
unfolding assumed_at
returns-then-byte-eq255 c = simp (eq-eqb _ _ c.if-byte-eq255.true)

pub returns-then-byte-n : goal.returns-then-byte-n
unfolding assumed_at
returns-then-byte-n c = simp (ne_eqb _ _ c.if-byte-eq255.false, lt-ltb _ _ c.if-byte-n.true)

pub returns-else-byte-n : goal.returns-else-byte-n
unfolding assumed_at
returns-else-byte-n c = simp (ne_eqb _ _ c.if-byte-eq255.false, le-ltb _ _ c.if-byte-n.false)
