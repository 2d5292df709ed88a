-- Each kind of line ends as its function says.
use Rattle.std.proofs.Common.{refl}
use Rattle.buffer.proofs.WroteLaws.{wrote_none}
use Rattle.line_end.proofs.LineEnds.{asks-told, malformed-ends, blank-ends}
use Rattle.line_end.proofs.line_end.Goals as goal

pub returns-in-Blank-clause-ended : goal.returns-in-Blank-clause-ended
returns-in-Blank-clause-ended c = λ sheet b part o sv h.
    blank-ends sheet _ b _ part _ _ _ _ _ _ refl c.next_line.ensures (asks-told sheet _ b _ _ part _ _ sv h c.in-Blank.is) sv (wrote_none _ _)

pub returns-in-Round-clause-ended : goal.returns-in-Round-clause-ended
returns-in-Round-clause-ended c = λ sheet b part o sv h.
    c.round_line.ensures.ended sheet b part o sv (asks-told sheet _ b _ _ part _ _ sv h c.in-Round.is)

pub returns-in-Malformed-clause-ended : goal.returns-in-Malformed-clause-ended
returns-in-Malformed-clause-ended c = λ sheet b part o sv h.
    malformed-ends sheet _ b _ part _ _ _ _ _ _ _ sv (asks-told sheet _ b _ _ part _ _ sv h c.in-Malformed.is)
    c.malformed_line.ensures.0 c.malformed_line.ensures.2
