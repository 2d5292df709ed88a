-- A refusal ends the run, and verdicts are written before the next line.
use Rattle.std.proofs.Common.{refl}
use Rattle.line_end.proofs.LineEnds.{refused-ends, round-ends}
use Rattle.line_end.proofs.round_line.Goals as goal

pub returns-in-Err-clause-ended : goal.returns-in-Err-clause-ended
returns-in-Err-clause-ended c = λ sheet b part o sv l.
    refused-ends sheet _ b _ part _ _ _ _ _ _ _ _ l (rw c.in-Err.is at (c.answer_round-a.ensures.by_the_book sheet b o sv))
    c.refused_line.ensures.0 c.refused_line.ensures.2

pub returns-clause-ended : goal.returns-clause-ended
returns-clause-ended c = λ sheet b part o sv l.
    round-ends sheet _ b _ part _ _ _ _ _ _ refl c.next_line.ensures _ _ l
    (rw c.in_default.is at (c.answer_round-a.ensures.by_the_book sheet b o sv)) c.verdict_line.ensures.placed
