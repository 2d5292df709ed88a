-- A refusal ends the run, and a closing is written before the next line.
use Rattle.std.proofs.Common.{◌≡◌, refl, sym, length, take, arith, rules}
use lib.Seq.{length-take-le}
use Rattle.sheet.proofs.Sheets.{sheet-outputs}
use Rattle.line_end.proofs.LineEnds.{refused-ends, closing-ends}
use Rattle.line_end.proofs.closing_line.Goals as goal

pub returns-in-Err-clause-ended : goal.returns-in-Err-clause-ended
returns-in-Err-clause-ended c = λ sheet b part o sv l.
    refused-ends sheet _ b _ part _ _ _ _ _ _ _ _ l (rw c.in-Err.is at (c.answer_closing-a.ensures.by_the_book sheet b o sv))
    c.refused_line.ensures.0 c.refused_line.ensures.2

pub returns-clause-ended : goal.returns-clause-ended
returns-clause-ended c =
    let k = rw c.in_default.is at c.answer_closing-a.ensures.done in
    let seven : length c.answer_closing-a.result.verdicts ≡ 7 = search rules in
    let size : length (take c.args.x.now.sheet.outputs c.answer_closing-a.result.verdicts) ≡ c.args.x.now.sheet.outputs =
    length-take-le _ _ (omega (arith, seven, c.args.x.now.sheet.ranges.outputs)) in λ sheet b part o sv l.
    closing-ends sheet _ b _ part _ _ _ _ _ _ refl c.next_line.ensures _ _ _ _ (sheet-outputs c.args.x.now.sheet) (sym k.2) l
    (rw c.in_default.is at (c.answer_closing-a.ensures.by_the_book sheet b o sv)) (rw size at c.closing.ensures.placed)
