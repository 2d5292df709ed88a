-- A closing of the monitor is a call of a session, which the book answers too.
use Rattle.sheet.specs.Reading.{rule_sheet}
use Rattle.line_end.proofs.Serving.{serves-step, closing-step, accepted-closing}
use Rattle.line_end.proofs.answer_closing.Goals as goal

pub returns-clause-by_the_book : goal.returns-clause-by_the_book
returns-clause-by_the_book c = λ sheet b o sv.
    serves-step sheet (rule_sheet c.args.x.now.sheet) b _ sv _ _ _
    (closing-step sheet c.args.x.now.sheet o c.args.storage.now c.args.r c.close_on.result (c.close_on.ensures sheet o))

pub returns-clause-done : goal.returns-clause-done
returns-clause-done c =
    accepted-closing c.args.x.now.sheet c.args.x.now.accepted c.args.storage.now c.args.r c.close_on.result c.close_on.ensures
