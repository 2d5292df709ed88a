-- A round of the monitor is a call of a session, which the book answers too.
use Rattle.sheet.specs.Reading.{rule_sheet}
use Rattle.line_end.proofs.Serving.{serves-step, round-step, accepted-round}
use Rattle.line_end.proofs.answer_round.Goals as goal

pub returns-clause-by_the_book : goal.returns-clause-by_the_book
returns-clause-by_the_book c = λ sheet b o sv.
    serves-step sheet (rule_sheet c.args.x.now.sheet) b _ sv _ _ _
    (round-step sheet c.args.x.now.sheet o c.args.storage.now c.round_on.new.storage c.args.r c.args.letters c.round_on.result (c.round_on.ensures sheet o))

pub returns-clause-done : goal.returns-clause-done
returns-clause-done c =
    accepted-round c.args.x.now.sheet c.args.x.now.accepted c.args.storage.now c.args.r c.round_on.new.storage c.args.letters c.round_on.result c.round_on.ensures
