-- `trace::evaluate` meets its contract.
use Rattle.std.proofs.Common.{refl, length}
use Rattle.std.proofs.lemmas.Result.{err_from_is_err_and}
use Rattle.sheet.specs.Reading.{rule_sheet}
use Rattle.sheet.proofs.Formed.{counts_of}
use Rattle.trace.proofs.Decided.{sheet-refused, run-decided}
use Rattle.trace.proofs.Whole.{evaluated_of}
use Rattle.trace.proofs.evaluate.Goals as goal

pub returns-in_err-accepted : goal.returns-in_err-accepted
returns-in_err-accepted c =
    let p = err_from_is_err_and c.from_residual.result c.from_residual.ensures.1 in
    rw (p.1, p.2)
    (record {
      decided = sheet-refused c.args.sheet.now c.args.letters.now (length c.args.out.now) _ (rw c.in_err-accepted.was at c.accept_sheet.ensures.decided);
      result = refl;
    })

pub returns : goal.returns
returns c =
    let s = rw c.in_ok-accepted.was at c.accept_sheet.ensures.sheet in
    let x = rule_sheet c.in_ok-accepted.accepted in
    record {
      decided = run-decided c.args.sheet.now c.args.letters.now (length c.args.out.now) _ (counts_of c.args.sheet.now x s.reads).0 c.run.result s.decided c.run.ensures.decided;
      result = evaluated_of c.args.sheet.now c.args.letters.now c.args.out.now c.run.new.out x s.reads c.run.result c.run.ensures.left;
    }
