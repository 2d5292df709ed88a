-- `checks::check_closing` meets its contract.
use Rattle.std.proofs.lemmas.Result.{err_from_is_err_and}
use Rattle.outcomes.proofs.Decisions.{decided-refused, decided-accepted}
use Rattle.checks.specs.JournalChecks.{journal_rules, end_rules}
use Rattle.checks.proofs.check_closing.Goals as goal

pub returns-in_err-check_journal : goal.returns-in_err-check_journal
returns-in_err-check_journal c =
    let p = err_from_is_err_and c.from_residual.result c.from_residual.ensures.1 in
    rw (p.1, p.2)
    (decided-refused (journal_rules _ _ c.args.r) (end_rules c.args.r) _ (rw c.in_err-check_journal.was at c.check_journal.ensures))

pub returns : goal.returns
returns c =
    decided-accepted (journal_rules _ _ c.args.r) (end_rules c.args.r) _ (rw c.in_ok-check_journal.was at c.check_journal.ensures) c.check_end.ensures
