-- `verdicts::is_first` meets its contract.
use Rattle.std.proofs.Common.{sym, ◌∙◌}
use Rattle.verdicts.proofs.VerdictLaws.{first-end, first_rest}
use Rattle.verdicts.proofs.is_first.Goals as goal

pub returns-then-has_end : goal.returns-then-has_end
returns-then-has_end c = c.if-has_end.true ∙ first-end _ _ _ (sym c.has_end.ensures ∙ c.if-has_end.true)

pub returns-else-has_end : goal.returns-else-has_end
returns-else-has_end c = c.is_followed.ensures ∙ first_rest _ _ _ (sym c.has_end.ensures ∙ c.if-has_end.false)
