-- `circular::table::circular` meets its contract.
use Rattle.std.proofs.Common.{sym, ◌∙◌}
use mathlib.Core.Bool.{false≢true}
use Rattle.circular.proofs.Codes.{none_reads, none-rises, scan-circular, scan-not-circular, any_iff}
use Rattle.circular.proofs.table.circular.Goals as goal

pub returns-then-not-has_reads : goal.returns-then-not-has_reads
returns-then-not-has_reads c =
    record { yes = (λ e. absurd (false≢true e)); no = λ _. none_reads _ _ (c.has_reads.ensures (c.if-not-has_reads.true)) }

pub returns-then-not-level_in_both : goal.returns-then-not-level_in_both
returns-then-not-level_in_both c =
    record { yes = (λ e. absurd (false≢true e)); no = λ _. none-rises _ c.requires.1 _ _ c.closed-rising.ensures (sym (any_iff _ _ _ c.level_in_both.ensures) ∙ c.if-not-level_in_both.true) }

pub returns : goal.returns
returns c =
    let e = any_iff _ _ _ c.level_in_both-2.ensures in
    record { yes = (λ t. scan-circular _ c.requires.1 _ _ c.closed-rising.ensures _ c.closed-falling.ensures (sym e ∙ t)); no = λ f. scan-not-circular _ c.requires.1 _ _ c.closed-rising.ensures _ c.closed-falling.ensures (sym e ∙ f) }
