-- The line ends behind a whole alternative, or is too short for one.
use Rattle.std.proofs.Common.{ℕ, sym, ap, ◌∙◌}
use Rattle.claims.specs.Book.{round}
use Rattle.line_scan.specs.Lines.{calls}
use Rattle.line_scan.proofs.Standing.{marked-round, marked-short}
use Rattle.line_scan.proofs.kept.Alternatives.ended.Goals as goal

pub returns-then-self-by : goal.returns-then-self-by
returns-then-self-by c = λ part h. marked-short _ part _ h c.if-self-by.true

pub returns : goal.returns
returns c =
    λ part h. marked-round _ part _ h c.args.by.few c.if-self-by.false ∙ ap (λ (z : ℕ). calls (round z)) (sym c.line_set.ensures)
