-- A bar behind a whole alternative begins another, and other bytes are marks or spoil the line.
use Rattle.std.proofs.Common.{[], ◌∷◌, ◌++◌, sym, ap, subst, ◌∙◌}
use Rattle.line_scan.specs.Scan.{no_marks, Marked}
use Rattle.line_scan.specs.declared.kept.Alternatives.{Alternatives}
use Rattle.line_scan.proofs.Scanning.{early-bar, bar, one_more}
use Rattle.line_scan.proofs.kept.Alternatives.byte.Goals as goal

pub returns-then-self-by : goal.returns-then-self-by
returns-then-self-by c =
    record { scanned = (λ part dot h. early-bar _ part _ _ dot h c.if-b-eq124.true c.if-self-by.true); in_table = tt }

pub returns-then-b-eq124 : goal.returns-then-b-eq124
returns-then-b-eq124 c =
    let made = c.after.ensures.fields ∙ ap no_marks c.line_set.ensures in
    record {
      scanned = λ part dot h.
          subst (λ (r : Alternatives). Marked c.args.by.inputs (part ++ c.args.b ∷ []) r) (sym made)
          (bar _ part _ _ dot h c.args.by.few c.if-b-eq124.true c.if-self-by.false);
      in_table = c.after.ensures.indexed;
    }

pub returns-then-by-self : goal.returns-then-by-self
returns-then-by-self c =
    record { scanned = (λ part dot h. one_more _ part _ _ dot h c.if-b-eq124.false c.if-by-self.true); in_table = tt }
