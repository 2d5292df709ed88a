-- `verdicts::set_verdict` meets its contract.
use Rattle.std.proofs.Common.{◌∙◌}
use Rattle.verdicts.proofs.VerdictLaws.{every_verdict}
use Rattle.verdicts.proofs.set_verdict.Goals as goal

pub returns : goal.returns
returns c =
    let sized = c.args.size.sized in
    c.verdict.ensures _ c.set_test.ensures ∙ every_verdict _ _ _ _ _ _ sized.power sized.wide.under c.every_first.ensures
