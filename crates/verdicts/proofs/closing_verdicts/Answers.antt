-- `verdicts::closing_verdicts` meets its contract.
use Rattle.verdicts.proofs.VerdictLaws.{verdicts_as, ends-verdict}
use Rattle.verdicts.proofs.closing_verdicts.Goals as goal

pub returns : goal.returns
returns c =
    let sized = c.args.size.sized in
    verdicts_as _ _ _ _ (λ k l. ends-verdict _ _ _ _ _ _ sized.power sized.wide.under c.ends.ensures) c.verdicts.ensures
