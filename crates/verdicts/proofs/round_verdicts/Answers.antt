-- `verdicts::round_verdicts` meets its contract.
use Rattle.verdicts.proofs.VerdictLaws.{verdicts_as, firsts_verdict}
use Rattle.verdicts.proofs.round_verdicts.Goals as goal

pub returns : goal.returns
returns c = λ h.
    let sized = c.args.size.sized in
    verdicts_as _ _ _ _ (λ k l. firsts_verdict _ _ _ _ _ _ _ sized.power sized.wide.under h c.firsts.ensures) c.verdicts.ensures
