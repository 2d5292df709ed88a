-- `rounds::first_round` meets its contract.
use Rattle.rounds.proofs.RoundLaws.{rounded-first}
use Rattle.rounds.proofs.first_round.Goals as goal

pub returns : goal.returns
returns c = λ ks.
    rounded-first _ _ _ _ c.args.equations.now.size.sized.some_valuation c.args.equations.now.size.sized.wide.under _ _ _ _ _ _ c.clear_rows.ensures c.hear.ensures c.clear_rows-2.ensures
    (c.bring_first.ensures ks) c.clear_rows-3.ensures
