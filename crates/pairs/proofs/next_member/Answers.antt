-- `pairs::next_member` meets its contract.
use Rattle.std.proofs.Common.{arith, get_or-take, ◌∙◌, rules}
use Rattle.pairs.proofs.BitSearch.{next_in_row}
use Rattle.pairs.proofs.next_member.Goals as goal

pub returns : goal.returns
returns c = next_in_row _ _ _ c.args.a c.args.w _ _ (search rules) (λ k h. get_or-take c.args.w c.rows.result.now k 0 h ∙ c.rows.ensures.1 k (omega arith)) c.next_in.ensures
