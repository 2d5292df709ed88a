-- `pairs::next_bit` meets its contract.
use Rattle.std.proofs.Common.{get_or-take, rules}
use Rattle.pairs.proofs.BitSearch.{next-same}
use Rattle.pairs.proofs.next_bit.Goals as goal

pub returns : goal.returns
returns c = next-same _ _ c.args.w c.args.from _ (search rules) (λ k h. get_or-take c.args.w c.args.row.now k 0 h) c.next_in.ensures
