-- `rounds::later_round` meets its contract.
use Rattle.std.proofs.Common.{[]}
use Rattle.rounds.proofs.RoundLaws.{rounded-later, cleared_sparse, sparse_kept}
use Rattle.rounds.proofs.GroupLaws.{sparse_brought, no_ends}
use Rattle.rounds.proofs.later_round.Goals as goal

pub bring_pairs-requires : goal.bring_pairs-requires
bring_pairs-requires c = sparse_kept _ _ _ _ c.args.equations.now.size.sized.most_valuations c.clear_rows-2.ensures (c.group_rows.ensures.sparse (cleared_sparse _ _ _ _ c.args.equations.now.size.sized.most_valuations c.clear_rows.ensures))

pub clear_groups-requires : goal.clear_groups-requires
clear_groups-requires c = (
  sparse_brought _ _ _ _ _ c.args.equations.now.size.sized.most_valuations (c.bring_pairs.ensures []) (sparse_kept _ _ _ _ c.args.equations.now.size.sized.most_valuations c.clear_rows-2.ensures (c.group_rows.ensures.sparse (cleared_sparse _ _ _ _ c.args.equations.now.size.sized.most_valuations c.clear_rows.ensures))),
  no_ends _ _ _ _ _ _ _ _ _ _ _ c.clear_rows.ensures c.group_rows.ensures.joined c.clear_rows-2.ensures (c.bring_pairs.ensures []),
)

pub returns : goal.returns
returns c = λ ks.
    rounded-later _ _ (c.earlier_mask-mask.ensures ks) _ _ _ c.args.equations.now.size.sized.most_valuations c.args.equations.now.size.sized.wide.under _ _ _ _ _ _
    c.clear_rows.ensures c.group_rows.ensures.joined c.clear_rows-2.ensures (c.bring_pairs.ensures ks) c.clear_groups.ensures
