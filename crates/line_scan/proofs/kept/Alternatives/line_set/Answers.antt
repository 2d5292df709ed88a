-- The index lies in the table.
use Rattle.std.proofs.Common.{arith}
use Rattle.line_scan.proofs.Indexing.{in_table}
use Rattle.line_scan.proofs.kept.Alternatives.line_set.Goals as goal

pub entry-requires : goal.entry-requires
entry-requires c = omega (arith, in_table c.args.self c.requires)
