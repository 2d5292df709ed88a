-- The loop of `text::tally_lines`.
use Rattle.std.proofs.Common.{◌≤◌, ◌+◌, ◌*◌}
use Rattle.buffer.specs.Wrote.{Placed}
use Rattle.record.specs.Record.{count_at}
use Rattle.text.specs.Text.{tally_lines}
use Rattle.text.proofs.tally_lines.Given as goal

abbrev pub invariant-loop-k : goal.invariant-loop-k
invariant-loop-k l = (l.to ≤ l.at + 59 * l.k) × Placed l.initial.out l.at (tally_lines (count_at l.counts) l.shares 0 l.k) l.out l.to
