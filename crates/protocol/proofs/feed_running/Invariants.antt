-- The loop of `protocol::feed_running`.
use Rattle.std.proofs.Common.{◌+◌, ◌*◌, ◌≤◌, take}
use Rattle.claims.specs.Session.{held}
use Rattle.line_scan.specs.Scan.{InTable}
use Rattle.line_end.specs.LineEnd.{most_bytes}
use Rattle.protocol.proofs.Feeding.{Way}
use Rattle.protocol.proofs.feed_running.Given as goal

abbrev pub invariant-loop-b : goal.invariant-loop-b
invariant-loop-b l = record {
  room : l.at + most_bytes l.place.record.closed ≤ 462 + 8 * l.b-index;
  way : Way l.x.sheet l.initial.place.line l.initial.pending (held l.initial.storage l.initial.place.record)
      l.place.line l.pending (held l.storage l.place.record) (take l.b-index l.chunk) (take l.at l.out);
  in_table : InTable l.pending;
}
