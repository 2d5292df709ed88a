-- The loop of `journal::read_file`.
use Rattle.std.proofs.Common.{◌≤◌, length, take}
use Rattle.journal.proofs.Filling.{Given}
use Rattle.journal.proofs.read_file.Given as goal

abbrev pub invariant-loop-calls : goal.invariant-loop-calls
invariant-loop-calls l = record {
  room : l.n ≤ length l.bytes;
  given : Given (take l.n l.bytes) l.calls;
}
