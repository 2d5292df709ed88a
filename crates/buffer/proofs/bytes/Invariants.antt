-- The loop of `buffer::bytes`.
use Rattle.std.proofs.Common.{◌≡◌, ◌+◌, take}
use Rattle.buffer.specs.Wrote.{Placed}
use Rattle.buffer.proofs.bytes.Given as goal

abbrev pub invariant-loop-b : goal.invariant-loop-b
invariant-loop-b l = (l.to ≡ l.at + l.b-index) × Placed l.initial.out l.at (take l.b-index l.s) l.out l.to
