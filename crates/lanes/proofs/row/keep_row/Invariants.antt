-- The loop of `lanes::row::keep_row`.
use Rattle.std.proofs.Common.{◌≡◌, ◌&&◌, ℕ, ◌+◌, ◌*◌, ◌<◌, get_or}
use Rattle.std.specs.Bool.{beq}
use Rattle.words.specs.Bits.{bit}
use Rattle.lanes.specs.Around.{here}
use Rattle.lanes.proofs.RowLaws.{Writing}
use Rattle.lanes.proofs.row.keep_row.Given as goal

abbrev pub invariant-loop-j : goal.invariant-loop-j
invariant-loop-j g l = Writing g.row.W (λ k z. (i : ℕ) → i < 64 → bit i z ≡ (bit i (get_or l.initial.acc k 0) && beq (bit i (get_or l.x k 0)) (bit l.q (here l.reads.own l.reads.round (64 * k + i))))) l.initial.acc l.acc l.j
