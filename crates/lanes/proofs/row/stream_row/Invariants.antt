-- The loop of `lanes::row::stream_row`.
use Rattle.std.proofs.Common.{◌≡◌, ℕ, ◌+◌, ◌*◌, ◌<◌}
use Rattle.words.specs.Bits.{bit}
use Rattle.lanes.proofs.RowLaws.{Writing}
use Rattle.lanes.proofs.row.stream_row.Given as goal

abbrev pub invariant-loop-j : goal.invariant-loop-j
invariant-loop-j g l = Writing g.row.W (λ k z. (i : ℕ) → i < 64 → bit i z ≡ bit l.q (64 * k + i)) l.initial.row l.row l.j
