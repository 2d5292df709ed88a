-- The loop of `lanes::row::not_row`.
use Rattle.std.proofs.Common.{◌≡◌, not, ℕ, ◌<◌, get_or}
use Rattle.words.specs.Bits.{bit}
use Rattle.lanes.proofs.RowLaws.{Writing}
use Rattle.lanes.proofs.row.not_row.Given as goal

abbrev pub invariant-loop-word : goal.invariant-loop-word
invariant-loop-word g l = Writing g.row.W (λ k z. (i : ℕ) → i < 64 → bit i z ≡ not (bit i (get_or l.initial.row k 0))) l.initial.row l.row l.word-index
