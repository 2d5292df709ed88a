-- The loop of `pairs::ones`.
use Rattle.std.proofs.Common.{◌≡◌, ◌*◌, ◌≤◌}
use Rattle.words.specs.Below.{count_below}
use Rattle.pairs.specs.Changes.{row_bit}
use Rattle.pairs.proofs.ones.Given as goal

abbrev pub invariant-loop-word : goal.invariant-loop-word
invariant-loop-word l = (l.n ≤ 64 * l.word-index) × (l.n ≡ count_below (64 * l.word-index) (row_bit l.words 0))
