-- The loop of `circular::reads::masks_of`.
use Rattle.std.proofs.Common.{◌≡◌, ℕ, ◌+◌, ◌<◌, length, get_or}
use Rattle.circular.specs.Masks.{Mask}
use Rattle.circular.proofs.reads.masks_of.Given as goal

abbrev pub invariant-loop-q : goal.invariant-loop-q
invariant-loop-q l = (length l.masks ≡ 7) × ((j : ℕ) → j < l.q → Mask l.word (l.m + j) (get_or l.masks j 0))
