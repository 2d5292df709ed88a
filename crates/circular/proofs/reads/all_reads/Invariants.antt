-- The loop of `circular::reads::all_reads`.
use Rattle.std.proofs.Common.{◌≡◌, ℕ, ◌≤◌, ◌<◌, length, get_or}
use Rattle.sheet.specs.Parts.{code_at}
use Rattle.lola.specs.ByteReads.{ReadsOf}
use Rattle.circular.proofs.reads.all_reads.Given as goal

abbrev pub invariant-loop-s : goal.invariant-loop-s
invariant-loop-s l =
    (length l.words ≡ 7)
    × ((j : ℕ) → j < l.s → ReadsOf (code_at l.code l.len j) (get_or l.words j 0))
    × ((j : ℕ) → l.s ≤ j → get_or l.words j 0 ≡ 0)
