-- The loop of `verdicts::shown`.
use Rattle.std.proofs.Common.{◌≡◌, false}
use Rattle.words.specs.Below.{any_below}
use Rattle.pairs.specs.Changes.{row_bit}
use Rattle.verdicts.proofs.VerdictLaws.{shownIn}
use Rattle.verdicts.proofs.shown.Given as goal

abbrev pub invariant-loop-j : goal.invariant-loop-j
invariant-loop-j l = any_below l.j (shownIn l.f (row_bit l.test 0) l.v) ≡ false
