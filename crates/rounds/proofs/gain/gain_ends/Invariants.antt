-- The loop of `rounds::gain::gain_ends`.
use Rattle.std.proofs.Common.{◌≡◌, ◌&&◌, ltb, get_or, ℕ, ◌+◌, ◌*◌, ◌<◌}
use Rattle.std.proofs.Math.Option.{Option, none}
use Rattle.words.specs.Bits.{bit}
use Rattle.sheet.specs.RuleSheet.{RuleSheet}
use Rattle.lola.specs.Equations.{holds}
use Rattle.pairs.specs.Storage.{live, scratch, reached_at}
use Rattle.pairs.specs.Changes.{Adds, eq_next}
use Rattle.rounds.specs.Rows.{gains, in_row}
use Rattle.rounds.proofs.gain.gain_ends.Given as goal

abbrev pub invariant-loop-j : goal.invariant-loop-j
invariant-loop-j l =
    (y : RuleSheet) (p : Option ℕ) → ((k i : ℕ) → k < l.w → i < 64 → bit i (get_or l.x k 0) ≡ holds y p (64 * k + i) none)
    → Adds reached_at l.initial.s l.s (gains y (λ b. ltb b (64 * l.j) && in_row (scratch l.initial.s) l.equations.size.valuations l.g b) (λ c. eq_next c none) (live l.initial.s) p)
