-- The loop of `rounds::gain::gain_row`.
use Rattle.std.proofs.Common.{◌≡◌, ◌&&◌, eqb, ltb, get_or, ℕ, ◌+◌, ◌*◌, ◌<◌}
use Rattle.std.proofs.Math.Option.{Option, some}
use Rattle.words.specs.Bits.{bit}
use Rattle.sheet.specs.RuleSheet.{RuleSheet}
use Rattle.lola.specs.Equations.{holds}
use Rattle.pairs.specs.Storage.{live, reached_at}
use Rattle.pairs.specs.Changes.{Adds}
use Rattle.rounds.specs.Rows.{cut, gains}
use Rattle.rounds.proofs.gain.gain_row.Given as goal

abbrev pub invariant-loop-j : goal.invariant-loop-j
invariant-loop-j l =
    (y : RuleSheet) (p : Option ℕ) → ((k i : ℕ) → k < l.w → i < 64 → bit i (get_or l.x k 0) ≡ holds y p l.b (some (64 * k + i)))
    → Adds reached_at l.initial.s l.s (gains y (λ a. eqb a l.b) (cut (λ c. ltb c (64 * l.j) && ltb c l.equations.size.valuations)) (live l.initial.s) p)
