-- The loop of `journal::run`.
use Rattle.std.proofs.Common.{◌≡◌, List, [], ℕ, length}
use Rattle.dialogue.specs.History.{Event}
use Rattle.dialogue.specs.Talks.{Talks, Wants, Within}
use Rattle.journal.proofs.run.Given as goal

abbrev pub invariant-loop-calls : goal.invariant-loop-calls
invariant-loop-calls l = record {
  room : length l.buf ≡ 8000;
  within : Within l.d l.out;
  wants : Wants l.d;
  talks : (sheet : List ℕ) → Talks sheet l.initial.d l.initial.storage l.initial.out [] → (h : List Event) × (length h ≡ l.calls) × Talks sheet l.d l.storage l.out h;
}
