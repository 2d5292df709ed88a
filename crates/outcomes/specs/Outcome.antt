-- What a check says (01, "What is turned down"): nothing is broken, or the first rule that is; and that of an answer which holds more.
-- Manual: "Refusals".
use Rattle.std.specs.Prelude.{Result, Ok, Err}
use Rattle.outcomes.specs.declared.Refusal.{Refusal}

abbrev pub Outcome : Type 0
Outcome = Result (Unit {0}) Refusal

-- nothing is broken
abbrev pub unbroken : Outcome
unbroken = Ok tt

-- whether an answer is a refusal, and which
abbrev pub as_outcome : {A : Type 0} → Result A Refusal → Outcome
as_outcome (Ok x) = unbroken
as_outcome (Err r) = Err r
