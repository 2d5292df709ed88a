-- What an entry's refusal means: its checks stand in a fixed order, and it is refused by the first one that is broken
-- (01, "What is turned down").
-- Manual: "Refusals".
use Rattle.std.specs.Prelude.{◌≡◌, Bool, true, ◌⊎◌, List, [], ◌∷◌, Err}
use Rattle.outcomes.specs.declared.Refusal.{Refusal}
use Rattle.outcomes.specs.Outcome.{Outcome, unbroken}

-- a rule, and what breaks it
pub record Check : Type 1 where
  pub rule : Refusal
  pub Broken : Type 0

abbrev pub check : Refusal → Type 0 → Check
check r B = record { rule = r; Broken = B }

-- a rule that is broken if the test passes
abbrev pub test : Refusal → Bool → Check
test r t = check r (t ≡ true)

-- The first check that is broken refuses with its rule; where none is broken, the outcome is accepted.
abbrev pub Decided : List Check → Outcome → Type 0
Decided [] o = o ≡ unbroken
Decided (c ∷ cs) o = (c.Broken × (o ≡ Err c.rule)) ⊎ ((c.Broken → ⊥) × Decided cs o)
