-- `checks::check_heard` meets its contract.
use mathlib.Core.Path.{refl, sym, ◌∙◌}
use mathlib.Core.Bool.{false≢true}
use mathlib.Core.Logic.{inl, inr}
use native.Mathlib.Omega.{arith}
use Rattle.checks.proofs.check_heard.Goals as goal

pub returns-then-bad_set : goal.returns-then-bad_set
returns-then-bad_set c = inl (sym c.bad_set.ensures ∙ c.if-bad_set.true, refl)

pub returns-then-r-ge-MAX_ROUNDS : goal.returns-then-r-ge-MAX_ROUNDS
returns-then-r-ge-MAX_ROUNDS c = inr ((λ b. false≢true (sym (sym c.bad_set.ensures ∙ c.if-bad_set.false) ∙ b)), inl (c.if-r-ge-MAX_ROUNDS.true, refl))

pub returns : goal.returns
returns c = inr ((λ b. false≢true (sym (sym c.bad_set.ensures ∙ c.if-bad_set.false) ∙ b)), inr ((λ b. omega arith), refl))
