-- `checks::check_journal` meets its contract.
use mathlib.Core.Path.{refl, sym, ◌∙◌}
use mathlib.Core.Bool.{true≢false, false≢true}
use mathlib.Core.Logic.{inl, inr}
use native.Mathlib.Omega.{arith}
use Rattle.checks.proofs.check_journal.Goals as goal

pub returns-then-lent-lt-STORAGE_WORDS : goal.returns-then-lent-lt-STORAGE_WORDS
returns-then-lent-lt-STORAGE_WORDS c = inl (c.if-lent-lt-STORAGE_WORDS.true, refl)

pub returns-then-not-record_ok : goal.returns-then-not-record_ok
returns-then-not-record_ok c = inr ((λ b. omega arith), inl (sym c.record_ok.ensures ∙ c.if-not-record_ok.true, refl))

pub returns-then-r : goal.returns-then-r
returns-then-r c =
    let right = sym c.record_ok.ensures ∙ c.if-not-record_ok.false in
    inr ((λ b. omega arith), inr ((λ b. true≢false (sym right ∙ b)), inl (c.if-r.true, refl)))

pub returns : goal.returns
returns c =
    let right = sym c.record_ok.ensures ∙ c.if-not-record_ok.false in
    inr ((λ b. omega arith), inr ((λ b. true≢false (sym right ∙ b)), inr ((λ b. false≢true (sym c.if-r.false ∙ b)), refl)))
