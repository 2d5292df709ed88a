-- What an accepted preparation, round, closing and question may take for granted: no rule of theirs is broken.
use mathlib.Core.Path.{◌≡◌, refl}
use mathlib.Core.Bool.{Bool, true, false}
use mathlib.Core.List.{[], ◌∷◌}
use Prim.Native.Nat.{ℕ, ◌<◌, ◌≤◌}
use native.Mathlib.Omega.{arith}
use Rattle.outcomes.specs.Decided.{Decided}
use Rattle.outcomes.specs.Outcome.{unbroken}
use Rattle.outcomes.proofs.Decisions.{all-passed}
use Rattle.record.specs.Record.{max_rounds, record_ok}
use Rattle.record.specs.declared.JournalRecord.{JournalRecord}
use Rattle.pairs.specs.Storage.{storage_words}
use Rattle.checks.specs.JournalChecks.{too_short, round_rules, closing_rules, together_rules}

is_true : (t : Bool) → (t ≡ false → ⊥) → t ≡ true
is_true true n = refl
is_true false n = absurd (n refl)

is_false : (t : Bool) → (t ≡ true → ⊥) → t ≡ false
is_false true n = absurd (n refl)
is_false false n = refl

pub enough : (lent : ℕ) → Decided (too_short lent ∷ []) unbroken → storage_words ≤ lent
enough lent d = omega (arith, (all-passed (too_short lent ∷ []) d).0)

-- what an accepted round may take for granted
pub record RoundReady (n lent : ℕ) (r : JournalRecord) : Type 0 where
  pub long : storage_words ≤ lent
  pub right : record_ok n r ≡ true
  pub rounds-left : r.rounds < max_rounds

pub round_ready : (m n lent : ℕ) (r : JournalRecord) (letters : ℕ) → Decided (round_rules m n lent r letters) unbroken → RoundReady n lent r
round_ready m n lent r letters d =
    let p = all-passed (round_rules m n lent r letters) d in
    record {
      long = omega (arith, p.0);
      right = is_true (record_ok n r) p.1.0;
      rounds-left = omega (arith, p.1.1.1.1.0);
    }

-- and an accepted closing
pub record ClosingReady (n lent : ℕ) (r : JournalRecord) : Type 0 where
  pub long : storage_words ≤ lent
  pub right : record_ok n r ≡ true
  pub shut : r.closed ≡ false
  pub some : 1 ≤ r.rounds

pub closing_ready : (n lent : ℕ) (r : JournalRecord) → Decided (closing_rules n lent r) unbroken → ClosingReady n lent r
closing_ready n lent r d =
    let p = all-passed (closing_rules n lent r) d in
    record { long = omega (arith, p.0); right = is_true (record_ok n r) p.1.0; shut = is_false r.closed p.1.1.0; some = omega (arith, p.1.1.1.0) }

-- and a question about a set of outputs
pub together-long : (n lent : ℕ) (r : JournalRecord) (set : ℕ) → Decided (together_rules n lent r set) unbroken → storage_words ≤ lent
together-long n lent r set d = omega (arith, (all-passed (together_rules n lent r set) d).0)
