-- The outcome of rules 1 to 10, from that of rules 1 to 9.
use mathlib.Core.Path.{◌≡◌, refl, ap, subst}
use mathlib.Core.List.{List, [], ◌∷◌}
use Prim.Native.Nat.{ℕ}
use Rattle.outcomes.specs.Decided.{Check, check, Decided}
use Rattle.outcomes.specs.declared.Refusal.{Refusal}
use Rattle.outcomes.specs.declared.Refusal.TheVariants as refusal
use Rattle.outcomes.specs.Outcome.{Outcome, unbroken}
use Rattle.std.specs.Prelude.{Err}
use Rattle.outcomes.proofs.Decisions.{breaks, passes, passed, passed-both, decided-refused, decided-accepted}
use Rattle.sheet.specs.ReadingChecks.{reading_checks}
use Rattle.sheet.specs.Decided.{reading_outcome}
use Rattle.sheet.specs.RuleSheet.{RuleSheet, accepted, refused, read_sheet}
use Rattle.sheet.proofs.First.{reading_decided}
use Rattle.circular.specs.Circular.{CircularSheet}
use Rattle.circular.specs.SheetChecks.{OfSheet, sheet_checks}

module _ (bs : List ℕ) where
  read-decided : (o : Outcome) → reading_outcome (read_sheet bs) ≡ o → Decided (reading_checks bs) o
  read-decided o e = subst (Decided (reading_checks bs)) e (reading_decided bs)

  abbrev ten : Check
  ten = check refusal.Circular (OfSheet bs CircularSheet)

  -- a sheet that can't be read
  pub unread : (r : Refusal) → read_sheet bs ≡ refused r → Decided (sheet_checks bs) (Err r)
  unread r e = decided-refused (reading_checks bs) (ten ∷ []) r (read-decided (Err r) (ap reading_outcome e))

  module _ (x : RuleSheet) (e : read_sheet bs ≡ accepted x) where
    -- one that is circular
    pub round : CircularSheet x → Decided (sheet_checks bs) (Err refusal.Circular)
    round c =
        decided-accepted (reading_checks bs) (ten ∷ []) (Err refusal.Circular) (read-decided unbroken (ap reading_outcome e)) (breaks ten [] (x, e, c))

    -- one that isn't
    pub level : (CircularSheet x → ⊥) → Decided (sheet_checks bs) unbroken
    level n =
        decided-accepted (reading_checks bs) (ten ∷ []) unbroken (read-decided unbroken (ap reading_outcome e))
        (passes ten [] unbroken (λ b. n (let same : b.0 ≡ x = cc b.1 in subst CircularSheet same b.2)) refl)

    -- one that is accepted isn't
    pub accepted-level : Decided (sheet_checks bs) unbroken → CircularSheet x → ⊥
    accepted-level d c = (passed ten [] (passed-both (reading_checks bs) (ten ∷ []) d).1).0 (x, e, c)
