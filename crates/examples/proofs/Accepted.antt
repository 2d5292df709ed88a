-- Tests of a sheet from its bytes, and what they show: that it is read, and that rules 1 to 10 accept it or refuse it as circular.
use mathlib.Core.Bool.{Bool, true, false, not, ◌&&◌}
use mathlib.Core.Path.{◌≡◌, refl}
use mathlib.Core.List.{List, [], ◌∷◌}
use Prim.Native.Nat.{ℕ}
use lib.Dec.{T}
use Rattle.outcomes.specs.declared.Refusal.TheVariants.{Circular}
use Rattle.outcomes.specs.Outcome.{Outcome}
use Rattle.std.specs.Prelude.{Err}
use Rattle.outcomes.proofs.Decisions.{decided_once}
use Rattle.words.proofs.Tests.{and_left, and_right, not-both, true_of, of_true}
use Rattle.sheet.specs.RuleSheet.{RuleSheet, outputs, Reading, refused, accepted, read_sheet}
use Rattle.circular.specs.Circular.{edges, CircularSheet}
use Rattle.circular.specs.SheetChecks.{sheet_checks}
use Rattle.circular.proofs.Decide.{circular?, circular?_true, circular?_of}
use Rattle.circular.proofs.Decided.{level, round}
use Rattle.examples.specs.Table.{SheetOutcome, AcceptedAs}

-- ---- several tests

unfoldable pub all_of : List Bool → Bool
all_of [] = true
all_of (b ∷ bs) = b && all_of bs

abbrev pub Passed : List Bool → Type 0
Passed [] = Unit {0}
Passed (b ∷ bs) = T b × Passed bs

passed : (bs : List Bool) → T (all_of bs) → Passed bs
unfolding all_of
passed [] t = tt
passed (b ∷ bs) t = (and_left b (all_of bs) t, passed bs (and_right b (all_of bs) t))

-- ---- reading

-- tests of the sheet that bytes read as
abbrev pub of_reading : Reading → (RuleSheet → List Bool) → Bool
of_reading (refused r) f = false
of_reading (accepted x) f = all_of (f x)

pub read-passed : (bs : List ℕ) (f : RuleSheet → List Bool) → T (of_reading (read_sheet bs) f) → (x : RuleSheet) × (read_sheet bs ≡ accepted x) × Passed (f x)
read-passed bs f t = go (read_sheet bs) refl t
  where
    go : (r : Reading) → read_sheet bs ≡ r → T (of_reading r f) → (x : RuleSheet) × (read_sheet bs ≡ accepted x) × Passed (f x)
    go (refused r) e t = absurd t
    go (accepted x) e t = (x, e, passed (f x) t)

-- ---- rule 10

abbrev pub circular_test : RuleSheet → Bool
circular_test x = circular? (outputs x) (edges x)

abbrev pub level_test : RuleSheet → Bool
level_test x = not (circular_test x)

module _ (bs : List ℕ) (x : RuleSheet) (e : read_sheet bs ≡ accepted x) where
  pub accepted-as : T (level_test x) → AcceptedAs bs x
  accepted-as t =
      let n : CircularSheet x → ⊥ = λ c. not-both (circular_test x) (of_true (circular_test x) (circular?_of (outputs x) (edges x) c)) t in
      record { decided = level bs x e n; read = e }

  pub refused-circular : T (circular_test x) → SheetOutcome bs (Err Circular)
  refused-circular t = round bs x e (circular?_true (outputs x) (edges x) (true_of (circular_test x) t))

-- ---- one outcome

pub one-outcome : (bs : List ℕ) (o p : Outcome) → SheetOutcome bs o → SheetOutcome bs p → o ≡ p
one-outcome bs = decided_once (sheet_checks bs)
