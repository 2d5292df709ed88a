-- The checks of evaluation in their order.
use mathlib.Core.Path.{◌≡◌, refl, subst}
use mathlib.Core.Logic.{◌⊎◌, inl, inr}
use mathlib.Core.Bool.{Bool, true, false}
use Rattle.words.proofs.Bools.{contrary}
use mathlib.Core.List.{List, [], ◌∷◌}
use Prim.Native.Nat.{ℕ, zero, suc, ◌^◌, ◌≤◌, ◌<◌}
use native.Mathlib.Omega.{arith}
use native.Mathlib.Decide.{dec_lt}
use lib.ListN.{length, get_or}
use Rattle.outcomes.specs.Decided.{Decided}
use Rattle.outcomes.specs.declared.Refusal.{Refusal}
use Rattle.outcomes.specs.declared.Refusal.TheVariants.{Letter}
use Rattle.outcomes.specs.Outcome.{Outcome, unbroken}
use Rattle.std.specs.Prelude.{Err}
use Rattle.outcomes.proofs.Decisions.{decided-refused, decided-accepted}
use Rattle.sheet.specs.ReadingChecks.{inputs_of}
use Rattle.circular.specs.SheetChecks.{sheet_checks}
use Rattle.trace.specs.EvaluationChecks.{letter_checks, run_checks, evaluation_checks}

-- ---- rules 16 and 11

letters_good : (m : ℕ) (ls : List ℕ) → ((k : ℕ) → k < length ls → get_or ls k 0 < 2 ^ m) → Decided (letter_checks m ls) unbroken
unfolding letter_checks
letters_good m [] h = refl
letters_good m (l ∷ ls) h = inr ((λ b. omega (arith, h 0 (omega arith))), letters_good m ls (λ k g. h (suc k) (omega arith)))

letters_bad : (m : ℕ) (ls : List ℕ) (i : ℕ) → i < length ls → 2 ^ m ≤ get_or ls i 0 → Decided (letter_checks m ls) (Err Letter)
unfolding letter_checks
letters_bad m [] i h b = absurd (omega arith)
letters_bad m (l ∷ ls) zero h b = inl (b, refl)
letters_bad m (l ∷ ls) (suc i) h b = go (dec_lt l (2 ^ m)) (letters_bad m ls i (omega arith) b)
  where
    go : Dec (l < 2 ^ m) → Decided (letter_checks m ls) (Err Letter) → Decided (letter_checks m (l ∷ ls)) (Err Letter)
    go (no p) d = inl (omega arith, refl)
    go (yes p) d = inr ((λ g. omega arith), d)

-- no letter was found bad
pub none-bad : (m : ℕ) (ls : List ℕ) (bad : Bool) → ((i : ℕ) × (i < length ls) × (2 ^ m ≤ get_or ls i 0) → bad ≡ true) → bad ≡ false → (i : ℕ) → i < length ls → get_or ls i 0 < 2 ^ m
none-bad m ls bad f e i h = go (dec_lt (get_or ls i 0) (2 ^ m))
  where
    go : Dec (get_or ls i 0 < 2 ^ m) → get_or ls i 0 < 2 ^ m
    go (yes l) = l
    go (no l) = absurd (contrary (f (i, h, omega arith)) e)

module _ (m : ℕ) (letters : List ℕ) (room : ℕ) where
  module _ (some : 1 ≤ length letters) (few : length letters ≤ 4096) (fits : length letters ≤ room) where
    extent-holds : (length letters ≡ 0) ⊎ ((4096 < length letters) ⊎ (room < length letters)) → ⊥
    extent-holds (inl a) = omega arith
    extent-holds (inr (inl a)) = omega arith
    extent-holds (inr (inr a)) = omega arith

    pub letter-broken : (i : ℕ) × (i < length letters) × (2 ^ m ≤ get_or letters i 0) → Decided (run_checks m letters room) (Err Letter)
    letter-broken b = inr (extent-holds, letters_bad m letters b.0 b.1 b.2)

    pub run-accepted : ((i : ℕ) → i < length letters → get_or letters i 0 < 2 ^ m) → Decided (run_checks m letters room) unbroken
    run-accepted h = inr (extent-holds, letters_good m letters h)

-- ---- all rules

module _ (bs letters : List ℕ) (room : ℕ) where
  pub sheet-refused : (r : Refusal) → Decided (sheet_checks bs) (Err r) → Decided (evaluation_checks bs letters room) (Err r)
  sheet-refused r h = decided-refused (sheet_checks bs) (run_checks (inputs_of bs) letters room) r h

  pub run-decided : (m : ℕ) → m ≡ inputs_of bs → (o : Outcome) → Decided (sheet_checks bs) unbroken → Decided (run_checks m letters room) o → Decided (evaluation_checks bs letters room) o
  run-decided m e o h g =
      decided-accepted (sheet_checks bs) (run_checks (inputs_of bs) letters room) o h (subst (λ (i : ℕ). Decided (run_checks i letters room) o) e g)
