-- The second demand: an accepted sheet has one trace for all letters, and evaluation writes it.
use mathlib.Core.Path.{◌≡◌, refl, ap, subst}
use mathlib.Core.Logic.{inr}
use mathlib.Core.List.{List, [], ◌∷◌}
use Prim.Native.Nat.{ℕ, ◌^◌, ◌<◌}
use native.Mathlib.Omega.{arith}
use native.Mathlib.Decide.{dec_lt}
use lib.ListN.{length, take}
use lib.Seq.{length-take-le}
use Rattle.outcomes.specs.Decided.{Decided}
use Rattle.std.specs.Prelude.{Err}
use Rattle.outcomes.specs.Outcome.{unbroken}
use Rattle.outcomes.proofs.Decisions.{Passed, all-passed, passed-both, decided_once}
use Rattle.outcomes.proofs.NumberLaws.{not-both}
use Rattle.sheet.specs.ReadingChecks.{inputs_of, reading_checks}
use Rattle.sheet.specs.RuleSheet.{RuleSheet, Reading, refused, accepted, read_sheet}
use Rattle.sheet.specs.Decided.{reading_outcome}
use Rattle.sheet.proofs.First.{reading_decided}
use Rattle.sheet.proofs.Formed.{counts_of}
use Rattle.lola.specs.Equations.{Letters, joined}
use Rattle.circular.specs.SheetChecks.{sheet_checks}
use Rattle.circular.specs.Unique.{TraceOf}
use Rattle.circular.proofs.Lists.{joined-letters}
use Rattle.circular.proofs.OneTrace.{accepted-one-trace}
use Rattle.trace.specs.EvaluationChecks.{letter_checks, run_checks}
use Rattle.claims.specs.Demands.{UniqueTraces, SecondDemand}

-- a sheet that rules 1 to 10 accept is read: where reading refuses it, one of them is broken
pub sheet-read : (bs : List ℕ) → Decided (sheet_checks bs) unbroken → (x : RuleSheet) × (read_sheet bs ≡ accepted x)
sheet-read bs d = go (read_sheet bs) refl
  where
    go : (r : Reading) → read_sheet bs ≡ r → (x : RuleSheet) × (read_sheet bs ≡ accepted x)
    go (accepted x) e = (x, e)
    go (refused q) e =
        let f : Decided (reading_checks bs) (Err q) = subst (Decided (reading_checks bs)) (ap reading_outcome e) (reading_decided bs) in
        absurd (not-both (decided_once (reading_checks bs) (Err q) unbroken f (passed-both (reading_checks bs) _ d).0))

pub unique_traces : UniqueTraces
unique_traces bs d =
    let z = sheet-read bs d in
    (z.0, z.1, accepted-one-trace bs z.0 d z.1)

letters_in : (m : ℕ) (ls : List ℕ) → Passed (letter_checks m ls) → Letters m ls
unfolding letter_checks
letters_in m [] p = tt
letters_in m (l ∷ ls) p = (below (dec_lt l (2 ^ m)), letters_in m ls p.1)
  where
    below : Dec (l < 2 ^ m) → l < 2 ^ m
    below (yes h) = h
    below (no h) = absurd (p.0 (omega arith))

pub second_demand : SecondDemand
second_demand bs ls old new z =
    let x : RuleSheet = z.result.0 in
    let e = z.result.1 in
    let w = z.result.2 in
    let both = passed-both (sheet_checks bs) (run_checks (inputs_of bs) ls (length old)) z.decided in
    let ran = all-passed (run_checks (inputs_of bs) ls (length old)) both.1 in
    let letters : Letters x.inputs ls = rw (counts_of bs x e).0 (letters_in (inputs_of bs) ls ran.1) in
    let fits : length old < length ls → ⊥ = λ h. ran.0 (inr (inr h)) in
    let long : length (take (length ls) new) ≡ length ls = length-take-le (length ls) new (omega (arith, w.same_length, fits)) in
    let one = accepted-one-trace bs x both.0 e ls letters in
    let t : TraceOf x ls (joined x.inputs ls (take (length ls) new)) = record { letters = joined-letters x ls (take (length ls) new) letters (omega (arith, long)); satisfies = w.satisfies } in
    (x, e, (t, λ vs h. one.only vs (joined x.inputs ls (take (length ls) new)) h t))
