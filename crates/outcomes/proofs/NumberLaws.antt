-- Laws of verdicts and outcomes.
use mathlib.Core.Path.{◌≡◌, refl}
use mathlib.Core.Bool.{true≢false}
use mathlib.Core.List.{List, [], ◌∷◌, ◌++◌}
use mathlib.Core.Option.{some}
use Prim.Native.Nat.{ℕ, zero, suc, ◌+◌, ◌^◌, ◌<◌, ◌≤◌}
use native.Mathlib.Omega.{arith}
use native.Mathlib.Numerals.{add-one}
use lib.ListN.{length, get_elem?}
use lib.Seq.{length-take-le, take-suc}
use Rattle.outcomes.specs.Numbers.{refusal_no, untold, told_at, verdict_list}
use Rattle.outcomes.specs.declared.Refusal.{Refusal}
use Rattle.outcomes.specs.declared.Refusal.TheVariants.{Short, Mark, Version, Counts, Assumption, Length, Byte, Values, Leftover, Circular, Letter, Closed, Full, NoRound, Storage, Extent, Line, Record, RoundSet, OutputSet}
use Rattle.std.specs.Prelude.{Err}
use Rattle.outcomes.specs.Outcome.{unbroken}
use Rattle.outcomes.specs.declared.Verdict.{Verdict}

-- ---- the verdicts that an answer holds, as a list

pub told-size : (vs : List Verdict) (n : ℕ) → n ≤ length vs → length (verdict_list vs n) ≡ n
told-size vs n h = length-take-le n vs h

pub told_at_lem : (vs : List Verdict) (n i : ℕ) → n ≤ length vs → i < n → get_elem? (verdict_list vs n) i ≡ some (told_at vs i)
told_at_lem vs zero i h l = absurd (omega arith)
told_at_lem [] (suc n) i h l = absurd (omega arith)
told_at_lem (t ∷ vs) (suc n) zero h l = refl
told_at_lem (t ∷ vs) (suc n) (suc i) h l = told_at_lem vs n i (omega arith) (omega arith)

pub told_below : (vs : List Verdict) (n i : ℕ) (v : Verdict) → get_elem? (verdict_list vs n) i ≡ some v → i < n
told_below vs zero i v e = absurd (true≢false cc)
told_below [] (suc n) i v e = absurd (true≢false cc)
told_below (t ∷ vs) (suc n) zero v e = omega arith
told_below (t ∷ vs) (suc n) (suc i) v e = omega (arith, told_below vs n i v e)

pub told_more : (vs : List Verdict) (n : ℕ) → n < length vs → verdict_list vs (n + 1) ≡ verdict_list vs n ++ (told_at vs n ∷ [])
told_more vs n h = rw (add-one n) (take-suc vs n untold h)

-- ---- outcomes

pub not-both : {r : Refusal} → Err r ≡ unbroken → ⊥
not-both e = true≢false cc

-- ---- the numbers of the refusals

-- none is 0, and each has at most two digits
pub refusal_range : (e : Refusal) → (0 < refusal_no e) × (refusal_no e < 10 ^ 2)
refusal_range Short = (omega arith, omega arith)
refusal_range Mark = (omega arith, omega arith)
refusal_range Version = (omega arith, omega arith)
refusal_range Counts = (omega arith, omega arith)
refusal_range Assumption = (omega arith, omega arith)
refusal_range Length = (omega arith, omega arith)
refusal_range Byte = (omega arith, omega arith)
refusal_range Values = (omega arith, omega arith)
refusal_range Leftover = (omega arith, omega arith)
refusal_range Circular = (omega arith, omega arith)
refusal_range Letter = (omega arith, omega arith)
refusal_range Closed = (omega arith, omega arith)
refusal_range Full = (omega arith, omega arith)
refusal_range NoRound = (omega arith, omega arith)
refusal_range Storage = (omega arith, omega arith)
refusal_range Extent = (omega arith, omega arith)
refusal_range Line = (omega arith, omega arith)
refusal_range Record = (omega arith, omega arith)
refusal_range RoundSet = (omega arith, omega arith)
refusal_range OutputSet = (omega arith, omega arith)
