-- The longest sheet that is read has 463 bytes: a header of 8, and at most 7 outputs of a length byte and 64 expression bytes.
use mathlib.Core.Path.{◌≡◌, refl, ap, subst}
use mathlib.Core.Bool.{Bool, true, false, not}
use mathlib.Core.List.{List, [], ◌∷◌}
use Prim.Native.Nat.{ℕ, zero, suc, ◌+◌, ◌*◌, ◌≤◌, ◌<◌}
use native.Mathlib.Omega.{arith}
use lib.Dec.{leb, ltb}
use lib.ListN.{length}
use borrow.Author.Tests.{leb-true, ltb-false}
use Rattle.outcomes.specs.Decided.{test, Decided}
use Rattle.outcomes.specs.declared.Refusal.TheVariants.{Leftover, Values}
use Rattle.outcomes.specs.Outcome.{unbroken}
use Rattle.outcomes.proofs.Decisions.{Passed, all-passed, passed-append}
use Rattle.words.proofs.Bools.{and_split}
use Rattle.sheet.specs.Header.{counts_ok}
use Rattle.sheet.specs.ReadingChecks.{inputs_of, outputs_of, output_at, length_at, bad_length, bad_end, left_over, byte_checks, output_checks, reading_checks}
use Rattle.sheet.specs.Decided.{reading_outcome}
use Rattle.sheet.proofs.First.{reading_decided}
use Rattle.sheet.proofs.Headers as headers
use Rattle.claims.specs.Further.{LongestSheet}

not-broken : (b : Bool) → (not b ≡ true → ⊥) → b ≡ true
not-broken true h = refl
not-broken false h = absurd (h refl)

not_less : (a b : ℕ) → (ltb a b ≡ true → ⊥) → b ≤ a
not_less a b h = go (ltb a b) refl
  where
    go : (t : Bool) → ltb a b ≡ t → b ≤ a
    go true e = absurd (h e)
    go false e = ltb-false a b e

-- the length of every output is right
sizes : (bs : List ℕ) (r k : ℕ) → Passed (output_checks bs k r) → (j : ℕ) → j < r → bad_length bs (k + j) ≡ true → ⊥
unfolding output_checks
sizes bs zero k p j h = absurd (omega arith)
sizes bs (suc r) k p zero h = let e : k ≡ k + 0 = omega arith in subst (λ (i : ℕ). bad_length bs i ≡ true → ⊥) e p.0
sizes bs (suc r) k p (suc j) h =
    let e : suc k + j ≡ k + suc j = omega arith in
    let q = passed-append (byte_checks bs k 0 (length_at bs k)) (test Values (bad_end bs k) ∷ output_checks bs (suc k) r) p.1 in
    subst (λ (i : ℕ). bad_length bs i ≡ true → ⊥) e (sizes bs r (suc k) q.1.1 j (omega arith))

module _ (bs : List ℕ) (holds : Decided (reading_checks bs) unbroken) where
  behind : Passed (output_checks bs 0 (outputs_of bs)) × Passed (test Leftover (left_over bs) ∷ [])
  unfolding reading_checks
  behind = passed-append (output_checks bs 0 (outputs_of bs)) (test Leftover (left_over bs) ∷ []) (all-passed (reading_checks bs) holds).1.1.1.1.1

  short-size : (k : ℕ) → k < outputs_of bs → length_at bs k ≤ 64
  short-size k h =
      let z : 0 + k ≡ k = omega arith in
      let e = not-broken _ (subst (λ (i : ℕ). bad_length bs i ≡ true → ⊥) z (sizes bs (outputs_of bs) 0 behind.0 k h)) in
      let a = (and_split (ltb (output_at bs k) (length bs)) _ e).1 in
      let b = (and_split (leb 1 (length_at bs k)) _ a).1 in
      leb-true (length_at bs k) 64 (and_split (leb (length_at bs k) 64) _ b).0

  output-bound : (k : ℕ) → k ≤ outputs_of bs → output_at bs k ≤ 8 + 65 * k
  unfolding output_at
  output-bound zero h = omega arith
  output-bound (suc k) h = omega (arith, output-bound k (omega arith), short-size k (omega arith))

  few-outputs : outputs_of bs ≤ 7
  unfolding reading_checks
  few-outputs = (headers.counts (inputs_of bs) (outputs_of bs) (not-broken (counts_ok (inputs_of bs) (outputs_of bs)) (all-passed (reading_checks bs) holds).1.1.1.0)).outputs

  at_most : length bs ≤ 463
  at_most = omega (arith, not_less (output_at bs (outputs_of bs)) (length bs) behind.1.0, output-bound (outputs_of bs) (omega arith), few-outputs)

pub longest-sheet : LongestSheet
longest-sheet bs x e = at_most bs (subst (Decided (reading_checks bs)) (ap reading_outcome e) (reading_decided bs))
