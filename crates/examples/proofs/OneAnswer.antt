-- No two answers fit a case.
use mathlib.Core.Path.{◌≡◌, refl, sym, ap, ◌∙◌, subst}
use mathlib.Core.List.{List, [], ◌∷◌}
use Prim.Native.Nat.{ℕ, ◌+◌, ◌*◌, ◌^◌}
use native.Mathlib.Nat.{eq_of_mul-eq-mul_left}
use native.Mathlib.Omega.{arith}
use lib.ListN.{length}
use lib.Pow.{pow_pos}
use Rattle.outcomes.specs.Numbers.{refusal_no}
use Rattle.std.specs.Prelude.{Err}
use Rattle.outcomes.specs.Outcome.{unbroken}
use Rattle.outcomes.proofs.NumberLaws.{not-both}
use Rattle.sheet.specs.RuleSheet.{RuleSheet, outputs}
use Rattle.lola.specs.Equations.{joined}
use Rattle.completions.specs.Live.{Pairs, Live, count_pairs}
use Rattle.completions.specs.Judged.{RoundVerdict, ClosingVerdict}
use Rattle.completions.specs.Steps.{Represents}
use Rattle.completions.proofs.Count.{pairs_same}
use Rattle.claims.specs.Book.{Each}
use Rattle.claims.proofs.BookLaws.{each-unique}
use Rattle.claims.proofs.Further.{one-verdict-fits}
use Rattle.examples.specs.Table.{unheard, AcceptedAs, EvaluatesTo, OneAnswer}
use Rattle.examples.proofs.Accepted.{one-outcome}

-- ---- the sheet

one-sheet : (bs : List ℕ) (x y : RuleSheet) → AcceptedAs bs x → AcceptedAs bs y → y ≡ x
one-sheet bs x y a b = cc (a.read, b.read)

-- ---- live pairs

same_count : (x : RuleSheet) (L M : Pairs) → Represents 256 L (Live x) → Represents 256 M (Live x) → count_pairs 256 L ≡ count_pairs 256 M
same_count x L M h g = pairs_same 256 L M (λ a b ha hb t. (g a b ha hb).1 ((h a b ha hb).0 t)) (λ a b ha hb t. (h a b ha hb).1 ((g a b ha hb).0 t))

-- ---- values

same_bytes : (m : ℕ) (ls os ps : List ℕ) → length os ≡ length ls → length ps ≡ length ls → joined m ls os ≡ joined m ls ps → os ≡ ps
same_bytes m [] [] [] h g e = refl
same_bytes m [] (o ∷ os) ps h g e = absurd (omega arith)
same_bytes m [] [] (p ∷ ps) h g e = absurd (omega arith)
same_bytes m (l ∷ ls) [] ps h g e = absurd (omega arith)
same_bytes m (l ∷ ls) (o ∷ os) [] h g e = absurd (omega arith)
same_bytes m (l ∷ ls) (o ∷ os) (p ∷ ps) h g e =
    let r : os ≡ ps = same_bytes m ls os ps (omega arith) (omega arith) cc in
    let a : l + 2 ^ m * o ≡ l + 2 ^ m * p = cc in
    let d : o ≡ p = eq_of_mul-eq-mul_left (2 ^ m) (pow_pos m) o p (omega arith) in
    cc

pub one_answer : OneAnswer
one_answer bs = (
  λ vs ws (x, a, h) (y, b, g).
      let each : Each (outputs x) (RoundVerdict x (unheard ∷ [])) ws = subst (λ (z : RuleSheet). Each (outputs z) (RoundVerdict z (unheard ∷ [])) ws) (one-sheet bs x y a b) g in
      each-unique (outputs x) (RoundVerdict x (unheard ∷ [])) (λ k v w. (one-verdict-fits x (unheard ∷ []) k v w).0) vs ws h each,
  λ vs ws (x, a, h) (y, b, g).
      let each : Each (outputs x) (ClosingVerdict x (unheard ∷ [])) ws = subst (λ (z : RuleSheet). Each (outputs z) (ClosingVerdict z (unheard ∷ [])) ws) (one-sheet bs x y a b) g in
      each-unique (outputs x) (ClosingVerdict x (unheard ∷ [])) (λ k v w. (one-verdict-fits x (unheard ∷ []) k v w).1) vs ws h each,
  λ n k (r, d, e) (q, c, f). let same : Err r ≡ Err q = one-outcome bs (Err r) (Err q) d c in let z : r ≡ q = cc in sym e ∙ ap refusal_no z ∙ f,
  λ n k (x, a, L, h, e) (y, b, M, g, f).
      sym e ∙ same_count x L M h (subst (λ (z : RuleSheet). Represents 256 M (Live z)) (one-sheet bs x y a b) g) ∙ f,
  λ ls os ps (x, a, h) (y, b, g).
      let t : EvaluatesTo x ls ps = subst (λ (z : RuleSheet). EvaluatesTo z ls ps) (one-sheet bs x y a b) g in
      same_bytes x.inputs ls os ps h.size t.size (t.only (joined x.inputs ls os) h.trace),
  λ n x (r, d, e) a. not-both (one-outcome bs (Err r) unbroken d a.decided),
)
