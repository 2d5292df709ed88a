-- Several outputs together: a set of one is its output, the empty set is true wherever there is a completion, and whether a completion is there does not
-- hang on the set.
use mathlib.Core.Bool.{Bool, true, false, not, ◌&&◌}
use mathlib.Core.Path.{◌≡◌, refl, sym, ap, ◌∙◌, subst}
use mathlib.Core.Logic.{◌⊎◌, inl, inr, ◌↔◌}
use mathlib.Core.List.{List}
use Prim.Native.Nat.{ℕ, ◌<◌}
use native.Mathlib.Decide.{ℕ_discrete}
use lib.Dec.{T, eqb}
use lib.ListN.{length}
use borrow.Author.Tests.{eq-eqb, ne_eqb}
use Rattle.outcomes.specs.declared.Verdict.{Verdict}
use Rattle.outcomes.specs.declared.Verdict.TheVariants.{False, True, Open, Broken}
use Rattle.words.specs.Below.{any_below}
use Rattle.words.proofs.AnyLaws.{any_cong, none_any, some_any}
use Rattle.words.proofs.Tests.{either, not-both, true_of}
use Rattle.sheet.specs.RuleSheet.{RuleSheet, outputs}
use Rattle.lola.specs.Equations.{output}
use Rattle.completions.specs.Completion.{LetterSet, Completion}
use Rattle.completions.specs.Judged.{Judged, in_round, RoundVerdict}
use Rattle.completions.specs.Together.{together, TogetherVerdict}
use Rattle.completions.proofs.Verdicts.{judged-as, one-verdict}

module _ (x : RuleSheet) where
  -- only the outputs of the sheet matter
  same-together : (O P : ℕ → Bool) → ((k : ℕ) → O k ≡ P k) → (v : ℕ) → together x O v ≡ together x P v
  unfolding together
  same-together O P e v = ap not (any_cong (outputs x) _ _ (λ k h. ap (λ (b : Bool). b && not (output x k v)) (e k)))

  of_one : (k : ℕ) → k < outputs x → (v : ℕ) → together x (λ j. eqb j k) v ≡ output x k v
  unfolding together
  of_one k h v = go (output x k v) refl
    where
      go : (b : Bool) → output x k v ≡ b → not (any_below (outputs x) (λ j. eqb j k && not (output x j v))) ≡ output x k v
      go true e = ap not (none_any (outputs x) (λ j. eqb j k && not (output x j v)) (λ j l. at j (ℕ_discrete j k))) ∙ sym e
        where
          at : (j : ℕ) → Dec (j ≡ k) → (eqb j k && not (output x j v)) ≡ false
          at j (yes q) = rw (eq-eqb j k q) (ap (λ (i : ℕ). not (output x i v)) q ∙ ap not e)
          at j (no q) = rw (ne_eqb j k q)
      go false e = ap not (some_any (outputs x) (λ j. eqb j k && not (output x j v)) k h (rw (eq-eqb k k refl) (ap not e))) ∙ sym e

  of_none : (O : ℕ → Bool) → ((k : ℕ) → O k ≡ false) → (v : ℕ) → together x O v ≡ true
  unfolding together
  of_none O e v = ap not (none_any (outputs x) (λ j. O j && not (output x j v)) (λ j l. ap (λ (b : Bool). b && not (output x j v)) (e j)))

  -- a set is true where each of its outputs is
  passes-all : (O : ℕ → Bool) (v : ℕ) → ((k : ℕ) → k < outputs x → O k ≡ true → T (output x k v)) → T (together x O v)
  unfolding together
  passes-all O v f = rw (none_any (outputs x) (λ k. O k && not (output x k v)) (λ k h. at k h (O k) refl)) tt
    where
      at : (k : ℕ) → k < outputs x → (b : Bool) → O k ≡ b → (b && not (output x k v)) ≡ false
      at k h true e = ap not (true_of (output x k v) (f k h e))
      at k h false e = refl

  module _ (rs : List LetterSet) where
    -- tests that agree on every valuation get the same verdicts
    judged-alike : (f g : ℕ → Bool) → ((v : ℕ) → f v ≡ g v) → (v : Verdict)
        → Judged (Completion x rs) (λ ls c. in_round (length rs) f c.trace) v → Judged (Completion x rs) (λ ls c. in_round (length rs) g c.trace) v
    unfolding in_round
    judged-alike f g e =
        judged-as (Completion x rs) (λ ls c. in_round (length rs) f c.trace) (Completion x rs) (λ ls c. in_round (length rs) g c.trace)
        (λ ls c. (ls, c, sym (e _))) (λ ls c. (ls, c, e _))

    -- a set of one has the verdict of its output
    pub one-output : (k : ℕ) → k < outputs x → (O : ℕ → Bool) → ((j : ℕ) → O j ≡ eqb j k) → (v : Verdict) → TogetherVerdict x rs O v ↔ RoundVerdict x rs k v
    unfolding TogetherVerdict RoundVerdict
    one-output k h O e v =
        let same : (u : ℕ) → together x O u ≡ output x k u = λ u. same-together O (λ j. eqb j k) e u ∙ of_one k h u in
        (judged-alike (together x O) (output x k) same v, judged-alike (output x k) (together x O) (λ u. sym (same u)) v)

    -- the empty set is true, or broken
    pub no_output : (O : ℕ → Bool) → ((k : ℕ) → O k ≡ false) → (v : Verdict) → TogetherVerdict x rs O v → (v ≡ True) ⊎ (v ≡ Broken)
    unfolding TogetherVerdict Judged in_round
    no_output O e False j = absurd (subst (λ (b : Bool). T (not b)) (of_none O e _) (j.1 j.0.0 j.0.1))
    no_output O e True j = inl refl
    no_output O e Open j = absurd (subst (λ (b : Bool). T (not b)) (of_none O e _) j.1.2)
    no_output O e Broken j = inr refl

    -- broken says that there is no completion, whatever is asked
    pub broken-alike : (O : ℕ → Bool) (k : ℕ) → TogetherVerdict x rs O Broken ↔ RoundVerdict x rs k Broken
    unfolding TogetherVerdict RoundVerdict Judged
    broken-alike O k = (λ h. h, λ h. h)

    pub one-together : (O : ℕ → Bool) (v w : Verdict) → TogetherVerdict x rs O v → TogetherVerdict x rs O w → v ≡ w
    unfolding TogetherVerdict
    one-together O v w = one-verdict (Completion x rs) (λ ls c. in_round (length rs) (together x O) c.trace) v w

    module _ (O : ℕ → Bool) (k : ℕ) (h : k < outputs x) (e : O k ≡ true) where
      -- a set with an output that is false in v is false there, and in one where the set is true the output is
      fails-with : (v : ℕ) → T (not (output x k v)) → T (not (together x O v))
      unfolding together
      fails-with v t =
          rw (some_any (outputs x) (λ j. O j && not (output x j v)) k h (ap (λ (b : Bool). b && not (output x k v)) e ∙ true_of (not (output x k v)) t)) tt

      passes-with : (v : ℕ) → T (together x O v) → T (output x k v)
      passes-with v t = go (either (output x k v))
        where
          go : T (output x k v) ⊎ T (not (output x k v)) → T (output x k v)
          go (inl u) = u
          go (inr u) = absurd (not-both (together x O v) t (fails-with v u))

      pub one_false : RoundVerdict x rs k False → TogetherVerdict x rs O False
      unfolding RoundVerdict TogetherVerdict Judged in_round
      one_false j = (j.0, λ ls c. fails-with _ (j.1 ls c))

      pub each_true : TogetherVerdict x rs O True → RoundVerdict x rs k True
      unfolding RoundVerdict TogetherVerdict Judged in_round
      each_true j = (j.0, λ ls c. passes-with _ (j.1 ls c))

      pub all_true : ((j : ℕ) → j < outputs x → O j ≡ true → RoundVerdict x rs j True) → TogetherVerdict x rs O True
      unfolding RoundVerdict TogetherVerdict Judged in_round
      all_true f = ((f k h e).0, λ ls c. passes-all O _ (λ j l u. (f j l u).1 ls c))
