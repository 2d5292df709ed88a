-- One verdict is right on a test of traces, and it is the one that is worked out: from two facts, and from a set of pairs.
use mathlib.Core.Bool.{Bool, true, false, not, ◌&&◌}
use mathlib.Core.Logic.{◌⊎◌, inl, inr, ◌↔◌}
use mathlib.Core.Path.{◌≡◌, refl, sym, ap}
use mathlib.Core.List.{List, [], ◌∷◌}
use mathlib.Core.Option.{Option, none, some}
use Prim.Native.Nat.{ℕ, zero, suc, ◌^◌, ◌≤◌, ◌<◌}
use lib.Dec.{T, not_T}
use lib.ListN.{length, get_elem?, get_or}
use Rattle.outcomes.specs.declared.Verdict.{Verdict}
use Rattle.outcomes.specs.declared.Verdict.TheVariants.{False, True, Open, Broken}
use Rattle.words.specs.Below.{any_below}
use Rattle.words.proofs.Tests.{either, not-both, and_left, and_right, and_both}
use Rattle.words.proofs.Options.{nothing, same_some}
use Rattle.sheet.specs.RuleSheet.{RuleSheet, streams}
use Rattle.completions.specs.Steps.{any_pair, Within, Represents, verdict_of, pairs_verdict, ends_verdict}
use Rattle.completions.specs.Live.{Pairs}
use Rattle.completions.specs.Judged.{Judged, in_round}
use Rattle.completions.proofs.Runs.{Round, Agrees, Run, Reached, EndedRun}
use Rattle.completions.proofs.Follow.{last-there}
use Rattle.completions.proofs.Range.{live-within}
use Rattle.completions.proofs.Reach.{reached-live}
use Rattle.completions.proofs.Search.{any_found, any_from, pair_found, pair_from}

module _ {X : Type 0} (C : X → Type 0) (f : (x : X) → C x → Bool) where
  -- some member of C passes the test, and some fails it
  abbrev pub Passes : Type 0
  Passes = (x : X) × (c : C x) × T (f x c)

  abbrev pub Fails : Type 0
  Fails = (x : X) × (c : C x) × T (not (f x c))

  all_pass : (Fails → ⊥) → (x : X) (c : C x) → T (f x c)
  all_pass h x c = go (either (f x c))
    where
      go : T (f x c) ⊎ T (not (f x c)) → T (f x c)
      go (inl t) = t
      go (inr n) = absurd (h (x, c, n))

  all-fail : (Passes → ⊥) → (x : X) (c : C x) → T (not (f x c))
  all-fail h x c = not_T (f x c) (λ t. h (x, c, t))

  pub judged : (u v : Bool) → T u ↔ Passes → T v ↔ Fails → Judged C f (verdict_of u v)
  unfolding Judged
  judged true true p q = (p.0 tt, q.0 tt)
  judged true false p q = (((p.0 tt).0, (p.0 tt).1), all_pass q.1)
  judged false true p q = (((q.0 tt).0, (q.0 tt).1), all-fail p.1)
  judged false false p q = λ x c. q.1 (x, c, all-fail p.1 x c)

  -- no two verdicts are right
  pub one-verdict : (v w : Verdict) → Judged C f v → Judged C f w → v ≡ w
  unfolding Judged
  one-verdict False False a b = refl
  one-verdict False True a b = absurd (not-both (f a.0.0 a.0.1) (b.1 a.0.0 a.0.1) (a.1 a.0.0 a.0.1))
  one-verdict False Open a b = absurd (not-both (f b.0.0 b.0.1) b.0.2 (a.1 b.0.0 b.0.1))
  one-verdict False Broken a b = absurd (b a.0.0 a.0.1)
  one-verdict True False a b = absurd (not-both (f a.0.0 a.0.1) (a.1 a.0.0 a.0.1) (b.1 a.0.0 a.0.1))
  one-verdict True True a b = refl
  one-verdict True Open a b = absurd (not-both (f b.1.0 b.1.1) (a.1 b.1.0 b.1.1) b.1.2)
  one-verdict True Broken a b = absurd (b a.0.0 a.0.1)
  one-verdict Open False a b = absurd (not-both (f a.0.0 a.0.1) a.0.2 (b.1 a.0.0 a.0.1))
  one-verdict Open True a b = absurd (not-both (f a.1.0 a.1.1) (b.1 a.1.0 a.1.1) a.1.2)
  one-verdict Open Open a b = refl
  one-verdict Open Broken a b = absurd (b a.0.0 a.0.1)
  one-verdict Broken False a b = absurd (a b.0.0 b.0.1)
  one-verdict Broken True a b = absurd (a b.0.0 b.0.1)
  one-verdict Broken Open a b = absurd (a b.0.0 b.0.1)
  one-verdict Broken Broken a b = refl

-- the members may be looked at in another way: each of C is one of D on which the tests agree, and back
module _ {X Y : Type 0} (C : X → Type 0) (f : (x : X) → C x → Bool) (D : Y → Type 0) (g : (y : Y) → D y → Bool)
    (there : (x : X) (c : C x) → (y : Y) × (d : D y) × (g y d ≡ f x c)) (here : (y : Y) (d : D y) → (x : X) × (c : C x) × (f x c ≡ g y d)) where
  pub judged-as : (v : Verdict) → Judged C f v → Judged D g v
  unfolding Judged
  judged-as False j =
      let y = there j.0.0 j.0.1 in
      ((y.0, y.1), λ z d. let x = here z d in rw (← x.2) (j.1 x.0 x.1))
  judged-as True j =
      let y = there j.0.0 j.0.1 in
      ((y.0, y.1), λ z d. let x = here z d in rw (← x.2) (j.1 x.0 x.1))
  judged-as Open j =
      let y = there j.0.0 j.0.1 in
      let z = there j.1.0 j.1.1 in
      ((y.0, y.1, rw y.2 j.0.2), (z.0, z.1, rw z.2 j.1.2))
  judged-as Broken j = λ z d. let x = here z d in j x.0 x.1

-- ---- from a set of pairs

get_d_of : (vs : List ℕ) (i : ℕ) {b : ℕ} → get_elem? vs i ≡ some b → get_or vs i 0 ≡ b
get_d_of [] i e = absurd (nothing e)
get_d_of (v ∷ vs) zero e = same_some e
get_d_of (v ∷ vs) (suc i) e = get_d_of vs i e

past : (vs : List ℕ) → get_elem? vs (length vs) ≡ none
past [] = refl
past (v ∷ vs) = past vs

module _ (s : RuleSheet) where
  -- a list that agrees with the rounds ends with them if nothing comes after them
  ends_there : (rs : List Round) (vs : List ℕ) → Agrees rs vs → get_elem? vs (length rs) ≡ none → length vs ≡ length rs
  ends_there [] [] g e = refl
  ends_there [] (v ∷ vs) g e = absurd (nothing (sym e))
  ends_there (r ∷ rs) [] g e = absurd g
  ends_there (r ∷ rs) (v ∷ vs) g e = ap suc (ends_there rs vs g.1 e)

  module _ (w : ℕ) (small : 2 ^ streams s ≤ w) where
    module _ (q : Round) (qs : List Round) (S : Pairs) (exact : Represents w S (Reached s (q ∷ qs))) where
      -- some completion passes a test of the last round exactly if some pair of the set does
      pub pairs-passes : (g : ℕ → Bool) → T (any_pair w (λ b c. S b c && g b)) ↔ Passes (Run s (q ∷ qs)) (λ vs c. in_round (suc (length qs)) g vs)
      unfolding in_round
      pairs-passes g = (forth, back)
        where
          forth : T (any_pair w (λ b c. S b c && g b)) → Passes (Run s (q ∷ qs)) (λ vs c. in_round (suc (length qs)) g vs)
          forth t =
              let x : (b : ℕ) × (c : Option ℕ) × (b < w) × Within w c × T (S b c && g b) = pair_found w (λ b c. S b c && g b) t in
              let h : Reached s (q ∷ qs) x.0 x.1 = (exact x.0 x.1 x.2 x.3).0 (and_left (S x.0 x.1) (g x.0) x.4) in
              (h.trace, h.complete, rw (get_d_of h.trace (length qs) h.here) (and_right (S x.0 x.1) (g x.0) x.4))

          back : Passes (Run s (q ∷ qs)) (λ vs c. in_round (suc (length qs)) g vs) → T (any_pair w (λ b c. S b c && g b))
          back (vs, done, t) =
              let x : (b : ℕ) × (get_elem? vs (length qs) ≡ some b) = last-there q qs vs done.starts in
              let h : Reached s (q ∷ qs) x.0 (get_elem? vs (suc (length qs))) = record { trace = vs; complete = done; here = x.1; next = refl } in
              let l : (x.0 < w) × Within w (get_elem? vs (suc (length qs))) = live-within s w small x.0 (get_elem? vs (suc (length qs))) (reached-live s q qs x.0 (get_elem? vs (suc (length qs))) h) in
              pair_from w (λ b c. S b c && g b) x.0 (get_elem? vs (suc (length qs))) l.0 l.1
              (and_both (S x.0 (get_elem? vs (suc (length qs)))) (g x.0) ((exact x.0 (get_elem? vs (suc (length qs))) l.0 l.1).1 h) (rw (get_d_of vs (length qs) x.1) at t))

      -- some completion that ends here passes the test exactly if some pair of the set with the end mark does
      pub ends-passes : (g : ℕ → Bool) → T (any_below w (λ b. S b none && g b)) ↔ Passes (EndedRun s (q ∷ qs)) (λ vs c. in_round (suc (length qs)) g vs)
      unfolding in_round
      ends-passes g = (forth, back)
        where
          forth : T (any_below w (λ b. S b none && g b)) → Passes (EndedRun s (q ∷ qs)) (λ vs c. in_round (suc (length qs)) g vs)
          forth t =
              let x : (b : ℕ) × (b < w) × T (S b none && g b) = any_found w (λ b. S b none && g b) t in
              let h : Reached s (q ∷ qs) x.0 none = (exact x.0 none x.1 tt).0 (and_left (S x.0 none) (g x.0) x.2) in (
                h.trace,
                record { complete = h.complete; ends = ends_there (q ∷ qs) h.trace h.complete.starts h.next },
                rw (get_d_of h.trace (length qs) h.here) (and_right (S x.0 none) (g x.0) x.2),
              )

          back : Passes (EndedRun s (q ∷ qs)) (λ vs c. in_round (suc (length qs)) g vs) → T (any_below w (λ b. S b none && g b))
          back (vs, done, t) =
              let x : (b : ℕ) × (get_elem? vs (length qs) ≡ some b) = last-there q qs vs done.complete.starts in
              let h : Reached s (q ∷ qs) x.0 none =
              record { trace = vs; complete = done.complete; here = x.1; next = rw (← done.ends) (past vs) } in
              let l : x.0 < w = (live-within s w small x.0 none (reached-live s q qs x.0 none h)).0 in
              any_from w (λ b. S b none && g b) x.0 l (and_both (S x.0 none) (g x.0) ((exact x.0 none l tt).1 h) (rw (get_d_of vs (length qs) x.1) at t))

      -- the verdict of a round, for any test of the last round's valuation
      pub test-verdict : (g : ℕ → Bool) → Judged (Run s (q ∷ qs)) (λ vs c. in_round (suc (length qs)) g vs) (pairs_verdict w S g)
      unfolding pairs_verdict in_round
      test-verdict g =
          judged (Run s (q ∷ qs)) (λ vs c. in_round (suc (length qs)) g vs) (any_pair w (λ b c. S b c && g b)) (any_pair w (λ b c. S b c && not (g b))) (pairs-passes g)
          (pairs-passes (λ b. not (g b)))

      -- the verdict of a closing
      pub test-closing : (g : ℕ → Bool) → Judged (EndedRun s (q ∷ qs)) (λ vs c. in_round (suc (length qs)) g vs) (ends_verdict w S g)
      unfolding ends_verdict in_round
      test-closing g =
          judged (EndedRun s (q ∷ qs)) (λ vs c. in_round (suc (length qs)) g vs) (any_below w (λ b. S b none && g b)) (any_below w (λ b. S b none && not (g b))) (ends-passes g)
          (ends-passes (λ b. not (g b)))
