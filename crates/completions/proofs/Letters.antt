-- A verdict over completions, which are lists of letters, is the verdict over runs, which are lists of valuations.
use mathlib.Core.Bool.{Bool}
use mathlib.Core.Path.{refl, sym, ap, ◌∙◌}
use mathlib.Core.List.{List, [], ◌∷◌, map}
use mathlib.Core.Option.{Option, none, some}
use Prim.Native.Nat.{ℕ, ◌^◌}
use native.Mathlib.Nat.{mod-lt}
use native.Mathlib.Omega.{arith}
use lib.Dec.{ltb, ltb→lt, lt→ltb}
use lib.ListN.{length, length-map}
use lib.Pow.{pow_pos}
use Rattle.outcomes.specs.declared.Verdict.{Verdict}
use Rattle.words.proofs.Tests.{and_left, and_right, and_both}
use Rattle.sheet.specs.RuleSheet.{RuleSheet, streams}
use Rattle.lola.specs.Equations.{Satisfies, Letters, letter}
use Rattle.completions.specs.Live.{assumed, allowed, Follows}
use Rattle.completions.specs.Completion.{LetterSet, Match, Keeps, Completion, Closing}
use Rattle.completions.specs.Judged.{Judged, in_round}
use Rattle.completions.proofs.Runs.{Round, Agrees, Run, EndedRun}
use Rattle.completions.proofs.Verdicts.{judged-as}

-- the round that asks a test of the valuation's letter
abbrev pub on_letter : RuleSheet → LetterSet → Round
on_letter s r v = r (letter s v)

abbrev pub on_letters : RuleSheet → List LetterSet → List Round
on_letters s rs = map (on_letter s) rs

module _ (s : RuleSheet) where
  all-letters : (vs : List ℕ) → Letters s.inputs (map (letter s) vs)
  all-letters [] = tt
  all-letters (v ∷ vs) = (mod-lt v (pow_pos s.inputs), all-letters vs)

  satisfies-of : (p : Option ℕ) (vs : List ℕ) → Follows s p vs → Satisfies s p vs
  unfolding allowed
  satisfies-of p [] f = tt
  satisfies-of p (v ∷ vs) f =
      (ltb→lt v (2 ^ streams s) (and_left (ltb v (2 ^ streams s)) (assumed s v) f.0), f.1, satisfies-of (some v) vs f.2)

  keeps-of : (p : Option ℕ) (vs : List ℕ) → Follows s p vs → Keeps s vs
  unfolding allowed
  keeps-of p [] f = tt
  keeps-of p (v ∷ vs) f = (and_right (ltb v (2 ^ streams s)) (assumed s v) f.0, keeps-of (some v) vs f.2)

  follows_of : (p : Option ℕ) (vs : List ℕ) → Satisfies s p vs → Keeps s vs → Follows s p vs
  unfolding allowed
  follows_of p [] f k = tt
  follows_of p (v ∷ vs) f k =
      (and_both (ltb v (2 ^ streams s)) (assumed s v) (lt→ltb v (2 ^ streams s) f.0) k.0, f.1, follows_of (some v) vs f.2 k.1)

  match-of : (rs : List LetterSet) (vs : List ℕ) → Agrees (on_letters s rs) vs → Match rs (map (letter s) vs)
  match-of [] vs g = tt
  match-of (r ∷ rs) [] g = g
  match-of (r ∷ rs) (v ∷ vs) g = (g.0, match-of rs vs g.1)

  agrees-of : (rs : List LetterSet) (vs : List ℕ) → Match rs (map (letter s) vs) → Agrees (on_letters s rs) vs
  agrees-of [] vs g = tt
  agrees-of (r ∷ rs) [] g = g
  agrees-of (r ∷ rs) (v ∷ vs) g = (g.0, agrees-of rs vs g.1)

  module _ (rs : List LetterSet) where
    pub completion-of : (vs : List ℕ) → Run s (on_letters s rs) vs → Completion s rs (map (letter s) vs)
    completion-of vs c = record {
      some_round = rw length-map c.some_round;
      letters = all-letters vs;
      starts = match-of rs vs c.starts;
      trace = vs;
      of = refl;
      satisfies = satisfies-of none vs c.satisfies;
      keeps = keeps-of none vs c.satisfies;
    }

    pub run_of : (ls : List ℕ) (c : Completion s rs ls) → Run s (on_letters s rs) c.trace
    run_of ls c = record {
      some_round = omega (arith, c.some_round, ap length c.of, length-map c.trace (letter s));
      satisfies = follows_of none c.trace c.satisfies c.keeps;
      starts = agrees-of rs c.trace (rw c.of c.starts);
    }

    closing-of : (vs : List ℕ) → EndedRun s (on_letters s rs) vs → Closing s rs (map (letter s) vs)
    closing-of vs c = record {
      complete = completion-of vs c.complete;
      ends = length-map vs (letter s) ∙ c.ends ∙ length-map rs (on_letter s);
    }

    ended_of : (ls : List ℕ) (c : Closing s rs ls) → EndedRun s (on_letters s rs) c.complete.trace
    ended_of ls c = record {
      complete = run_of ls c.complete;
      ends = sym (length-map c.complete.trace (letter s)) ∙ ap length c.complete.of ∙ c.ends ∙ sym (length-map rs (on_letter s));
    }

    -- the two readings of a completion give the same verdicts, for any test of a round
    pub letters-verdict : (t : ℕ) (g : ℕ → Bool) (v : Verdict) → Judged (Run s (on_letters s rs)) (λ vs c. in_round t g vs) v → Judged (Completion s rs) (λ ls c. in_round t g c.trace) v
    unfolding completion-of
    letters-verdict t g v =
        judged-as (Run s (on_letters s rs)) (λ vs c. in_round t g vs) (Completion s rs) (λ ls c. in_round t g c.trace)
        (λ vs c. (map (letter s) vs, completion-of vs c, refl)) (λ ls c. (c.trace, run_of ls c, refl)) v

    pub letters-closing : (t : ℕ) (g : ℕ → Bool) (v : Verdict) → Judged (EndedRun s (on_letters s rs)) (λ vs c. in_round t g vs) v → Judged (Closing s rs) (λ ls c. in_round t g c.complete.trace) v
    unfolding closing-of completion-of
    letters-closing t g v =
        judged-as (EndedRun s (on_letters s rs)) (λ vs c. in_round t g vs) (Closing s rs) (λ ls c. in_round t g c.complete.trace)
        (λ vs c. (map (letter s) vs, closing-of vs c, refl)) (λ ls c. (c.complete.trace, ended_of ls c, refl)) v
