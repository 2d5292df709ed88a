-- Rounds given by masks, and by the sets made from them.
use mathlib.Core.Path.{◌≡◌, refl, sym, ap, ◌∙◌, subst}
use mathlib.Core.List.{List, [], ◌∷◌, map}
use Prim.Native.Nat.{ℕ, suc}
use lib.Dec.{T}
use lib.ListN.{length}
use Rattle.outcomes.specs.declared.Verdict.{Verdict}
use Rattle.sheet.specs.RuleSheet.{RuleSheet}
use Rattle.lola.specs.Equations.{Letters, output}
use Rattle.completions.specs.Completion.{LetterSet, members, Match, Completion, Closing}
use Rattle.completions.specs.Judged.{in_round, RoundVerdict, ClosingVerdict}
use Rattle.completions.proofs.Verdicts.{judged-as}
use Rattle.letters.proofs.SetLaws.{mask-set-good, one_set}
use Rattle.claims.specs.Further.{MadeFrom, empty, more, MaskedRounds}

-- the letters of m inputs that match the sets match the masks, and back

there : (m : ℕ) (rs : List LetterSet) (ws : List ℕ) → MadeFrom m rs ws → (ls : List ℕ) → Letters m ls → Match (map members ws) ls → Match rs ls
there m rs ws empty ls b h = tt
there m rs ws (more s d) [] b h = h
there m rs ws (more {rs = qs} {ws = us} s d) (l ∷ ls) b h = (subst T (s.letters l b.0) h.0, there m qs us d ls b.1 h.1)

here : (m : ℕ) (rs : List LetterSet) (ws : List ℕ) → MadeFrom m rs ws → (ls : List ℕ) → Letters m ls → Match rs ls → Match (map members ws) ls
here m rs ws empty ls b h = tt
here m rs ws (more s d) [] b h = h
here m rs ws (more {rs = qs} {ws = us} s d) (l ∷ ls) b h = (subst T (sym (s.letters l b.0)) h.0, here m qs us d ls b.1 h.1)

same_length : (m : ℕ) (rs : List LetterSet) (ws : List ℕ) → MadeFrom m rs ws → length (map members ws) ≡ length rs
same_length m rs ws empty = refl
same_length m rs ws (more {rs = qs} {ws = us} s d) = ap suc (same_length m qs us d)

-- so their completions and verdicts are the same
module _ (x : RuleSheet) (rs qs : List LetterSet) (e : length rs ≡ length qs)
    (to : (ls : List ℕ) → Letters x.inputs ls → Match rs ls → Match qs ls) (from : (ls : List ℕ) → Letters x.inputs ls → Match qs ls → Match rs ls) where
  completion-as : (ps ts : List LetterSet) → ((ls : List ℕ) → Letters x.inputs ls → Match ps ls → Match ts ls) → (ls : List ℕ) → Completion x ps ls → Completion x ts ls
  completion-as ps ts f ls c = record {
    some_round = c.some_round;
    letters = c.letters;
    starts = f ls c.letters c.starts;
    trace = c.trace;
    of = c.of;
    satisfies = c.satisfies;
    keeps = c.keeps;
  }

  round-as : (k : ℕ) (v : Verdict) → RoundVerdict x rs k v → RoundVerdict x qs k v
  unfolding RoundVerdict completion-as
  round-as k v =
      judged-as (Completion x rs) (λ ls c. in_round (length rs) (output x k) c.trace) (Completion x qs) (λ ls c. in_round (length qs) (output x k) c.trace)
      (λ ls c. (ls, completion-as rs qs to ls c, ap (λ (t : ℕ). in_round t (output x k) c.trace) (sym e)))
      (λ ls c. (ls, completion-as qs rs from ls c, ap (λ (t : ℕ). in_round t (output x k) c.trace) e)) v

  closing-as : (k : ℕ) (v : Verdict) → ClosingVerdict x rs k v → ClosingVerdict x qs k v
  unfolding ClosingVerdict completion-as
  closing-as k v =
      judged-as (Closing x rs) (λ ls c. in_round (length rs) (output x k) c.complete.trace) (Closing x qs) (λ ls c. in_round (length qs) (output x k) c.complete.trace)
      (λ ls c. (ls, record { complete = completion-as rs qs to ls c.complete; ends = c.ends ∙ e }, ap (λ (t : ℕ). in_round t (output x k) c.complete.trace) (sym e)))
      (λ ls c. (ls, record { complete = completion-as qs rs from ls c.complete; ends = c.ends ∙ sym e }, ap (λ (t : ℕ). in_round t (output x k) c.complete.trace) e)) v

pub masked-rounds : MaskedRounds
masked-rounds = record {
  only = one_set;
  taken = mask-set-good;
  rounds = λ x rs ws d k v.
      let m = x.inputs in
      let e = same_length m rs ws d in
      (round-as x (map members ws) rs e (there m rs ws d) (here m rs ws d) k v, round-as x rs (map members ws) (sym e) (here m rs ws d) (there m rs ws d) k v);
  closings = λ x rs ws d k v.
      let m = x.inputs in
      let e = same_length m rs ws d in
      (closing-as x (map members ws) rs e (there m rs ws d) (here m rs ws d) k v, closing-as x rs (map members ws) (sym e) (here m rs ws d) (there m rs ws d) k v);
}
