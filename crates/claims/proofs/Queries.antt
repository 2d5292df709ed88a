-- Questions about several outputs together are answered by the book, and what a set's verdict has to do with those of its outputs.
use mathlib.Core.Path.{◌≡◌, refl, sym, subst}
use mathlib.Core.Bool.{Bool, true}
use mathlib.Core.List.{List, [], ◌∷◌}
use mathlib.Core.Logic.{inl, inr}
use Prim.Native.Nat.{ℕ, ◌^◌}
use lib.ListN.{length}
use Rattle.outcomes.specs.Decided.{Check, check, Decided}
use Rattle.outcomes.specs.declared.Refusal.TheVariants.{Closed, NoRound}
use Rattle.outcomes.specs.Outcome.{Outcome}
use Rattle.outcomes.proofs.Decisions.{decided_past, all-passed}
use Rattle.words.proofs.BitLaws.{bit-pow, bit-none}
use Rattle.sheet.specs.RuleSheet.{RuleSheet, outputs}
use Rattle.sheet.specs.ReadingChecks.{outputs_of}
use Rattle.circular.specs.SheetChecks.{sheet_checks}
use Rattle.completions.specs.Live.{Pairs, Live}
use Rattle.completions.specs.Completion.{LetterSet}
use Rattle.completions.specs.Judged.{Judged}
use Rattle.completions.specs.Steps.{Represents, pairs_verdict}
use Rattle.completions.specs.Together.{named, together, TogetherVerdict}
use Rattle.completions.proofs.Letters.{on_letters}
use Rattle.completions.proofs.Together.{one-output, no_output, broken-alike, one-together, one_false, each_true, all_true}
use Rattle.pairs.specs.Storage.{live, reached}
use Rattle.checks.specs.JournalChecks.{names_beyond, together_rules}
use Rattle.effects.specs.Results.{width}
use Rattle.queries.specs.Together.{TogetherDone, Answers, TogetherCall}
use Rattle.queries.specs.declared.TogetherAnswer.{TogetherAnswer}
use Rattle.claims.specs.Book.{Book}
use Rattle.claims.specs.Session.{Held}
use Rattle.claims.specs.Queries.{book_checks, TogetherRight, TogetherAnswered, OneTogether, SomeTogether, SetOfOne, EmptySet, BrokenSets, FromOutputs}
use Rattle.claims.proofs.BookLaws.{Reaches, reached-by, reaches-together}
use Rattle.claims.proofs.Refusals.{SheetOk, short, wrong}
use Rattle.claims.proofs.Tracks.{Tracks, same-outputs, same-sheet}
use Rattle.claims.proofs.ThirdDemand.{began, after-calls}
use Rattle.claims.proofs.Further.{own_set, completes_less}

-- ---- the answers after any list of calls

-- the checks of the question itself
abbrev own_checks : Bool → ℕ → ℕ → ℕ → List Check
own_checks shut n rounds set = check Closed (shut ≡ true) ∷ (names_beyond n set ∷ (check NoRound (rounds ≡ 0) ∷ []))

module _ (bs : List ℕ) (x : RuleSheet) (ok : SheetOk bs x) (b : Book) (h : Held) (tr : Tracks bs x ok b h) (set : ℕ) (a : TogetherAnswer)
    (z : TogetherCall bs h.storage h.record set a) where
  -- the sheet's rules, 15 and 18 are not broken
  behind : (o : Outcome) → Decided (together_rules (outputs_of bs) (length h.storage) h.record set) o → Decided (own_checks h.record.closed (outputs_of bs) h.record.rounds set) o
  behind o (inl d) = absurd (short bs x ok (length h.storage) h.record tr.lent tr.right d.0)
  behind o (inr (p, inl d)) = absurd (wrong bs x ok (length h.storage) h.record tr.lent tr.right d.0)
  behind o (inr (p, inr (q, d))) = d

  by-book : Decided (book_checks x b set) a.outcome
  by-book =
      subst (λ (s : Bool). Decided (own_checks s (outputs x) (length b.rounds) set) a.outcome) tr.matches.shut
      (subst (λ (t : ℕ). Decided (own_checks h.record.closed (outputs x) t set) a.outcome) tr.matches.rounds
      (subst (λ (n : ℕ). Decided (own_checks h.record.closed n h.record.rounds set) a.outcome) (sym (same-outputs bs x ok))
      (behind a.outcome (decided_past (sheet_checks bs) _ a.outcome ok.holds z.decided))))

  -- with a round there is a verdict over its completions
  over-rounds : (L : Pairs) (lives : Represents (width x) L (Live x)) (rs : List LetterSet) (S : Pairs) → (length rs ≡ 0 → ⊥) → Reaches x L lives (on_letters x rs) S
      → TogetherVerdict x rs (named set) (pairs_verdict (width x) S (together x (named set)))
  over-rounds L lives [] S n r = absurd (n refl)
  over-rounds L lives (q ∷ qs) S n r = reaches-together x L lives q qs S r (named set)

  right : TogetherRight x b set a
  right = record {
    decided = by-book;
    verdict = λ e.
        let p = all-passed (book_checks x b set) (subst (Decided (book_checks x b set)) e by-book) in
        let d = subst (Answers bs h.storage set a) e z.result in
        let f : TogetherDone x h.storage set a = subst (λ (y : RuleSheet). TogetherDone y h.storage set a) (same-sheet bs x ok d.0 d.1) d.2 in
        subst (TogetherVerdict x b.rounds (named set)) (sym f) (over-rounds (live h.storage) tr.lives b.rounds (reached h.storage) p.1.1.0 tr.reaches);
  }

pub together-answered : TogetherAnswered
together-answered bs s t p z o cs as' h run =
    let b = began bs s t p z o in
    let e = after-calls bs s t p z o cs as' h run in
    (b.sheet, b.ok.reads, (e.book, e.run, λ set a c. right bs b.sheet b.ok e.book h e.tracks set a c))

-- ---- sets of outputs

pub one-together-fits : OneTogether
one-together-fits = one-together

pub some-together-fits : SomeTogether
some-together-fits x few r rs O =
    let (L, own) = own_set x few in
    let z = reached-by x L own (r ∷ rs) in
    (_, reaches-together x L own r rs z.0 z.1 O)

pub set-of-one : SetOfOne
set-of-one x rs k h = one-output x rs k h (named (2 ^ k)) (λ j. bit-pow j k)

pub empty-set : EmptySet
empty-set x rs = no_output x rs (named 0) bit-none

pub broken_sets : BrokenSets
unfolding TogetherVerdict Judged
broken_sets = record {
  with_the_round = broken-alike;
  later = λ x rs r O P h ls c. h ls (completes_less x rs r ls c);
}

pub from-outputs : FromOutputs
from-outputs = record { one_false = one_false; each_true = each_true; all_true = all_true }
