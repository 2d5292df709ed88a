-- After a preparation and any calls nothing is left in the words that rounds don't write.
use mathlib.Core.Path.{◌≡◌, refl, sym, ap, ◌∙◌, subst}
use mathlib.Core.Bool.{Bool, true, false, cond, ◌&&◌, false≢true}
use mathlib.Core.List.{List}
use mathlib.Core.Option.{Option}
use Prim.Native.Nat.{ℕ, ◌+◌, ◌<◌, ◌≤◌}
use native.Mathlib.Omega.{arith}
use lib.Dec.{ltb}
use Rattle.outcomes.specs.Outcome.{Outcome}
use Rattle.std.specs.Prelude.{Ok, Err}
use Rattle.words.specs.Bits.{bit}
use Rattle.words.proofs.BitLaws.{bit-none}
use Rattle.sheet.specs.RuleSheet.{RuleSheet}
use Rattle.completions.specs.Live.{Pairs}
use Rattle.completions.specs.Completion.{LetterSet, members}
use Rattle.completions.specs.Steps.{Within, part_below}
use Rattle.pairs.specs.Storage.{word_of, slot, stored, set_words, reached_at, scratch_at, storage_words, live, reached, scratch, used}
use Rattle.pairs.proofs.Sets.{word_lt, unused}
use Rattle.effects.specs.Results.{width, heard, next_set, Zero, Prepared, RoundDone}
use Rattle.effects.specs.declared.PrepareAnswer.{PrepareAnswer}
use Rattle.effects.specs.declared.RoundAnswer.{RoundAnswer}
use Rattle.monitor.specs.Entries.{Rounds}
use Rattle.claims.specs.Book.{Call, Answer}
use Rattle.claims.specs.Session.{Held, held, SessionStep, a_round, a_closing, Session, finish, next}
use Rattle.claims.specs.Further.{Tidy, StaysTidy}
use Rattle.claims.proofs.Refusals.{SheetOk}
use Rattle.claims.proofs.Tracks.{same-sheet}
use Rattle.claims.proofs.ThirdDemand.{began}

-- ---- tests

within-zero : (i y l : Bool) → l ≡ false → l ≡ (i && (y && l))
within-zero true true l e = refl
within-zero true false l e = e
within-zero false y l e = e

-- a pair is below the bounds after the round, if it was before where the round writes nothing
within-next : (i y u n l : Bool) → (u ≡ false → i ≡ false) → l ≡ (i && (y && l)) → cond u (i && (y && n)) l ≡ (i && (y && cond u (i && (y && n)) l))
within-next true true true n l f e = refl
within-next true false true n l f e = refl
within-next true y false n l f e = absurd (false≢true (sym (f refl)))
within-next false y true n l f e = refl
within-next false y false n l f e = e

none_left : (u l : Bool) → l ≡ false → cond u false l ≡ false
none_left true l e = refl
none_left false l e = e

-- ---- preparation, a round, any calls

-- the set at `base` is empty
pub zero-none : (from to : ℕ) (t : List ℕ) → Zero from to t → (base b : ℕ) (c : Option ℕ) → b < 256 → Within 256 c → from ≤ base → base + set_words ≤ to → stored t base b c ≡ false
unfolding stored
zero-none from to t z base b c hb hc l g =
    let p : word_of b c < set_words = word_lt b c hb hc in
    ap (bit (slot b c)) (z (base + word_of b c) (omega arith) (omega arith)) ∙ bit-none (slot b c)

prepared_tidy : (x : RuleSheet) (s t : List ℕ) (p : PrepareAnswer) → Prepared x s t p → Tidy x (held t p.record)
prepared_tidy x s t p d = record {
  within = λ b c hb hc. within-zero (ltb b (width x)) (part_below (width x) c) (reached t b c) (zero-none reached_at storage_words t d.empty reached_at b c hb hc (omega arith) (omega arith));
  cleared = λ b c hb hc. zero-none reached_at storage_words t d.empty scratch_at b c hb hc (omega arith) (omega arith);
}

round_tidy : (x : RuleSheet) (h k : Held) (m : LetterSet) (a : RoundAnswer) → RoundDone x h.storage k.storage h.record m a → Tidy x h → Tidy x k
round_tidy x h k m a d y = record {
  within = λ b c hb hc.
      d.steps b c hb hc
      ∙ within-next (ltb b (width x)) (part_below (width x) c) (used (width x) b c) (N b c) (reached h.storage b c) (unused (width x) b c) (y.within b c hb hc)
      ∙ ap (λ (u : Bool). ltb b (width x) && (part_below (width x) c && u)) (sym (d.steps b c hb hc));
  cleared = λ b c hb hc. d.cleared b c hb hc ∙ none_left (used (width x) b c) (scratch h.storage b c) (y.cleared b c hb hc);
}
  where
    N : Pairs
    N = next_set x (live h.storage) h.record.rounds (reached h.storage) (heard x m)

kept_tidy : (x : RuleSheet) (h k : Held) → k.storage ≡ h.storage → Tidy x h → Tidy x k
kept_tidy x h k e y = record { within = rw e y.within; cleared = rw e y.cleared }

module _ (bs : List ℕ) (x : RuleSheet) (ok : SheetOk bs x) where
  call-tidy : (h k : Held) (c : Call) (a : Answer) → SessionStep bs h c a k → Tidy x h → Tidy x k
  call-tidy h k c a (a_round {letters = letters} {t = t} z d) y = go z.outcome d.result
    where
      after : Held
      after = held t z.record

      go : (o : Outcome) → Rounds bs h.storage t h.record letters z o → Tidy x after
      go (Ok _) e =
          round_tidy x h after (members letters) z (subst (λ (q : RuleSheet). RoundDone q h.storage t h.record (members letters) z) (same-sheet bs x ok e.0 e.1) e.2) y
      go (Err q) e = kept_tidy x h after e.0 y
  call-tidy h k c a (a_closing z d) y = kept_tidy x h k refl y

  calls-tidy : (h k : Held) (cs : List Call) (as' : List Answer) → Session bs h cs as' k → Tidy x h → Tidy x k
  calls-tidy h k cs as' finish y = y
  calls-tidy h k cs as' (next {h₁ = m} {c = c} {a = a} {cs = ds} {as' = bs'} s rest) y = calls-tidy m k ds bs' rest (call-tidy h m c a s y)

pub stays_tidy : StaysTidy
stays_tidy bs s t p z o cs as' h run =
    let b = began bs s t p z o in
    (b.sheet, b.ok.reads, calls-tidy bs b.sheet b.ok (held t p.record) h cs as' run (prepared_tidy b.sheet b.done.0 t p b.done.1))
