-- The storage and the record keep to the book: what a caller holds after an accepted preparation and any list of calls is tracked by a book, which
-- answers them as the calls are answered.
use mathlib.Core.Path.{◌≡◌, refl, sym, ap, ap₂, ◌∙◌, subst}
use mathlib.Core.Bool.{Bool, true}
use mathlib.Core.List.{List, [], ◌∷◌, ◌++◌}
use mathlib.Core.Option.{Option, none, some}
use Prim.Native.Nat.{ℕ, zero, suc, ◌+◌, ◌*◌, ◌≤◌, ◌<◌}
use native.Mathlib.Omega.{arith}
use lib.ListN.{length, get_or, get_elem?, take, length-map, replicate}
use lib.Pow.{pow_mono}
use lib.Seq.{length-take-le}
use Rattle.outcomes.specs.Numbers.{told_at, verdict_list, Verdicts}
use Rattle.outcomes.specs.declared.Refusal.{Refusal}
use Rattle.outcomes.specs.Outcome.{Outcome}
use Rattle.std.specs.Prelude.{Ok, Err}
use Rattle.outcomes.specs.declared.Verdict.{Verdict}
use Rattle.outcomes.specs.declared.Verdict.TheVariants.{True}
use Rattle.outcomes.proofs.Decisions.{decided_once}
use Rattle.outcomes.proofs.NumberLaws.{told-size, told_at_lem, told_below}
use Rattle.words.specs.Below.{one}
use Rattle.words.proofs.ListLaws.{zeros}
use Rattle.words.proofs.Options.{nothing, same_some}
use Rattle.sheet.specs.RuleSheet.{RuleSheet, outputs, accepted, read_sheet}
use Rattle.sheet.specs.ReadingChecks.{outputs_of}
use Rattle.sheet.proofs.Formed.{one-sheet, counts_of, read_formed}
use Rattle.lola.specs.Equations.{output}
use Rattle.record.specs.Record.{max_rounds, Fresh, count_at, sum_at, add_up, record_ok, share, same_verdict}
use Rattle.record.specs.declared.JournalRecord.{JournalRecord}
use Rattle.record.proofs.Tallies.{record_is, record_more}
use Rattle.completions.specs.Live.{Pairs, Live}
use Rattle.completions.specs.Completion.{LetterSet, members}
use Rattle.completions.specs.Judged.{RoundVerdict, ClosingVerdict}
use Rattle.completions.specs.Steps.{Within, Represents, pairs_verdict, ends_verdict}
use Rattle.completions.proofs.Runs.{Round}
use Rattle.completions.proofs.Follow.{length_snoc}
use Rattle.completions.proofs.Letters.{on_letter, on_letters}
use Rattle.completions.proofs.Range.{wider}
use Rattle.pairs.specs.Storage.{live_at, storage_words, live, reached}
use Rattle.pairs.proofs.Sets.{stored_eq}
use Rattle.checks.specs.JournalChecks.{round_checks, closing_checks}
use Rattle.effects.specs.Results.{width, next_set, Prepared, RoundDone, ClosingDone}
use Rattle.effects.specs.declared.PrepareAnswer.{PrepareAnswer}
use Rattle.effects.specs.declared.RoundAnswer.{RoundAnswer}
use Rattle.effects.specs.declared.ClosingAnswer.{ClosingAnswer}
use Rattle.effects.proofs.Rounding.{reached-below}
use Rattle.monitor.specs.Entries.{Rounds, RoundCall, Closes, CloseCall}
use Rattle.claims.specs.Book.{Call, round, closing, Answer, refused, verdicts, closed, Book, empty_book, is_at, counted, refusal, Each, BookStep, refuse, accept, close, BookRun}
use Rattle.claims.specs.Book as book
use Rattle.claims.specs.Session.{Held, held, round_says, closing_says, SessionStep, a_round, a_closing, Session, finish, next, Matches}
use Rattle.claims.proofs.BookLaws.{map_snoc, Reaches, next-reaches, round-right, closing-right}
use Rattle.claims.proofs.Refusals.{outcome_by, SheetOk, round-decided, closing-decided, by_accepted, by_refused, rounds-left}

-- ---- lists of verdicts and shares

shares_at : (xs : List ℕ) (n i y : ℕ) → get_elem? (take n xs) i ≡ some y → (i < n) × (y ≡ get_or xs i 0)
shares_at xs zero i y e = absurd (nothing e)
shares_at [] (suc n) i y e = absurd (nothing e)
shares_at (x ∷ xs) (suc n) zero y e = (omega arith, sym (same_some e))
shares_at (x ∷ xs) (suc n) (suc i) y e =
    let r = shares_at xs n i y e in
    (omega (arith, r.0), r.1)

-- what an answer says of each output
each-verdict : (n m : ℕ) (f : ℕ → Verdict) (vs : List Verdict) (R : ℕ → Verdict → Type 0) → n ≡ m → n ≤ 7 → Verdicts n f vs → ((k : ℕ) → R k (f k)) → Each n R (verdict_list vs m)
each-verdict n m f vs R e few x h = record {
  size = told-size vs m (omega (arith, x.size)) ∙ sym e;
  right = λ k v g.
      let lt = told_below vs m k v g in
      let s : told_at vs k ≡ v = same_some (sym (told_at_lem vs m k (omega (arith, x.size)) lt) ∙ g) in
      subst (R k) (sym (x.each k (omega arith)) ∙ s) (h k);
}

-- the counts go up as the book's do
counted_as : (n m : ℕ) (vs : List Verdict) (k : ℕ) (v : Verdict) → n ≡ m → n ≤ 7 → length vs ≡ 7 → k < n
    → one (same_verdict (told_at vs k) v) ≡ one (is_at (get_elem? (verdict_list vs m) k) v)
counted_as n m vs k v e few size h = rw (told_at_lem vs m k (omega arith) (omega arith))

-- ---- sets

-- a set that is the same below w represents the same
pub represents_as : (w : ℕ) (S R : Pairs) (P : ℕ → Option ℕ → Type 0) → ((b : ℕ) (c : Option ℕ) → b < w → Within w c → R b c ≡ S b c) → Represents w S P → Represents w R P
represents_as w S R P e h b c hb hc = (λ t. (h b c hb hc).0 (rw (e b c hb hc) at t), λ p. rw (e b c hb hc) ((h b c hb hc).1 p))

module _ (bs : List ℕ) (x : RuleSheet) (ok : SheetOk bs x) where
  abbrev w : ℕ
  w = width x

  abbrev n : ℕ
  n = outputs x

  pub same-outputs : n ≡ outputs_of bs
  same-outputs = (counts_of bs x ok.reads).1

  few-outputs : n ≤ 7
  few-outputs = (read_formed bs x ok.reads).ranges.outputs

  pub w-small : w ≤ 256
  w-small = pow_mono (read_formed bs x ok.reads).ranges.streams

  pub same-sheet : (y : RuleSheet) → read_sheet bs ≡ accepted y → y ≡ x
  same-sheet y e = one-sheet bs y x e ok.reads

  -- the storage and the record are those of the book
  pub record Tracks (b : Book) (h : Held) : Type 0 where
    pub matches : Matches x b h.record
    pub size : length h.record.counts ≡ 28
    pub lent : storage_words ≤ length h.storage
    pub right : record_ok n h.record ≡ true
    pub lives : Represents w (live h.storage) (Live x)
    pub reaches : Reaches x (live h.storage) lives (on_letters x b.rounds) (reached h.storage)

  -- what a call leaves of the book
  pub record Follows (b : Book) (c : Call) (a : Answer) (h : Held) : Type 0 where
    pub book : Book
    pub step : BookStep x b c a book
    pub tracks : Tracks book h

  -- and what a list of calls does
  pub record Runs (b : Book) (cs : List Call) (as' : List Answer) (h : Held) : Type 0 where
    pub book : Book
    pub run : BookRun x b cs as' book
    pub tracks : Tracks book h

  pub reaches-as : (L L' : Pairs) (lives : Represents w L (Live x)) (lives' : Represents w L' (Live x)) (rs : List Round) (S R : Pairs)
      → ((b : ℕ) (c : Option ℕ) → b < w → Within w c → R b c ≡ S b c) → Reaches x L lives rs S → Reaches x L' lives' rs R
  reaches-as L L' lives lives' [] S R e h = tt
  reaches-as L L' lives lives' (q ∷ qs) S R e h = represents_as w S R _ e h

  same-record : (r z : JournalRecord) → z.rounds ≡ r.rounds → z.counts ≡ r.counts → record_ok n r ≡ true → record_ok n z ≡ true
  unfolding record_ok
  same-record r z e f o = rw (e, f) o

  module _ (b : Book) (h : Held) (tr : Tracks b h) where
    abbrev r : JournalRecord
    r = h.record

    abbrev L : Pairs
    L = live h.storage

    -- an accepted round
    round-done : (letters : ℕ) (t : List ℕ) (a : RoundAnswer) → refusal x (length b.rounds) b.shut (round letters) ≡ none
        → RoundDone x h.storage t r (members letters) a
        → Follows b (round letters) (verdicts (verdict_list a.verdicts (outputs_of bs))) (held t a.record)
    unfolding counted
    round-done letters t a q d =
        let m : LetterSet = members letters in
        let S : Pairs = next_set x L r.rounds (reached h.storage) (on_letter x m) in
        let reach : Reaches x L tr.lives (on_letters x (b.rounds ++ m ∷ [])) S =
        rw (map_snoc (on_letter x) b.rounds m)
        (next-reaches x L tr.lives (on_letters x b.rounds) (reached h.storage) r.rounds (on_letter x m)
        (tr.matches.rounds ∙ sym (length-map b.rounds (on_letter x))) tr.reaches) in
        let same : (a : ℕ) (c : Option ℕ) → a < w → Within w c → reached t a c ≡ S a c =
        λ a c ha hc. d.steps a c (omega (arith, w-small)) (wider w 256 w-small c hc) ∙ reached-below w S (reached h.storage a c) a c ha hc in
        let kept : (a : ℕ) (c : Option ℕ) → a < w → Within w c → live t a c ≡ L a c =
        λ a c ha hc. stored_eq h.storage t live_at live_at a c (omega (arith, w-small)) (wider w 256 w-small c hc) (λ k l. d.same_live (0 + k) (omega arith)) in
        let lives' : Represents w (live t) (Live x) = represents_as w L (live t) (Live x) kept tr.lives in
        let few : r.rounds < max_rounds = omega (arith, rounds-left x (length b.rounds) b.shut letters q, tr.matches.rounds) in
        record {
          book = record { rounds = b.rounds ++ m ∷ []; told = verdict_list a.verdicts (outputs_of bs) ∷ b.told; shut = b.shut };
          step = accept q
              (each-verdict n (outputs_of bs) (λ k. pairs_verdict w S (output x k)) a.verdicts (RoundVerdict x (b.rounds ++ m ∷ [])) same-outputs few-outputs d.verdicts
              (round-right x L tr.lives b.rounds m S reach));
          tracks = record {
            matches = record {
              rounds = d.rounds ∙ omega (arith, tr.matches.rounds, length_snoc b.rounds m);
              shut = d.closed ∙ tr.matches.shut;
              counts = λ k v l.
                  d.counts.each k v l
                  ∙ ap₂ ◌+◌ (counted_as n (outputs_of bs) a.verdicts k v same-outputs few-outputs d.verdicts.size l) (tr.matches.counts k v l);
            };
            size = d.counts.size;
            lent = omega (arith, d.kept.same_length, tr.lent);
            right = record_more n r a.record a.verdicts (record_is n r tr.right) few d.rounds d.counts;
            lives = lives';
            reaches = reaches-as L (live t) tr.lives lives' (on_letters x (b.rounds ++ m ∷ [])) S (reached t) same reach;
          };
        }

    -- an accepted closing
    closing-done : (a : ClosingAnswer) → refusal x (length b.rounds) b.shut closing ≡ none → ClosingDone x h.storage r a
        → Follows b closing (closed (verdict_list a.verdicts (outputs_of bs)) (take (outputs_of bs) a.shares)) (held h.storage a.record)
    closing-done a q d =
        record {
          book = record { rounds = b.rounds; told = b.told; shut = true };
          step = close q
              (each-verdict n (outputs_of bs) (λ k. ends_verdict w (reached h.storage) (output x k)) a.verdicts (ClosingVerdict x b.rounds) same-outputs few-outputs d.verdicts
              (closing-right x L tr.lives b.rounds (reached h.storage) b.shut q tr.reaches))
              (record {
                size = length-take-le (outputs_of bs) a.shares (omega (arith, d.shares.size, same-outputs, few-outputs)) ∙ sym same-outputs;
                right = λ k y e.
                    let g = shares_at a.shares (outputs_of bs) k y e in
                    let l : k < n = omega (arith, g.0, same-outputs) in
                    g.1 ∙ d.shares.each k l ∙ ap₂ share (tr.matches.counts k True l) tr.matches.rounds;
              });
          tracks = record {
            matches = record {
              rounds = d.rounds ∙ tr.matches.rounds;
              shut = d.closed;
              counts = λ k v l. ap (λ (z : List ℕ). count_at z k v) d.counts ∙ tr.matches.counts k v l;
            };
            size = ap length d.counts ∙ tr.size;
            lent = tr.lent;
            right = same-record r a.record d.rounds d.counts tr.right;
            lives = tr.lives;
            reaches = tr.reaches;
          };
        }

    -- a refused call: what is held is as before
    refused-call : (c : Call) (e : Refusal) (k : Held) → k ≡ h → refusal x (length b.rounds) b.shut c ≡ some e → Follows b c (refused e) k
    refused-call c e k q f = record { book = b; step = refuse f; tracks = subst (Tracks b) (sym q) tr }

    abbrev ask : Call → Option Refusal
    ask c = refusal x r.rounds r.closed c

    asked : (c : Call) → ask c ≡ refusal x (length b.rounds) b.shut c
    asked c = ap₂ (λ (t : ℕ) (s : Bool). refusal x t s c) tr.matches.rounds tr.matches.shut

    round-call : (letters : ℕ) (t : List ℕ) (a : RoundAnswer) → RoundCall bs h.storage t r letters a
        → Follows b (round letters) (round_says (outputs_of bs) a a.outcome) (held t a.record)
    round-call letters t a z =
        go a.outcome z.result
        (decided_once (round_checks bs (length h.storage) r letters) a.outcome (outcome_by (ask (round letters))) z.decided
        (round-decided bs x ok (length h.storage) r tr.lent tr.right letters))
      where
        go : (o : Outcome) → Rounds bs h.storage t r letters a o → o ≡ outcome_by (ask (round letters))
            → Follows b (round letters) (round_says (outputs_of bs) a o) (held t a.record)
        go (Ok _) z e =
            round-done letters t a (sym (asked (round letters)) ∙ by_accepted (ask (round letters)) e)
            (subst (λ (y : RuleSheet). RoundDone y h.storage t r (members letters) a) (same-sheet z.0 z.1) z.2)
        go (Err q) z e =
            refused-call (round letters) q (held t a.record) (λ i. held (z.0 i) (z.1 i))
            (sym (asked (round letters)) ∙ by_refused (ask (round letters)) q e)

    closing-call : (a : ClosingAnswer) → CloseCall bs h.storage r a
        → Follows b closing (closing_says (outputs_of bs) a a.outcome) (held h.storage a.record)
    closing-call a z =
        go a.outcome z.result
        (decided_once (closing_checks bs (length h.storage) r) a.outcome (outcome_by (ask closing)) z.decided
        (closing-decided bs x ok (length h.storage) r tr.lent tr.right))
      where
        go : (o : Outcome) → Closes bs h.storage r a o → o ≡ outcome_by (ask closing)
            → Follows b closing (closing_says (outputs_of bs) a o) (held h.storage a.record)
        go (Ok _) z e =
            closing-done a (sym (asked closing) ∙ by_accepted (ask closing) e)
            (subst (λ (y : RuleSheet). ClosingDone y h.storage r a) (same-sheet z.0 z.1) z.2)
        go (Err q) z e =
            refused-call closing q (held h.storage a.record) (λ i. held h.storage (z.0 i))
            (sym (asked closing) ∙ by_refused (ask closing) q e)

  -- one call, and every list of them
  pub one-call : (b : Book) (h k : Held) (c : Call) (a : Answer) → Tracks b h → SessionStep bs h c a k → Follows b c a k
  one-call b h k c a tr (a_round {letters = letters} {t = t} z d) = round-call b h tr letters t z d
  one-call b h k c a tr (a_closing z d) = closing-call b h tr z d

  pub all-calls : (b : Book) (h k : Held) (cs : List Call) (as' : List Answer) → Tracks b h → Session bs h cs as' k → Runs b cs as' k
  all-calls b h k cs as' tr finish = record { book = b; run = book.finish; tracks = tr }
  all-calls b h k cs as' tr (next {h₁ = m} {c = c} {a = a} {cs = ds} {as' = bs'} s rest) =
      let y : Follows b c a m = one-call b h m c a tr s in
      let z : Runs y.book ds bs' k = all-calls y.book m k ds bs' y.tracks rest in
      record { book = z.book; run = book.next y.step z.run; tracks = z.tracks }

  -- a fresh record is right
  fresh-sum : (counts : List ℕ) (k : ℕ) → counts ≡ replicate 28 0 → sum_at counts k ≡ 0
  fresh-sum counts k e = rw e (omega (arith, zeros 28 (4 * k + 0), zeros 28 (4 * k + 1), zeros 28 (4 * k + 2), zeros 28 (4 * k + 3)))

  fresh-add : (counts : List ℕ) (m : ℕ) → counts ≡ replicate 28 0 → add_up counts 0 m ≡ true
  unfolding add_up
  fresh-add counts zero e = refl
  fresh-add counts (suc m) e = rw (fresh-sum counts m e) (fresh-add counts m e)

  fresh_ok : (r : JournalRecord) → Fresh r → record_ok n r ≡ true
  unfolding record_ok
  fresh_ok r f = rw f.rounds (fresh-add r.counts n f.counts)

  pub prepared-tracks : (s t : List ℕ) (p : PrepareAnswer) → storage_words ≤ length s → Prepared x s t p → Tracks empty_book (held t p.record)
  unfolding counted
  prepared-tracks s t p l d = record {
    matches = record {
      rounds = d.fresh.rounds;
      shut = d.fresh.closed;
      counts = λ k v h. ap (λ (z : List ℕ). count_at z k v) d.fresh.counts ∙ zeros 28 (4 * k + _);
    };
    size = ap length d.fresh.counts;
    lent = omega (arith, d.kept.same_length);
    right = fresh_ok p.record d.fresh;
    lives = λ b c hb hc. d.lives b c (omega (arith, w-small)) (wider w 256 w-small c hc);
    reaches = tt;
  }
