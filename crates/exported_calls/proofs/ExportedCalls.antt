-- A list of exported calls is a list of calls with the record that their numbers hold, so the third demand speaks of it, and so does what is said of
-- questions after any list of calls.
use mathlib.Core.Path.{◌≡◌, refl, sym, ap, ◌∙◌, subst}
use mathlib.Core.Bool.{Bool, true, false, ◌&&◌, and-false}
use mathlib.Core.List.{List, [], ◌∷◌}
use Prim.Native.Nat.{ℕ, ◌+◌, ◌≤◌, ◌<◌}
use native.Mathlib.Omega.{arith}
use lib.Dec.{eqb}
use lib.ListN.{length, take, drop, length-replicate}
use lib.Seq.{paste}
use borrow.Author.Tests.{lt-leb}
use Rattle.outcomes.specs.Numbers.{outcome_no, verdict_no}
use Rattle.outcomes.specs.Outcome.{Outcome, unbroken}
use Rattle.std.specs.Prelude.{Ok, Err}
use Rattle.sheet.specs.RuleSheet.{RuleSheet, outputs, accepted, read_sheet}
use Rattle.sheet.specs.ReadingChecks.{outputs_of}
use Rattle.sheet.proofs.Formed.{counts_of}
use Rattle.circular.specs.SheetChecks.{OfSheet}
use Rattle.record.specs.declared.JournalRecord.{JournalRecord}
use Rattle.slices.specs.Slices.{record_of, marked, numbers_of, verdict_numbers, sized}
use Rattle.slices.proofs.SliceLaws.{right-sizes, numbers-size}
use Rattle.completions.specs.Together.{named, TogetherVerdict}
use Rattle.effects.specs.Results.{Prepared}
use Rattle.effects.specs.declared.PrepareAnswer.{PrepareAnswer}
use Rattle.effects.specs.declared.RoundAnswer.{RoundAnswer}
use Rattle.effects.specs.declared.ClosingAnswer.{ClosingAnswer}
use Rattle.monitor.specs.Entries.{Prepares, PrepareCall, Rounds, Closes}
use Rattle.queries.specs.Together.{TogetherCall}
use Rattle.queries.specs.declared.TogetherAnswer.{TogetherAnswer}
use Rattle.claims.specs.Book.{Call, round, closing, Answer, Book}
use Rattle.claims.specs.Session.{Held, held, round_says, closing_says, SessionStep, a_round, a_closing, Session}
use Rattle.claims.specs.Session as session
use Rattle.claims.specs.Queries.{TogetherRight}
use Rattle.claims.proofs.ThirdDemand.{third_demand}
use Rattle.claims.proofs.Queries.{together-answered}
use Rattle.jigwaret.specs.Journal.{Slices, SlicesAfter, MarkRefused, ByMark, BySizes, PreparationNumbered, RoundNumbered, ClosingNumbered, TogetherNumbered, PreparedAs}
use Rattle.jigwaret.proofs.JournalLaws.{few-outputs}
use Rattle.exported_calls.specs.Calls.{HeldSlices, Reply, slices_of, ExportedStep, ExportedRun, finish, next, unanswered, Shows, AllShow, empty, more, ExportedCalls}
use Rattle.exported_calls.specs.Queries.{AskedTogether, TogetherReply, TogetherShown, ExportedTogether}
use Rattle.outcomes.proofs.NumberLaws.{refusal_range}
use Rattle.exported_calls.proofs.ReplyLaws.{zero-accepted, record_back, mark_right, numbers-all, front-first, front_rest, both_first, both-second, both_rest}

-- ---- sizes

done : (D : Type 0) (s t : List ℕ) (z : Slices) (r : ℕ) → length z.rec ≡ 30 → 16 ≤ length z.ans → BySizes (sized z.rec z.ans) D s t z r → D
done D s t z r e h d = subst (λ (b : Bool). BySizes b D s t z r) (right-sizes z.rec z.ans e h) d

-- an answer slice that is too short
too_small : (D : Type 0) (s t : List ℕ) (z : Slices) (r : ℕ) → length z.ans < 16 → BySizes (sized z.rec z.ans) D s t z r → BySizes false D s t z r
too_small D s t z r h d =
    subst (λ (b : Bool). BySizes b D s t z r) (ap (λ (b : Bool). eqb (length z.rec) 30 && b) (lt-leb 16 (length z.ans) h) ∙ and-false (eqb (length z.rec) 30)) d

right_mark : (D W : Type 0) (ns : List ℕ) → marked ns ≡ true → ByMark (marked ns) D W → D
right_mark D W ns e d = subst (λ (b : Bool). ByMark b D W) e d

-- the numbers are those of a record with its 28 counts
record Stands (ns : List ℕ) : Type 0 where
  rec : JournalRecord
  same : ns ≡ numbers_of rec
  counts : length rec.counts ≡ 28

stands-length : (ns : List ℕ) → Stands ns → length ns ≡ 30
stands-length ns w = ap length w.same ∙ omega (arith, w.counts)

stands_mark : (ns : List ℕ) → Stands ns → marked ns ≡ true
stands_mark ns w = ap marked w.same ∙ mark_right w.rec

stands_record : (ns : List ℕ) → Stands ns → ns ≡ numbers_of (record_of ns)
stands_record ns w = w.same ∙ ap numbers_of (sym (ap record_of w.same ∙ record_back w.rec))

-- the struct that a caller of `monitor` would hold
abbrev as_held : HeldSlices → Held
as_held h = held h.storage (record_of h.numbers)

-- an exported call as a call with a record
record Answered (bs : List ℕ) (h : HeldSlices) (c : Call) (y : Reply) (k : HeldSlices) : Type 0 where
  answer : Answer
  step : SessionStep bs (as_held h) c answer (as_held k)
  shown : Shows (outputs_of bs) answer y
  stands : Stands k.numbers

-- the slice holds the record q
record Holds (ns : List ℕ) (q : JournalRecord) : Type 0 where
  same : record_of ns ≡ q
  stands : Stands ns

holds : (ns : List ℕ) (q : JournalRecord) → ns ≡ numbers_of q → length q.counts ≡ 28 → Holds ns q
holds ns q e f = record { same = ap record_of e ∙ record_back q; stands = record { rec = q; same = e; counts = f } }

still_holds : (ns ms : List ℕ) (q : JournalRecord) → ms ≡ ns → q ≡ record_of ns → Stands ns → Holds ms q
still_holds ns ms q e f w = record { same = ap record_of e ∙ sym f; stands = subst Stands (sym e) w }

-- ---- one call

module _ (bs : List ℕ) (h k : HeldSlices) (y : Reply) (w : Stands h.numbers) (large : 16 ≤ length y.before) where
  abbrev n : ℕ
  n = outputs_of bs

  -- a round
  module _ (letters : ℕ) (a : RoundAnswer) where
    abbrev Rounded : Outcome → Type 0
    Rounded o = Rounds bs h.storage k.storage (record_of h.numbers) letters a o

    abbrev RoundWritten : Outcome → Type 0
    RoundWritten o = SlicesAfter (numbers_of a.record) (paste y.before 0 (verdict_numbers a.verdicts n) n) (slices_of h y k) o

    round-holds : (o : Outcome) → Rounded o → RoundWritten o → Holds k.numbers a.record
    round-holds (Ok _) (x, e, d) p = holds k.numbers a.record p.0 d.counts.size
    round-holds (Err r) d p = still_holds h.numbers k.numbers a.record p.0 d.1 w

    round-shows : (o : Outcome) → Rounded o → y.number ≡ outcome_no o → RoundWritten o → Shows n (round_says n a o) y
    round-shows (Ok _) (x, e, d) r p =
        let few : n ≤ 7 = few-outputs bs (λ (u : RuleSheet). read_sheet bs ≡ accepted u) (x, e, e) in
        let seven : n ≤ length a.verdicts = omega (arith, d.verdicts.size) in
        let many : n ≤ length (verdict_numbers a.verdicts n) = omega (arith, numbers-size a.verdicts n seven) in (
          r,
          ap (take n) p.1 ∙ front-first n y.before (verdict_numbers a.verdicts n) (omega arith) many ∙ numbers-all a.verdicts n seven,
          ap (drop n) p.1 ∙ front_rest n y.before (verdict_numbers a.verdicts n) (omega arith) many,
        )
    round-shows (Err q) d r p = (r, omega (arith, (refusal_range q).0), p.1)

  -- a closing
  module _ (a : ClosingAnswer) where
    abbrev ClosedBy : Outcome → Type 0
    ClosedBy o = Closes bs h.storage (record_of h.numbers) a o

    abbrev ClosingWritten : Outcome → Type 0
    ClosingWritten o = SlicesAfter (numbers_of a.record) (paste (paste y.before 0 (verdict_numbers a.verdicts n) n) n a.shares n) (slices_of h y k) o

    closing-holds : (o : Outcome) → ClosedBy o → ClosingWritten o → Holds k.numbers a.record
    closing-holds (Ok _) (x, e, d) p =
        holds k.numbers a.record p.0 (ap length d.counts ∙ ap (λ (l : List ℕ). length (drop 2 l)) w.same ∙ w.counts)
    closing-holds (Err r) d p = still_holds h.numbers k.numbers a.record p.0 d.0 w

    closing-shows : (o : Outcome) → ClosedBy o → y.number ≡ outcome_no o → ClosingWritten o → Shows n (closing_says n a o) y
    closing-shows (Ok _) (x, e, d) r p =
        let few : n ≤ 7 = few-outputs bs (λ (u : RuleSheet). read_sheet bs ≡ accepted u) (x, e, e) in
        let room : n + n ≤ length y.before = omega arith in
        let seven : n ≤ length a.verdicts = omega (arith, d.verdicts.size) in
        let many : n ≤ length (verdict_numbers a.verdicts n) = omega (arith, numbers-size a.verdicts n seven) in
        let enough : n ≤ length a.shares = omega (arith, d.shares.size) in (
          r,
          ap (take n) p.1 ∙ both_first n y.before (verdict_numbers a.verdicts n) room many a.shares enough ∙ numbers-all a.verdicts n seven,
          ap (λ (l : List ℕ). take n (drop n l)) p.1 ∙ both-second n y.before (verdict_numbers a.verdicts n) room many a.shares enough,
          ap (drop (n + n)) p.1 ∙ both_rest n y.before (verdict_numbers a.verdicts n) room many a.shares enough,
        )
    closing-shows (Err q) d r p = (r, omega (arith, (refusal_range q).0), p.1)

  one-call : (c : Call) → ExportedStep bs h c y k → Answered bs h c y k
  one-call (round letters) d =
      let D : Type 0 = RoundNumbered bs h.storage k.storage letters (slices_of h y k) y.number in
      let W : Type 0 = MarkRefused bs h.storage k.storage (slices_of h y k) y.number in
      let v : RoundNumbered bs h.storage k.storage letters (slices_of h y k) y.number =
      right_mark D W h.numbers (stands_mark h.numbers w) (done (ByMark (marked h.numbers) D W) h.storage k.storage (slices_of h y k) y.number (stands-length h.numbers w) large d) in
      let a : RoundAnswer = v.answer in
      let q : Holds k.numbers a.record = round-holds letters a a.outcome v.result.result v.written in
      record {
        answer = round_says n a a.outcome;
        step = subst (SessionStep bs (as_held h) (round letters) (round_says n a a.outcome)) (λ i. held k.storage (sym q.same i))
            (a_round a v.result);
        shown = round-shows letters a a.outcome v.result.result v.number v.written;
        stands = q.stands;
      }
  one-call closing (e, d) =
      let D : Type 0 = ClosingNumbered bs h.storage (slices_of h y k) y.number in
      let W : Type 0 = MarkRefused bs h.storage h.storage (slices_of h y k) y.number in
      let v : ClosingNumbered bs h.storage (slices_of h y k) y.number =
      right_mark D W h.numbers (stands_mark h.numbers w) (done (ByMark (marked h.numbers) D W) h.storage h.storage (slices_of h y k) y.number (stands-length h.numbers w) large d) in
      let a : ClosingAnswer = v.answer in
      let q : Holds k.numbers a.record = closing-holds a a.outcome v.result.result v.written in
      record {
        answer = closing_says n a a.outcome;
        step = subst (SessionStep bs (as_held h) closing (closing_says n a a.outcome)) (λ i. held (sym e i) (sym q.same i))
            (a_closing a v.result);
        shown = closing-shows a a.outcome v.result.result v.number v.written;
        stands = q.stands;
      }

-- ---- a call that is not answered changes nothing

unchanged : (bs : List ℕ) (h k : HeldSlices) (c : Call) (y : Reply) → length y.before < 16 → ExportedStep bs h c y k → k ≡ h
unchanged bs h k (round letters) y l d =
    let e = too_small _ h.storage k.storage (slices_of h y k) y.number l d in
    λ i. record { storage = e.1 i; numbers = e.2 i }
unchanged bs h k closing y l (f, d) =
    let e = too_small _ h.storage h.storage (slices_of h y k) y.number l d in
    λ i. record { storage = f i; numbers = e.2 i }

-- ---- all calls

record AllAnswered (bs : List ℕ) (h : HeldSlices) (cs : List Call) (ys : List Reply) (k : HeldSlices) : Type 0 where
  answers : List Answer
  run : Session bs (as_held h) cs answers (as_held k)
  shown : AllShow (outputs_of bs) answers ys
  stands : Stands k.numbers

all-calls : (bs : List ℕ) (h k : HeldSlices) (cs : List Call) (ys : List Reply) → Stands h.numbers → ExportedRun bs h cs ys k → AllAnswered bs h cs ys k
all-calls bs h k cs ys w finish = record { answers = []; run = session.finish; shown = empty; stands = w }
all-calls bs h k cs ys w (next {h₁ = m} {c = c} {y = y} {cs = ds} {ys = zs} l d rest) =
    let q : Answered bs h c y m = one-call bs h m y w l c d in
    let r : AllAnswered bs m ds zs k = all-calls bs m k ds zs q.stands rest in
    record { answers = q.answer ∷ r.answers; run = session.next q.step r.run; shown = more q.shown r.shown; stands = r.stands }
all-calls bs h k cs ys w (unanswered {h₁ = m} c y l d rest) =
    let e : m ≡ h = unchanged bs h m c y l d in
    subst (λ (q : HeldSlices). AllAnswered bs q cs ys k) e (all-calls bs m k cs ys (subst (λ (q : HeldSlices). Stands q.numbers) (sym e) w) rest)

all_show : (bs : List ℕ) (x : RuleSheet) (as' : List Answer) (ys : List Reply) → read_sheet bs ≡ accepted x → AllShow (outputs_of bs) as' ys → AllShow (outputs x) as' ys
all_show bs x as' ys e d = subst (λ (m : ℕ). AllShow m as' ys) (sym (counts_of bs x e).1) d

-- ---- the preparation

returned_zero : (D : Type 0) (s t : List ℕ) (z : Slices) (b : Bool) → BySizes b D s t z 0 → D
returned_zero D s t z true d = d
returned_zero D s t z false d = absurd (omega (arith, d.0))

-- a preparation that returned 0 was accepted, and the record's slice holds its record
record Started (bs s t : List ℕ) (z : Slices) : Type 0 where
  answer : PrepareAnswer
  call : PrepareCall bs s t answer
  ok : answer.outcome ≡ unbroken
  holding : Holds z.rec' answer.record

started : (bs s t : List ℕ) (z : Slices) → PreparedAs bs s t z 0 → Started bs s t z
started bs s t z d =
    let v : PreparationNumbered bs s t z 0 = returned_zero (PreparationNumbered bs s t z 0) s t z (sized z.rec z.ans) d in
    let p : PrepareAnswer = v.answer in
    let ok : p.outcome ≡ unbroken = zero-accepted p.outcome v.number in
    let prepared : OfSheet bs (λ x. Prepared x s t p) = subst (Prepares bs s t p) ok v.result.result in
    let new : z.rec' ≡ numbers_of p.record = (subst (SlicesAfter (numbers_of p.record) _ z) ok v.written).0 in
    record {
      answer = p;
      call = v.result;
      ok = ok;
      holding = holds z.rec' p.record new (ap length prepared.2.fresh.counts ∙ length-replicate {A = ℕ} 28 0);
    }

module _ (bs s t : List ℕ) (z : Slices) (d : PreparedAs bs s t z 0) (cs : List Call) (ys : List Reply) (k : HeldSlices)
    (run : ExportedRun bs (record { storage = t; numbers = z.rec' }) cs ys k) where
  start : Started bs s t z
  start = started bs s t z d

  all : AllAnswered bs (record { storage = t; numbers = z.rec' }) cs ys k
  all = all-calls bs (record { storage = t; numbers = z.rec' }) k cs ys start.holding.stands run

  as-session : Session bs (held t start.answer.record) cs all.answers (as_held k)
  as-session = subst (λ (r : JournalRecord). Session bs (held t r) cs all.answers (as_held k)) start.holding.same all.run

pub exported_calls : ExportedCalls
exported_calls bs s t z d cs ys k run =
    let b = start bs s t z d cs ys k run in
    let a = all bs s t z d cs ys k run in
    let told = third_demand bs s t b.answer b.call b.ok cs a.answers (as_held k) (as-session bs s t z d cs ys k run) in (
      told.0,
      told.1,
      (
        a.answers,
        told.2.0,
        told.2.1,
        all_show bs told.0 a.answers ys told.1 a.shown,
        (stands-length k.numbers a.stands, (record_of k.numbers, stands_record k.numbers a.stands, told.2.2)),
      ),
    )

-- ---- a question about a set of outputs

module _ (bs : List ℕ) (x : RuleSheet) (b : Book) (k : HeldSlices) (w : Stands k.numbers) (set : ℕ) (y : Reply) (large : 16 ≤ length y.before) where
  reply : (a : TogetherAnswer) (o : Outcome) → (o ≡ unbroken → TogetherVerdict x b.rounds (named set) a.verdict)
      → SlicesAfter k.numbers (paste y.before 0 (verdict_no a.verdict ∷ []) 1) (slices_of k y k) o → TogetherReply x b set y o
  reply a (Ok _) v p =
      let vs : List ℕ = verdict_no a.verdict ∷ [] in
      (a.verdict, v refl, ap (take 1) p.1 ∙ front-first 1 y.before vs (omega arith) (omega arith), ap (drop 1) p.1 ∙ front_rest 1 y.before vs (omega arith) (omega arith))
  reply a (Err e) v p = p.1

  shows-together : ((a : TogetherAnswer) → TogetherCall bs k.storage (record_of k.numbers) set a → TogetherRight x b set a) → AskedTogether bs k set y → TogetherShown x b set y
  shows-together f d =
      let D : Type 0 = TogetherNumbered bs k.storage set (slices_of k y k) y.number in
      let W : Type 0 = MarkRefused bs k.storage k.storage (slices_of k y k) y.number in
      let v : TogetherNumbered bs k.storage set (slices_of k y k) y.number =
      right_mark D W k.numbers (stands_mark k.numbers w) (done (ByMark (marked k.numbers) D W) k.storage k.storage (slices_of k y k) y.number (stands-length k.numbers w) large d) in
      let a : TogetherAnswer = v.answer in
      let r : TogetherRight x b set a = f a v.result in
      record { outcome = a.outcome; decided = r.decided; number = v.number; shown = reply a a.outcome r.verdict v.written }

pub exported_together : ExportedTogether
exported_together bs s t z d cs ys k run =
    let b = start bs s t z d cs ys k run in
    let a = all bs s t z d cs ys k run in
    let told = together-answered bs s t b.answer b.call b.ok cs a.answers (as_held k) (as-session bs s t z d cs ys k run) in (
      told.0,
      told.1,
      (a.answers, told.2.0, told.2.1, λ set y l q. shows-together bs told.0 told.2.0 k a.stands set y l (told.2.2 set) q),
    )
