-- Lists of calls after one accepted preparation (01, "Completions and verdicts"): each call is handed the record and the storage that
-- the call before left.
-- Manual: "Completions and verdicts".
use Rattle.std.specs.Prelude.{◌≡◌, List, [], ◌∷◌, ℕ, ◌<◌, length, take, Ok, Err}
use Rattle.outcomes.specs.Numbers.{verdict_list}
use Rattle.outcomes.specs.Outcome.{Outcome}
use Rattle.outcomes.specs.declared.Verdict.{Verdict}
use Rattle.sheet.specs.RuleSheet.{RuleSheet, outputs}
use Rattle.sheet.specs.ReadingChecks.{outputs_of}
use Rattle.record.specs.Record.{count_at}
use Rattle.record.specs.declared.JournalRecord.{JournalRecord}
use Rattle.effects.specs.declared.RoundAnswer.{RoundAnswer}
use Rattle.effects.specs.declared.ClosingAnswer.{ClosingAnswer}
use Rattle.monitor.specs.Entries.{RoundCall, CloseCall}
use Rattle.claims.specs.Book.{Call, round, closing, Answer, refused, verdicts, closed, Book, counted}

-- what a caller holds between two calls
pub record Held : Type 0 where
  pub storage : List ℕ
  pub «record» : JournalRecord

abbrev pub held : List ℕ → JournalRecord → Held
held t r = record { storage = t; «record» = r }

-- an entry's answer in the book's words; n is the number of outputs
abbrev pub round_says : ℕ → RoundAnswer → Outcome → Answer
round_says n a (Ok _) = verdicts (verdict_list a.verdicts n)
round_says n a (Err r) = refused r

abbrev pub closing_says : ℕ → ClosingAnswer → Outcome → Answer
closing_says n a (Ok _) = closed (verdict_list a.verdicts n) (take n a.shares)
closing_says n a (Err r) = refused r

-- one call with the sheet bs: what is held before, the call, its answer, what is held after
pub data SessionStep (bs : List ℕ) (h : Held) : Call → Answer → Held → Type 0 where
  a_round : {letters : ℕ} {t : List ℕ} (a : RoundAnswer) → RoundCall bs h.storage t h.record letters a
      → SessionStep bs h (round letters) (round_says (outputs_of bs) a a.outcome) (held t a.record)
  a_closing : (a : ClosingAnswer) → CloseCall bs h.storage h.record a
      → SessionStep bs h closing (closing_says (outputs_of bs) a a.outcome) (held h.storage a.record)

-- a list of calls
pub data Session (bs : List ℕ) : Held → List Call → List Answer → Held → Type 0 where
  finish : {h : Held} → Session bs h [] [] h
  next : {h h₁ h₂ : Held} {c : Call} {a : Answer} {cs : List Call} {as' : List Answer} → SessionStep bs h c a h₁ → Session bs h₁ cs as' h₂ → Session bs h (c ∷ cs) (a ∷ as') h₂

-- the record is the book's: rounds, closed or not, and the counts of each output
pub record Matches (x : RuleSheet) (b : Book) (r : JournalRecord) : Type 0 where
  pub rounds : r.rounds ≡ length b.rounds
  pub shut : r.closed ≡ b.shut
  pub counts : (k : ℕ) (v : Verdict) → k < outputs x → count_at r.counts k v ≡ counted b.told k v
