-- The third demand: after an accepted preparation every list of calls is answered as the book answers it.
use mathlib.Core.Path.{◌≡◌, subst}
use mathlib.Core.List.{List, [], ◌∷◌}
use Prim.Native.Nat.{ℕ}
use lib.ListN.{length}
use Rattle.outcomes.specs.Decided.{Decided}
use Rattle.outcomes.specs.Outcome.{unbroken}
use Rattle.outcomes.proofs.Decisions.{passed-both}
use Rattle.sheet.specs.RuleSheet.{RuleSheet}
use Rattle.circular.specs.SheetChecks.{sheet_checks}
use Rattle.checks.specs.JournalChecks.{too_short, prepare_checks}
use Rattle.checks.proofs.Checking.{enough}
use Rattle.effects.specs.Results.{Prepared}
use Rattle.effects.specs.declared.PrepareAnswer.{PrepareAnswer}
use Rattle.monitor.specs.Entries.{Prepares, PrepareCall}
use Rattle.claims.specs.Book.{Call, Answer, empty_book}
use Rattle.claims.specs.Session.{Held, held, Session}
use Rattle.claims.specs.Demands.{ThirdDemand}
use Rattle.claims.proofs.Refusals.{SheetOk}
use Rattle.claims.proofs.Tracks.{Tracks, Runs, all-calls, prepared-tracks}

-- what an accepted preparation shows: the sheet is accepted, and the book is tracked
pub record Began (bs t : List ℕ) (p : PrepareAnswer) : Type 0 where
  pub sheet : RuleSheet
  pub ok : SheetOk bs sheet
  pub done : (s : List ℕ) × Prepared sheet s t p
  pub tracks : Tracks bs sheet ok empty_book (held t p.record)

module _ (bs s t : List ℕ) (p : PrepareAnswer) (z : PrepareCall bs s t p) (o : p.outcome ≡ unbroken) where
  pub began : Began bs t p
  began =
      let d : Decided (prepare_checks bs (length s)) unbroken = subst (Decided (prepare_checks bs (length s))) o z.decided in
      let y = subst (Prepares bs s t p) o z.result in
      let both = passed-both (sheet_checks bs) (too_short (length s) ∷ []) d in
      let ok : SheetOk bs y.0 = record { holds = both.0; reads = y.1 } in
      record { sheet = y.0; ok = ok; done = (s, y.2); tracks = prepared-tracks bs y.0 ok s t p (enough (length s) both.1) y.2 }

  -- the book, its run and what is held, after any list of calls
  pub after-calls : (cs : List Call) (as' : List Answer) (h : Held) → Session bs (held t p.record) cs as' h → Runs bs began.sheet began.ok empty_book cs as' h
  after-calls cs as' h run = all-calls bs began.sheet began.ok empty_book (held t p.record) h cs as' began.tracks run

pub third_demand : ThirdDemand
third_demand bs s t p z o cs as' h run =
    let b = began bs s t p z o in
    let e = after-calls bs s t p z o cs as' h run in
    (b.sheet, b.ok.reads, (e.book, e.run, e.tracks.matches))
