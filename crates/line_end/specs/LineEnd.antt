-- For the contracts of inner functions: what the end of a line does.
use Rattle.std.specs.Prelude.{Option, None, Some, Bool, cond, List, ◌∷◌, ◌++◌, ℕ}
use Rattle.buffer.specs.Wrote.{Wrote}
use Rattle.sheet.specs.RuleSheet.{RuleSheet}
use Rattle.claims.specs.Book.{Call, Answer, Book, BookStep, BookRun}
use Rattle.claims.specs.Session.{Held, held, Session, Matches}
use Rattle.line_end.specs.Printed.{Written}
use Rattle.line_end.specs.declared.Place.{Place}
use Rattle.line_end.specs.declared.Ended.{Ended}

-- from what is held on, every list of calls is answered as the book b answers it
abbrev pub Serves : List ℕ → RuleSheet → Book → Held → Type 0
Serves sheet x b h = (cs : List Call) (as' : List Answer) (k : Held) → Session sheet h cs as' k → (d : Book) × BookRun x b cs as' d × Matches x d k.record

-- a call with the book b, its answer, and what is held after it
pub record Answered (sheet : List ℕ) (x : RuleSheet) (b : Book) (c : Call) (a : Answer) (h : Held) : Type 0 where
  pub book : Book
  pub step : BookStep x b c a book
  pub serves : Serves sheet x book h

-- ---- The end of a line

-- The run is over, whatever lines come after this one; or it goes on with the line of number `next`.
pub record Onward (sheet : List ℕ) (x : RuleSheet) (b : Book) (line : ℕ) (part text : List ℕ) (next : ℕ) (h : Held) : Type 0 where
  pub book : Book
  pub serves : Serves sheet x book h
  pub onward : (ls : List (List ℕ)) (t : List ℕ) → Written x book next ls t → Written x b line (part ∷ ls) (text ++ t)

abbrev pub Ends : List ℕ → RuleSheet → Book → ℕ → List ℕ → List ℕ → List ℕ → Option Place → Type 0
Ends sheet x b line part text t None = (ls : List (List ℕ)) → Written x b line (part ∷ ls) text
Ends sheet x b line part text t (Some p) = Onward sheet x b line part text p.line (held t p.record)

-- The line `part` with the number `line` ended, with the book b: what went into the buffer d from `at` on, which is e after that, and how it
-- goes on with the storage t.
pub record LineEnded (sheet : List ℕ) (x : RuleSheet) (b : Book) (line : ℕ) (part d : List ℕ) (at : ℕ) (e t : List ℕ) (r : Ended) : Type 0 where
  pub text : List ℕ
  pub wrote : Wrote d at text e r.at
  pub ends : Ends sheet x b line part text t r.next

-- Bytes of output that a run may still ask for beyond 8 for each byte of input: a closing, which comes once, and a refusal, which comes last.
abbrev pub most_bytes : Bool → ℕ
most_bytes closed = cond closed 40 462

abbrev pub due : Option Place → ℕ
due None = 0
due (Some p) = most_bytes p.record.closed
