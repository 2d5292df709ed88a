-- For the contracts of inner functions: where a run of the program stands.
use Rattle.std.specs.Prelude.{Option, None, Some, Result, Ok, Err, List, [], ◌++◌, ℕ, take}
use Rattle.sheet.specs.Reading.{rule_sheet}
use Rattle.sheet.specs.declared.Sheet.{Sheet}
use Rattle.circular.specs.SheetChecks.{AcceptedSheet}
use Rattle.claims.specs.Book.{Book}
use Rattle.claims.specs.Session.{Held, held}
use Rattle.line_scan.specs.Lines.{lines_from, whole_lines}
use Rattle.line_scan.specs.Scan.{Scanned}
use Rattle.line_scan.specs.declared.Pending.{Pending}
use Rattle.line_end.specs.Printed.{Written, Printed}
use Rattle.line_end.specs.LineEnd.{Serves}
use Rattle.protocol.specs.declared.Progress.{Progress}
use Rattle.protocol.specs.declared.Started.{Started}

-- ---- Between two bytes

-- The bytes `seen` have come and the bytes `wrote` have gone out, which is all that is written for the whole lines so far. Of the line with
-- this number the bytes `part` have come, and what the book has written for the lines from it on completes what is to be written.
pub record Midway (sheet : List ℕ) (x : Sheet) (line : ℕ) (q : Pending) (h : Held) (seen wrote : List ℕ) : Type 0 where
  pub book : Book
  pub part : List ℕ
  pub serves : Serves sheet (rule_sheet x) book h
  pub scanned : Scanned x.inputs part q
  pub whole : Printed sheet (whole_lines seen) wrote
  pub more : (rest t : List ℕ) → Written (rule_sheet x) book line (lines_from part rest) t → Printed sheet (seen ++ rest) (wrote ++ t)

-- the run is over: nothing more is written, whatever follows
pub record Over (sheet seen wrote : List ℕ) : Type 0 where
  pub whole : Printed sheet (whole_lines seen) wrote
  pub whatever : (rest : List ℕ) → Printed sheet (seen ++ rest) wrote

abbrev pub Stage : List ℕ → Sheet → Option Progress → List ℕ → List ℕ → List ℕ → Type 0
Stage sheet x None t seen wrote = Over sheet seen wrote
Stage sheet x (Some s) t seen wrote = Midway sheet x s.place.line s.pending (held t s.place.record) seen wrote

-- where a run with the storage t stands
pub record Stands (sheet : List ℕ) (x : Sheet) (s : Option Progress) (t seen wrote : List ℕ) : Type 0 where
  pub accepts : AcceptedSheet sheet x
  pub stage : Stage sheet x s t seen wrote

-- ---- What the functions give

-- the beginning: a run of a sheet that is accepted, or all that is written for one that is refused, whatever the input
abbrev pub Begun : List ℕ → Result Started ℕ → List ℕ → List ℕ → Type 0
Begun sheet (Ok r) t out = Stands sheet r.sheet.sheet (Some r.state) t [] []
Begun sheet (Err at) t out = (input : List ℕ) → Printed sheet input (take at out)

-- a chunk: from wherever the run stood it goes on by the chunk and by what was written
abbrev pub Goes : Sheet → Option Progress → List ℕ → List ℕ → Option Progress → List ℕ → List ℕ → Type 0
Goes x s t chunk s₁ t₁ text = (sheet seen wrote : List ℕ) → Stands sheet x s t seen wrote → Stands sheet x s₁ t₁ (seen ++ chunk) (wrote ++ text)

-- the end of the input
abbrev pub Finishes : Sheet → Option Progress → List ℕ → List ℕ → Type 0
Finishes x s t text = (sheet seen wrote : List ℕ) → Stands sheet x s t seen wrote → Printed sheet seen (wrote ++ text)
