-- Theorems on the journal program as types: whatever chunks its input arrives in, what it writes is what 01, "The journal program", says
-- of the whole input, and that leaves nothing open. The chunks are fed as the contracts of `start`, `feed` and `finish` have it.
-- Manual: "The program".
use Rattle.std.specs.Prelude.{◌≡◌, Option, None, Some, Ok, Err, ℕ, take}
use mathlib.Core.List.{List, [], ◌∷◌, ◌++◌, flatten}
use Rattle.sheet.specs.declared.Sheet.{Sheet}
use Rattle.line_scan.specs.Lines.{whole_lines}
use Rattle.line_end.specs.Printed.{Printed}
use Rattle.protocol.specs.Machine.{Begun, Goes, Finishes}
use Rattle.protocol.specs.declared.Progress.{Progress}
use Rattle.protocol.specs.declared.Started.{Started}

-- From where a run stands, with its storage: the chunks that are left, and what is written for them. Each is fed, and after the last one the
-- run is finished; a run that is over may leave the others unread.
pub data Rest (x : Sheet) : Option Progress → List ℕ → List (List ℕ) → List ℕ → Type 0 where
  finished : {s : Option Progress} {t text : List ℕ} → Finishes x s t text → Rest x s t [] text
  fed : {s s₁ : Option Progress} {t t₁ chunk text others : List ℕ} {chunks : List (List ℕ)} → Goes x s t chunk s₁ t₁ text → Rest x s₁ t₁ chunks others → Rest x s t (chunk ∷ chunks) (text ++ others)
  stopped : {s : Option Progress} {t : List ℕ} {chunks : List (List ℕ)} → s ≡ None → Rest x s t chunks []

-- a whole run: the sheet's bytes, the chunks of the input, and what is written
pub data Run (sheet : List ℕ) : List (List ℕ) → List ℕ → Type 0 where
  turned_down : (at : ℕ) (t out : List ℕ) {chunks : List (List ℕ)} → Begun sheet (Err at) t out → Run sheet chunks (take at out)
  taken : (r : Started) (t out : List ℕ) {text : List ℕ} {chunks : List (List ℕ)} → Begun sheet (Ok r) t out → Rest r.sheet.sheet (Some r.state) t chunks text → Run sheet chunks text

-- however the input is cut
abbrev pub AnyChunks : Type 0
AnyChunks = (sheet : List ℕ) (chunks : List (List ℕ)) (text : List ℕ) → Run sheet chunks text → Printed sheet (flatten chunks) text

-- what is written for the whole lines of an input is a beginning of what is written for all of it, however it goes on
abbrev pub Beginning : Type 0
Beginning = (sheet input rest t u : List ℕ) → Printed sheet (whole_lines input) t → Printed sheet (input ++ rest) u → (v : List ℕ) × (u ≡ t ++ v)

-- no two texts fit a sheet and an input
abbrev pub OneText : Type 0
OneText = (sheet input t u : List ℕ) → Printed sheet input t → Printed sheet input u → t ≡ u
