-- What the program may have written when its calls of the system fail, are cut short or are made again: never an answer that the input does
-- not bear, and nothing due left out without a word. What it writes for a whole input is said in 01, "The journal program".
-- Manual: "When a call of the system fails".
use Rattle.std.specs.Prelude.{◌≡◌, Bool, true, false, cond, List, [], ◌∷◌, ◌++◌, ℕ, eqb, ℤ, pos, negsuc, length}
use Rattle.line_scan.specs.Lines.{whole_lines}
use Rattle.line_end.specs.Printed.{Printed}
use Rattle.dialogue.specs.declared.End.{End}
use Rattle.dialogue.specs.declared.End.TheVariants.{Whole, InputFailed, OutputFailed, Unfinished}
use Rattle.dialogue.specs.declared.Reply.{Reply}
use Rattle.dialogue.specs.declared.Reply.TheVariants.{Moved, Interrupted, NotReady, Failed}

-- What a read or a write of the system says, by the number that it returned and the error's number, which counts below 0: how many bytes it moved,
-- or that it was interrupted (EINTR, 4), not ready (EAGAIN, 11) or failed.
abbrev pub unmoved : ℤ → Reply
unmoved (pos e) = cond (eqb e 4) Interrupted (cond (eqb e 11) NotReady Failed)
unmoved (negsuc e) = Failed

abbrev pub replied : ℤ → ℤ → Reply
replied (pos n) error = Moved n
replied (negsuc n) error = unmoved error

-- A call of the system that did not fail: a read brought these bytes, none at the end of what it reads; a write took these bytes; or it moved
-- nothing, since it was interrupted or not ready, and is made again.
pub data Event : Type 0 where
  came : List ℕ → Event
  went : List ℕ → Event
  again : Event

-- Of a list of them, the latest first: the bytes that came, the bytes that went, and whether the end has come.
unfoldable pub all_came : List Event → List ℕ
all_came [] = []
all_came (came bs ∷ h) = all_came h ++ bs
all_came (went bs ∷ h) = all_came h
all_came (again ∷ h) = all_came h

unfoldable pub all_went : List Event → List ℕ
all_went [] = []
all_went (came bs ∷ h) = all_went h
all_went (went bs ∷ h) = all_went h ++ bs
all_went (again ∷ h) = all_went h

unfoldable pub at_end : List Event → Bool
at_end [] = false
at_end (came [] ∷ h) = true
at_end (came (b ∷ bs) ∷ h) = at_end h
at_end (went bs ∷ h) = at_end h
at_end (again ∷ h) = at_end h

-- For the program the bytes come from standard input and go to standard output. Those that are to be answered: all that came, once the end has
-- come, and until then the whole lines.
abbrev pub answerable : List Event → List ℕ
answerable h = cond (at_end h) (all_came h) (whole_lines (all_came h))

-- Before every read that went well, all answers that are due have gone out; none is made after the end.
pub data Prompt (sheet : List ℕ) : List Event → Type 0 where
  begun : Prompt sheet []
  reads : {h : List Event} {bs : List ℕ} → at_end h ≡ false → Printed sheet (whole_lines (all_came h)) (all_went h) → Prompt sheet h → Prompt sheet (came bs ∷ h)
  writes : {h : List Event} {bs : List ℕ} → Prompt sheet h → Prompt sheet (went bs ∷ h)
  repeats : {h : List Event} → Prompt sheet h → Prompt sheet (again ∷ h)

-- What has gone out when a run ends. Whole: what is written for the input, however it goes on if its end has not come. The input failed: what
-- is written for its whole lines. The output failed, or the run stopped: a beginning of what is due.
abbrev pub Ends : List ℕ → List Event → End → Type 0
Ends sheet h Whole = (rest : List ℕ) → (at_end h ≡ true → rest ≡ []) → Printed sheet (all_came h ++ rest) (all_went h)
Ends sheet h InputFailed = (at_end h ≡ false) × Printed sheet (whole_lines (all_came h)) (all_went h)
Ends sheet h OutputFailed = (left : List ℕ) × Printed sheet (answerable h) (all_went h ++ left)
Ends sheet h Unfinished = (left : List ℕ) × Printed sheet (answerable h) (all_went h ++ left)

-- a run for the bytes of a sheet, which made so many calls that did not fail
abbrev pub Served : List ℕ → ℕ → End → Type 0
Served sheet calls end = (h : List Event) × (length h ≡ calls) × Prompt sheet h × Ends sheet h end

-- These are the first bytes of a file, by so many reads of it: all up to its end, or, if its end has not come, as many as there is room for.
abbrev pub FirstBytes : ℕ → List ℕ → ℕ → Type 0
FirstBytes room bytes calls = (h : List Event) × (length h ≡ calls) × (all_came h ≡ bytes) × (at_end h ≡ false → length bytes ≡ room)
