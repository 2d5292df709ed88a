-- For the contracts of inner functions: a call of the system, as the history has it.
use Rattle.std.specs.Prelude.{◌≡◌, Option, None, Some, Bool, true, false, cond, List, [], ℕ, ◌+◌, ◌≤◌, ◌<◌, ltb, length, take, drop, ℤ, pos, negsuc, Result, Ok, Err}
use Rattle.std.specs.Option.{unwrap_or}
use Rattle.std.specs.IoError.{raw_os_error}
use Rattle.std.specs.declared.io.Error.{Error}
use Rattle.dialogue.specs.History.{Event, replied, came, went, again, Ends, FirstBytes}
use Rattle.dialogue.specs.Talks.{Talks, Steps}
use Rattle.dialogue.specs.declared.Dialogue.{Dialogue}
use Rattle.dialogue.specs.declared.End.{End}
use Rattle.dialogue.specs.declared.Reply.{Reply}
use Rattle.dialogue.specs.declared.Reply.TheVariants.{Moved, Interrupted, NotReady, Failed}
use Rattle.journal.specs.declared.Ended.{Ended}
use Rattle.journal.specs.declared.LoadError.{LoadError}
use Rattle.journal.specs.declared.Turned.{Turned}

-- a call moved no more than there was room for, or than there was
abbrev pub MovesAtMost : Reply → ℕ → Type 0
MovesAtMost (Moved n) most = n ≤ most
MovesAtMost Interrupted most = Unit {0}
MovesAtMost NotReady most = Unit {0}
MovesAtMost Failed most = Unit {0}

-- the number of an error, or 0 where it has none
abbrev pub error_number : Error → ℤ
error_number e = unwrap_or (raw_os_error e) (pos 0)

-- std's answer to a read or a write, as a reply
abbrev pub Answers : Result ℕ Error → Reply → Type 0
Answers (Ok n) r = r ≡ Moved n
Answers (Err e) r = r ≡ replied (negsuc 0) (error_number e)

-- nothing happened
abbrev pub Kept : Dialogue → List ℕ → List ℕ → Dialogue → List ℕ → List ℕ → Type 0
Kept d t out d₁ t₁ out₁ = (sheet : List ℕ) (h : List Event) → Talks sheet d t out h → Talks sheet d₁ t₁ out₁ h

-- by what the system said to a write of what is pending
abbrev pub Wrote : Dialogue → List ℕ → Reply → Dialogue → Type 0
Wrote d out (Moved n) d₁ = (t : List ℕ) → Steps d t out (went (take n (drop d.from out))) d₁ t out
Wrote d out Interrupted d₁ = (t : List ℕ) → Steps d t out again d₁ t out
Wrote d out NotReady d₁ = (t : List ℕ) → Steps d t out again d₁ t out
Wrote d out Failed d₁ = (t : List ℕ) → Kept d t out d₁ t out

-- by what the system said to a read that left the bytes `buf`
abbrev pub Read : Dialogue → List ℕ → List ℕ → List ℕ → Reply → Dialogue → List ℕ → List ℕ → Type 0
Read d t out buf (Moved n) d₁ t₁ out₁ = Steps d t out (came (take n buf)) d₁ t₁ out₁
Read d t out buf Interrupted d₁ t₁ out₁ = Steps d t out again d₁ t₁ out₁
Read d t out buf NotReady d₁ t₁ out₁ = Steps d t out again d₁ t₁ out₁
Read d t out buf Failed d₁ t₁ out₁ = Kept d t out d₁ t₁ out₁

abbrev pub goes_on : Reply → Bool
goes_on (Moved n) = true
goes_on Interrupted = true
goes_on NotReady = true
goes_on Failed = false

-- the event of a turn: of the bytes that are pending a write took the first ones, or, if none are, a read left the first ones in `buf`
abbrev pub event_of : Dialogue → List ℕ → List ℕ → Reply → Event
event_of d out buf (Moved n) = cond (ltb d.from d.to) (went (take n (drop d.from out))) (came (take n buf))
event_of d out buf Interrupted = again
event_of d out buf NotReady = again
event_of d out buf Failed = again

-- how a run ends where a call went well, or didn't
abbrev pub end_of : Bool → End → Option End
end_of true end = None
end_of false end = Some end

-- a turn, and how it ends, unless it goes on: by its event, or to the end
abbrev pub Goes : Dialogue → List ℕ → List ℕ → List ℕ → Turned → Dialogue → List ℕ → List ℕ → Option End → Type 0
Goes d t out buf r d₁ t₁ out₁ None = Steps d t out (event_of d out buf r.reply) d₁ t₁ out₁
Goes d t out buf r d₁ t₁ out₁ (Some end) = (sheet : List ℕ) (h : List Event) → Talks sheet d t out h → Talks sheet d₁ t₁ out₁ h × Ends sheet h end

-- from the first call to the end: as many events as calls, which lead to where the talk, the storage and the buffer stand at the end
abbrev pub Serves : Dialogue → List ℕ → List ℕ → Ended → List ℕ → List ℕ → Type 0
Serves d t out r t₁ out₁ =
    (sheet : List ℕ) → Talks sheet d t out [] → (h : List Event) × (length h ≡ r.calls) × Talks sheet r.dialogue t₁ out₁ h × Ends sheet h r.end

-- ---- the sheet's file

-- a read behind the first n bytes left those alone, and moved no more than fits
abbrev pub Added : List ℕ → ℕ → List ℕ → Reply → Type 0
Added bytes n bytes₁ r = (take n bytes₁ ≡ take n bytes) × ((k : ℕ) → r ≡ Moved k → n + k ≤ length bytes₁)

-- What was made of the file. It gave n bytes: if there was room for more, the last read said that it was at its end.
abbrev pub Gave : Result ℕ LoadError → Reply → List ℕ → ℕ → Type 0
Gave (Ok n) r bytes calls = (n ≤ length bytes) × (n < length bytes → r ≡ Moved 0) × FirstBytes (length bytes) (take n bytes) calls
Gave (Err e) r bytes calls = Unit {0}
