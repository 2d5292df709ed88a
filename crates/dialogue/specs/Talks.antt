-- For the contracts of inner functions: where the program's talk with the system stands.
use Rattle.std.specs.Prelude.{◌≡◌, Option, None, Some, IfSome, true, false, List, [], ◌∷◌, ◌++◌, ℕ, ◌-◌, ◌≤◌, length, take, drop}
use Rattle.line_scan.specs.Scan.{InTable}
use Rattle.line_end.specs.Printed.{Printed}
use Rattle.protocol.specs.Machine.{Stands}
use Rattle.protocol.specs.declared.Started.{Started}
use Rattle.dialogue.specs.History.{Event, went, all_came, all_went, at_end, answerable, Prompt}
use Rattle.dialogue.specs.declared.Dialogue.{Dialogue}

-- the bytes of the buffer that are still to be written
abbrev pub pending : Dialogue → List ℕ → List ℕ
pending d out = take (d.to - d.from) (drop d.from out)

-- more of the input is wanted, or what is written is settled
pub record Listens (sheet : List ℕ) (r : Started) (d : Dialogue) (t out : List ℕ) (h : List Event) : Type 0 where
  pub unended : at_end h ≡ false
  pub stands : Stands sheet r.sheet.sheet (Some r.state) t (all_came h) (all_went h ++ pending d out)

pub record Settled (sheet : List ℕ) (d : Dialogue) (out : List ℕ) (h : List Event) : Type 0 where
  pub whole : Printed sheet (answerable h) (all_went h ++ pending d out)
  pub whatever : (rest : List ℕ) → (at_end h ≡ true → rest ≡ []) → Printed sheet (all_came h ++ rest) (all_went h ++ pending d out)

abbrev pub Stage : List ℕ → Dialogue → List ℕ → List ℕ → List Event → Option Started → Type 0
Stage sheet d t out h None = Settled sheet d out h
Stage sheet d t out h (Some r) = Listens sheet r d t out h

-- after these calls, with the storage t and the buffer `out`
pub record Talks (sheet : List ℕ) (d : Dialogue) (t out : List ℕ) (h : List Event) : Type 0 where
  pub prompt : Prompt sheet h
  pub stage : Stage sheet d t out h d.run

-- by a call: wherever the talk stood, this is one more event
abbrev pub Steps : Dialogue → List ℕ → List ℕ → Event → Dialogue → List ℕ → List ℕ → Type 0
Steps d t out e d₁ t₁ out₁ = (sheet : List ℕ) (h : List Event) → Talks sheet d t out h → Talks sheet d₁ t₁ out₁ (e ∷ h)

-- a write took the next n bytes, of whatever the buffer holds
abbrev pub Told : Dialogue → ℕ → Dialogue → Type 0
Told d n d₁ = (t out : List ℕ) → Steps d t out (went (take n (drop d.from out))) d₁ t out

-- what is kept of the line of a talk that wants more lies in the table
abbrev pub Wants : Dialogue → Type 0
Wants d = IfSome d.run (λ r. InTable r.state.pending)

-- what is pending lies in the buffer
abbrev pub Within : Dialogue → List ℕ → Type 0
Within d out = (d.from ≤ d.to) × (d.to ≤ length out)
