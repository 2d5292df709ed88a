-- What a call's reply makes of the talk, and how far a call moved.
use mathlib.Core.Path.{◌≡◌, refl}
use mathlib.Core.List.{List}
use Prim.Native.Nat.{ℕ, ◌+◌, ◌*◌, ◌≤◌, ◌<◌}
use native.Mathlib.Omega.{arith}
use lib.ListN.{length, take, length-take}
use borrow.Author.Tests.{lt-ltb, le-ltb}
use Rattle.std.specs.Prelude.{Option, Some}
use Rattle.protocol.specs.declared.Started.{Started}
use Rattle.dialogue.specs.declared.Dialogue.{Dialogue}
use Rattle.dialogue.specs.declared.End.{End}
use Rattle.dialogue.specs.declared.End.TheVariants.{InputFailed, OutputFailed}
use Rattle.dialogue.specs.declared.Reply.{Reply}
use Rattle.dialogue.specs.declared.Reply.TheVariants.{Moved, Interrupted, NotReady, Failed}
use Rattle.dialogue.proofs.Talking.{asked-again, ends-unread, ends-unwritten}
use Rattle.journal.specs.Turns.{Wrote, Read, goes_on, end_of, Goes}

-- ---- a call that moved nothing leaves the talk where it stood

abbrev pub Unmoved : Reply → Type 0
Unmoved r = (n : ℕ) → r ≡ Moved n → ⊥

pub unmoved_write : (d : Dialogue) (out : List ℕ) (r : Reply) → Unmoved r → Wrote d out r d
unmoved_write d out (Moved n) u = absurd (u n refl)
unmoved_write d out Interrupted u = λ t sheet h talks. asked-again sheet d t out h talks
unmoved_write d out NotReady u = λ t sheet h talks. asked-again sheet d t out h talks
unmoved_write d out Failed u = λ t sheet h talks. talks

pub unmoved-read : (d : Dialogue) (t out buf : List ℕ) (r : Reply) → Unmoved r → Read d t out buf r d t out
unmoved-read d t out buf (Moved n) u = absurd (u n refl)
unmoved-read d t out buf Interrupted u = λ sheet h talks. asked-again sheet d t out h talks
unmoved-read d t out buf NotReady u = λ sheet h talks. asked-again sheet d t out h talks
unmoved-read d t out buf Failed u = λ sheet h talks. talks

-- ---- the room that is left

pub room : (n : ℕ) (buf : List ℕ) (most out : ℕ) → length buf ≡ most → 8 * most + 470 ≤ out → 8 * length (take n buf) + 470 ≤ out
room n buf most out e h = omega (arith, length-take n buf)

-- ---- a turn

pub write_turn : (d d₁ : Dialogue) (t out buf : List ℕ) (r : Reply) (o : Option End) → d.from < d.to → Wrote d out r d₁
    → Goes d t out buf (record { reply = r; end = o }) d₁ t out (end_of (goes_on r) OutputFailed)
write_turn d d₁ t out buf (Moved n) o p w = rw (lt-ltb d.from d.to p) (w t)
write_turn d d₁ t out buf Interrupted o p w = w t
write_turn d d₁ t out buf NotReady o p w = w t
write_turn d d₁ t out buf Failed o p w = λ sheet h talks. (w t sheet h talks, ends-unwritten sheet d t out h talks)

pub read_turn : (d d₁ : Dialogue) (t out t₁ out₁ buf : List ℕ) (r : Reply) (o : Option End) (run : Started) → d.run ≡ Some run → d.to ≤ d.from → Read d t out buf r d₁ t₁ out₁
    → Goes d t out buf (record { reply = r; end = o }) d₁ t₁ out₁ (end_of (goes_on r) InputFailed)
read_turn d d₁ t out t₁ out₁ buf (Moved n) o run m s w = rw (le-ltb d.from d.to s) w
read_turn d d₁ t out t₁ out₁ buf Interrupted o run m s w = w
read_turn d d₁ t out t₁ out₁ buf NotReady o run m s w = w
read_turn d d₁ t out t₁ out₁ buf Failed o run m s w = λ sheet h talks. (w sheet h talks, ends-unread sheet d t out h talks run m s)

-- ---- the same, where the end is said by an equation

pub wrote_turn : (d d₁ : Dialogue) (t out buf : List ℕ) (r : Reply) (o : Option End) → o ≡ end_of (goes_on r) OutputFailed → d.from < d.to → Wrote d out r d₁
    → Goes d t out buf (record { reply = r; end = o }) d₁ t out o
wrote_turn d d₁ t out buf r o e p w = rw e (write_turn d d₁ t out buf r (end_of (goes_on r) OutputFailed) p w)

pub heard_turn : (d d₁ : Dialogue) (t out t₁ out₁ buf : List ℕ) (r : Reply) (o : Option End) → o ≡ end_of (goes_on r) InputFailed → (run : Started) → d.run ≡ Some run → d.to ≤ d.from
    → Read d t out buf r d₁ t₁ out₁ → Goes d t out buf (record { reply = r; end = o }) d₁ t₁ out₁ o
heard_turn d d₁ t out t₁ out₁ buf r o e run m s w = rw e (read_turn d d₁ t out t₁ out₁ buf r (end_of (goes_on r) InputFailed) run m s w)
