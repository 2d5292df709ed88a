-- `lola::reads::streams_at` meets its contract.
use mathlib.Core.Path.{refl, sym, ap, ◌∙◌}
use Prim.Native.Nat.{ℕ, ◌%◌}
use native.Mathlib.Nat.{div-one}
use Rattle.words.specs.Bits.{bit}
use Rattle.lola.proofs.TreeReads.{streams}
use Rattle.lola.proofs.reads.streams_at.Goals as goal

pub returns-in-Earlier : goal.returns-in-Earlier
returns-in-Earlier c = λ q. rw c.in-Earlier.is (streams _ 16 q 0 refl)

pub returns-in-Now : goal.returns-in-Now
returns-in-Now c = λ q. rw c.in-Now.is (ap (λ (x : ℕ). bit q (x % 256)) (sym (div-one _)) ∙ streams _ 0 q 1 refl)

pub returns-in-Later : goal.returns-in-Later
returns-in-Later c = λ q. rw c.in-Later.is (streams _ 32 q 2 refl)
