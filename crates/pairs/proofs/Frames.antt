-- Words outside a frame are not changed.
use mathlib.Core.Path.{refl, ◌∙◌}
use mathlib.Core.List.{List}
use Prim.Native.Nat.{ℕ, ◌+◌, ◌≤◌, ◌<◌}
use native.Mathlib.Omega.{arith}
use lib.ListN.{set, length-set}
use lib.Seq.{get_or-set_other}
use Rattle.pairs.specs.Changes.{Framed}

pub framed_none : (at n : ℕ) (s : List ℕ) → Framed at n s s
framed_none at n s = record { same_length = refl; before = λ k h. refl; beyond = λ k h. refl }

pub framed_then : {at n : ℕ} {s t u : List ℕ} → Framed at n s t → Framed at n t u → Framed at n s u
framed_then p q = record {
  same_length = q.same_length ∙ p.same_length;
  before = λ k h. q.before k h ∙ p.before k h;
  beyond = λ k h. q.beyond k h ∙ p.beyond k h;
}

-- a frame inside another
pub framed_wider : {at n at' n' : ℕ} {s t : List ℕ} → at' ≤ at → at + n ≤ at' + n' → Framed at n s t → Framed at' n' s t
framed_wider h l p = record { same_length = p.same_length; before = λ k g. p.before k (omega arith); beyond = λ k g. p.beyond k (omega arith) }

-- one word of the frame is written
pub framed_set : {at n : ℕ} (s : List ℕ) (k x : ℕ) → at ≤ k → k < at + n → Framed at n s (set s k x)
framed_set s k x h l = record {
  same_length = length-set s k x;
  before = λ j g. get_or-set_other s k j x 0 (omega arith);
  beyond = λ j g. get_or-set_other s k j x 0 (omega arith);
}
