-- What a file gives, read by read.
use mathlib.Core.Path.{◌≡◌, refl, sym, ap, ◌∙◌}
use mathlib.Core.Bool.{false, true≢false}
use mathlib.Core.List.{List, [], ◌∷◌, ◌++◌, append-nil}
use Prim.Native.Nat.{ℕ, ◌+◌, ◌≤◌}
use native.Mathlib.Omega.{arith}
use lib.ListN.{length, take, drop, length-drop}
use lib.Seq.{take-add, length-take-le}
use Rattle.dialogue.specs.History.{Event, came, again, all_came, at_end, FirstBytes}

-- what a file gave so far: the events of its reads, none of them its end
abbrev pub Given : List ℕ → ℕ → Type 0
Given bytes calls = (h : List Event) × (length h ≡ calls) × (all_came h ≡ bytes) × (at_end h ≡ false)

pub given_none : Given [] 0
unfolding all_came at_end
given_none = ([], refl, refl, refl)

module _ (bytes bytes₁ : List ℕ) (n calls : ℕ) (g : Given (take n bytes) calls) (same : take n bytes₁ ≡ take n bytes) where
  pub given-more : (k : ℕ) → (k ≡ 0 → ⊥) → n + k ≤ length bytes₁ → Given (take (n + k) bytes₁) (calls + 1)
  unfolding all_came at_end
  given-more k z h =
      let bs : List ℕ = take k (drop n bytes₁) in
      let l : length bs ≡ k = length-take-le k (drop n bytes₁) (omega (arith, length-drop n bytes₁)) in
      (came bs ∷ g.0, omega (arith, g.1), ap (λ (z : List ℕ). z ++ bs) (g.2 ∙ sym same) ∙ sym (take-add n k bytes₁), still bs g.0 (λ e. z (sym l ∙ e)) ∙ g.3)
    where
      still : (bs : List ℕ) (h : List Event) → (length bs ≡ 0 → ⊥) → at_end (came bs ∷ h) ≡ at_end h
      still [] h n = absurd (n refl)
      still (b ∷ bs) h n = refl

  pub given-again : Given (take n bytes₁) (calls + 1)
  unfolding all_came at_end
  given-again = (again ∷ g.0, omega (arith, g.1), g.2 ∙ sym same, g.3)

  pub given-end : (room : ℕ) → FirstBytes room (take n bytes₁) (calls + 1)
  unfolding all_came at_end
  given-end room = (came [] ∷ g.0, omega (arith, g.1), append-nil (all_came g.0) ∙ g.2 ∙ sym same, λ e. absurd (true≢false e))
