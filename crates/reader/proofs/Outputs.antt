-- One output at a place of the sheet.
use mathlib.Core.Path.{◌≡◌, refl, sym, ap, ◌∙◌}
use mathlib.Core.Bool.{and-false, true≢false}
use mathlib.Core.List.{List, [], ◌∷◌}
use Prim.Native.Nat.{ℕ, ◌+◌, ◌-◌, ◌≤◌, ◌<◌}
use native.Mathlib.Numerals.{add-one}
use lib.ListN.{length, take, drop, get_or, length-drop, drop_of_length-le}
use lib.Seq.{drop-cons}
use borrow.Author.Tests.{le-leb, lt-leb}
use Rattle.outcomes.specs.declared.Refusal.{Refusal}
use Rattle.outcomes.specs.declared.Refusal.TheVariants.{Length}
use Rattle.std.specs.Prelude.{Ok, Err}
use Rattle.outcomes.specs.Outcome.{unbroken}
use Rattle.sheet.specs.Expression.{Parsed, tree, broken, parse, outcome_of}
use Rattle.sheet.specs.declared.Grammar.{Grammar}
use Rattle.reader.specs.Answer.{output_at, output_of}

pub no_byte : (s : Grammar) (at : ℕ) (bs : List ℕ) → length bs ≤ at → output_at s (drop at bs) ≡ Err Length
unfolding output_at
no_byte s at bs h = rw (drop_of_length-le bs h)

module _ (s : Grammar) (at : ℕ) (bs : List ℕ) (h : at < length bs) where
  first : output_at s (drop at bs) ≡ output_at s (get_or bs at 0 ∷ drop (at + 1) bs)
  first = ap (output_at s) (drop-cons bs at 0 h ∙ ap (λ (n : ℕ). get_or bs at 0 ∷ drop n bs) (sym (add-one at)))

  pub too_small : get_or bs at 0 < 1 → output_at s (drop at bs) ≡ Err Length
  unfolding output_at
  too_small k = first ∙ simp (lt-leb 1 (get_or bs at 0) k)

  pub too_large : 64 < get_or bs at 0 → output_at s (drop at bs) ≡ Err Length
  unfolding output_at
  too_large k = first ∙ simp (lt-leb (get_or bs at 0) 64 k, and-false)

  pub too_far : length bs - (at + 1) < get_or bs at 0 → output_at s (drop at bs) ≡ Err Length
  unfolding output_at
  too_far k = first ∙ simp (length-drop, lt-leb (get_or bs at 0) (length bs - (at + 1)) k, and-false)

  pub one-output : 1 ≤ get_or bs at 0 → get_or bs at 0 ≤ 64 → get_or bs at 0 ≤ length bs - (at + 1) → output_at s (drop at bs) ≡ output_of (get_or bs at 0) (parse s [] (take (get_or bs at 0) (drop (at + 1) bs)))
  unfolding output_at
  one-output k l m = first ∙ simp (length-drop, le-leb 1 (get_or bs at 0) k, le-leb (get_or bs at 0) 64 l, le-leb (get_or bs at 0) (length bs - (at + 1)) m)

pub is-accepted : (l : ℕ) (p : Parsed) → unbroken ≡ outcome_of p → output_of l p ≡ Ok l
is-accepted l (tree t) e = refl
is-accepted l (broken r) e = absurd (true≢false cc)

pub is-refused : (l : ℕ) (r : Refusal) (p : Parsed) → Err r ≡ outcome_of p → output_of l p ≡ Err r
is-refused l r (tree t) e = absurd (true≢false cc)
is-refused l r (broken q) e = cc
