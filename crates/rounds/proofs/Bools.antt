-- Laws of tests.
use mathlib.Core.Path.{◌≡◌, refl, sym, ap, ◌∙◌}
use mathlib.Core.Bool.{Bool, true, false, not, ◌&&◌, ◌||◌, and-or_distrib_right}

-- a conjunction with a third test on both sides of a disjunction
pub merge : (u v z k : Bool) → (u || v) ≡ z → ((u && k) || (v && k)) ≡ (z && k)
merge u v z k e = sym (and-or_distrib_right u v k) ∙ ap (λ (w : Bool). w && k) e

pub merge_under : (t u v z k : Bool) → (u || v) ≡ z → ((t && (u && k)) || (t && (v && k))) ≡ (t && (z && k))
merge_under true u v z k e = merge u v z k e
merge_under false u v z k e = refl

pub merge_both : (u v z k l : Bool) → (u || v) ≡ z → (((u && k) && l) || ((v && k) && l)) ≡ ((z && k) && l)
merge_both u v z k l e = merge (u && k) (v && k) (z && k) l (merge u v z k e)

-- three tests in another order
pub turn : (u v w : Bool) → ((u && v) && w) ≡ (v && (u && w))
turn true true w = refl
turn true false w = refl
turn false true w = refl
turn false false w = refl

-- nothing new
pub nothing_new : (u v h : Bool) → (v && not u) ≡ false → u ≡ (u || (v && h))
nothing_new true v h e = refl
nothing_new false false h e = refl
nothing_new false true h e = sym e ∙ cc
