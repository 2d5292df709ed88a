-- Laws of `Decided`: of one check and of lists of them, what no broken check means, and that exactly one outcome fits.
use mathlib.Core.Path.{◌≡◌, refl, sym, ◌∙◌}
use mathlib.Core.Logic.{inl, inr}
use mathlib.Core.Bool.{Bool, true, false, cond, false≢true}
use mathlib.Core.List.{List, [], ◌∷◌, ◌++◌}
use Rattle.outcomes.specs.Decided.{Check, test, Decided}
use Rattle.outcomes.specs.declared.Refusal.{Refusal}
use Rattle.outcomes.specs.Outcome.{Outcome, unbroken}
use Rattle.std.specs.Prelude.{Err}
use Rattle.outcomes.proofs.NumberLaws.{not-both}

-- ---- one check in front

pub breaks : (c : Check) (cs : List Check) → c.Broken → Decided (c ∷ cs) (Err c.rule)
breaks c cs b = inl (b, refl)

pub passes : (c : Check) (cs : List Check) (o : Outcome) → (c.Broken → ⊥) → Decided cs o → Decided (c ∷ cs) o
passes c cs o n d = inr (n, d)

-- a check by a test
pub test_decides : (r : Refusal) (t : Bool) (cs : List Check) (o : Outcome) → Decided cs o → Decided (test r t ∷ cs) (cond t (Err r) o)
test_decides r true cs o d = inl (refl, refl)
test_decides r false cs o d = inr ((λ e. false≢true e), d)

-- an accepted outcome passed the check in front
pub passed : (c : Check) (cs : List Check) → Decided (c ∷ cs) unbroken → (c.Broken → ⊥) × Decided cs unbroken
passed c cs (inl h) = absurd (not-both (sym h.1))
passed c cs (inr h) = h

-- no check is broken
abbrev pub Passed : List Check → Type 0
Passed [] = Unit {0}
Passed (c ∷ cs) = (c.Broken → ⊥) × Passed cs

pub all-passed : (cs : List Check) → Decided cs unbroken → Passed cs
all-passed [] h = tt
all-passed (c ∷ cs) h =
    let p = passed c cs h in
    (p.0, all-passed cs p.1)

pub passed-append : (cs ds : List Check) → Passed (cs ++ ds) → Passed cs × Passed ds
passed-append [] ds h = (tt, h)
passed-append (c ∷ cs) ds h =
    let p = passed-append cs ds h.1 in
    ((h.0, p.0), p.1)

-- ---- lists one behind the other

-- what stands behind a broken check doesn't matter
pub decided-refused : (cs ds : List Check) (r : Refusal) → Decided cs (Err r) → Decided (cs ++ ds) (Err r)
decided-refused [] ds r h = absurd (not-both h)
decided-refused (c ∷ cs) ds r (inl h) = inl h
decided-refused (c ∷ cs) ds r (inr h) = inr (h.0, decided-refused cs ds r h.1)

-- where no check is broken, the checks behind decide
pub decided-accepted : (cs ds : List Check) (o : Outcome) → Decided cs unbroken → Decided ds o → Decided (cs ++ ds) o
decided-accepted [] ds o h g = g
decided-accepted (c ∷ cs) ds o h g =
    let p = passed c cs h in
    inr (p.0, decided-accepted cs ds o p.1 g)

-- and decide alone
pub decided_past : (cs ds : List Check) (o : Outcome) → Decided cs unbroken → Decided (cs ++ ds) o → Decided ds o
decided_past [] ds o h g = g
decided_past (c ∷ cs) ds o h (inl g) = absurd ((passed c cs h).0 g.0)
decided_past (c ∷ cs) ds o h (inr g) = decided_past cs ds o (passed c cs h).1 g.1

-- what is behind may be exchanged for what decides alike
pub decided_behind : (cs ds es : List Check) (o : Outcome) → (Decided ds o → Decided es o) → Decided (cs ++ ds) o → Decided (cs ++ es) o
decided_behind [] ds es o f h = f h
decided_behind (c ∷ cs) ds es o f (inl h) = inl h
decided_behind (c ∷ cs) ds es o f (inr h) = inr (h.0, decided_behind cs ds es o f h.1)

-- an accepted outcome passed both lists
pub passed-both : (cs ds : List Check) → Decided (cs ++ ds) unbroken → Decided cs unbroken × Decided ds unbroken
passed-both [] ds h = (refl, h)
passed-both (c ∷ cs) ds h =
    let p = passed c (cs ++ ds) h in
    let q = passed-both cs ds p.1 in
    (inr (p.0, q.0), q.1)

-- ---- exactly one outcome fits

-- no two do
pub decided_once : (cs : List Check) (o o' : Outcome) → Decided cs o → Decided cs o' → o ≡ o'
decided_once [] o o' h h' = h ∙ sym h'
decided_once (c ∷ cs) o o' (inl h) (inl h') = h.1 ∙ sym h'.1
decided_once (c ∷ cs) o o' (inl h) (inr h') = absurd (h'.0 h.0)
decided_once (c ∷ cs) o o' (inr h) (inl h') = absurd (h.0 h'.0)
decided_once (c ∷ cs) o o' (inr h) (inr h') = decided_once cs o o' h.1 h'.1

-- each check is broken or not
abbrev pub Decidable : List Check → Type 0
Decidable [] = Unit {0}
Decidable (c ∷ cs) = Dec c.Broken × Decidable cs

pub decidable_both : (cs ds : List Check) → Decidable cs → Decidable ds → Decidable (cs ++ ds)
decidable_both [] ds h g = g
decidable_both (c ∷ cs) ds h g = (h.0, decidable_both cs ds h.1 g)

-- then one fits
pub decided-some : (cs : List Check) → Decidable cs → (o : Outcome) × Decided cs o
decided-some [] h = (unbroken, refl)
decided-some (c ∷ cs) h = go h.0 (decided-some cs h.1)
  where
    go : Dec c.Broken → (o : Outcome) × Decided cs o → (o : Outcome) × Decided (c ∷ cs) o
    go (yes b) z = (Err c.rule, inl (b, refl))
    go (no n) z = (z.0, inr (n, z.1))
