-- What `Follows` and `Agrees` say at a place of the list, and lists put together at a place.
use mathlib.Core.Path.{◌≡◌, refl, sym, ap}
use mathlib.Core.List.{List, [], ◌∷◌, ◌++◌}
use mathlib.Core.Option.{Option, some}
use Prim.Native.Nat.{ℕ, zero, suc, ◌≤◌}
use native.Mathlib.Omega.{arith}
use lib.Dec.{T}
use lib.ListN.{length, get_elem?, take}
use Rattle.words.proofs.Options.{nothing, same_some}
use Rattle.sheet.specs.RuleSheet.{RuleSheet}
use Rattle.lola.specs.Equations.{holds, first}
use Rattle.completions.specs.Live.{Follows, Live}
use Rattle.completions.proofs.Runs.{Round, Agrees}

pub first-is : (vs : List ℕ) → get_elem? vs zero ≡ first vs
first-is [] = refl
first-is (v ∷ vs) = refl

pub length_snoc {ℓ} : {A : Type ℓ} (xs : List A) (x : A) → length (xs ++ x ∷ []) ≡ suc (length xs)
length_snoc [] x = refl
length_snoc (y ∷ xs) x = ap suc (length_snoc xs x)

-- a list that has an element at a place has one at the place before
pub before : (vs : List ℕ) (i : ℕ) {b : ℕ} → get_elem? vs (suc i) ≡ some b → (a : ℕ) × (get_elem? vs i ≡ some a)
before [] i e = absurd (nothing e)
before (v ∷ vs) zero e = (v, refl)
before (v ∷ vs) (suc i) e = before vs i e

module _ (s : RuleSheet) where
  -- the equations at the first place, and at a later place
  pub at_first : (p : Option ℕ) (vs : List ℕ) {b : ℕ} → Follows s p vs → get_elem? vs zero ≡ some b → T (holds s p b (get_elem? vs 1))
  at_first p [] f e = absurd (nothing e)
  at_first p (v ∷ vs) f e = rw (← same_some e, first-is vs) f.1

  pub at-later : (p : Option ℕ) (vs : List ℕ) (i : ℕ) {a b : ℕ} → Follows s p vs → get_elem? vs i ≡ some a → get_elem? vs (suc i) ≡ some b
      → T (holds s (some a) b (get_elem? vs (suc (suc i))))
  at-later p [] i f ea eb = absurd (nothing ea)
  at-later p (v ∷ vs) zero f ea eb = rw (← same_some ea) (at_first (some v) vs f.2 eb)
  at-later p (v ∷ vs) (suc i) f ea eb = at-later (some v) vs i f.2 ea eb

  -- at each place, the valuation and what stands after it are a live pair
  pub live_at : (p : Option ℕ) (vs : List ℕ) (i : ℕ) {b : ℕ} → Follows s p vs → get_elem? vs i ≡ some b → Live s b (get_elem? vs (suc i))
  live_at p [] i f e = absurd (nothing e)
  live_at p (v ∷ vs) zero f e =
      rw (← same_some e) (record { from = f.0; rest = vs; starts = sym (first-is vs); satisfies = f.2 })
  live_at p (v ∷ vs) (suc i) f e = live_at (some v) vs i f.2 e

  -- a list cut after the place i goes on with any other list that can follow there and begins as before
  pub graft : (p : Option ℕ) (vs : List ℕ) (i : ℕ) {a : ℕ} (ws : List ℕ) → Follows s p vs → get_elem? vs i ≡ some a → first ws ≡ get_elem? vs (suc i)
      → Follows s (some a) ws → Follows s p (take (suc i) vs ++ ws)
  graft p [] i ws f ea e g = absurd (nothing ea)
  graft p (v ∷ vs) zero ws f ea e g = (f.0, rw (e, first-is vs) f.1, rw (same_some ea) g)
  graft p (v ∷ []) (suc i) ws f ea e g = absurd (nothing ea)
  graft p (v ∷ w ∷ vs) (suc i) ws f ea e g = (f.0, f.1, graft (some v) (w ∷ vs) i ws f.2 ea e g)

-- one round more
pub agrees_less : (rs : List Round) (r : Round) (vs : List ℕ) → Agrees (rs ++ r ∷ []) vs → Agrees rs vs
agrees_less [] r vs g = tt
agrees_less (q ∷ rs) r [] g = g
agrees_less (q ∷ rs) r (v ∷ vs) g = (g.0, agrees_less rs r vs g.1)

pub agrees-last : (rs : List Round) (r : Round) (vs : List ℕ) {b : ℕ} → Agrees (rs ++ r ∷ []) vs → get_elem? vs (length rs) ≡ some b → T (r b)
agrees-last [] r [] g e = absurd g
agrees-last [] r (v ∷ vs) g e = rw (← same_some e) g.0
agrees-last (q ∷ rs) r [] g e = absurd g
agrees-last (q ∷ rs) r (v ∷ vs) g e = agrees-last rs r vs g.1 e

module _ (r : Round) (b : ℕ) (ws : List ℕ) where
  pub agrees-more : (rs : List Round) (vs : List ℕ) → Agrees rs vs → T (r b) → Agrees (rs ++ r ∷ []) (take (length rs) vs ++ b ∷ ws)
  agrees-more [] vs g t = (t, tt)
  agrees-more (q ∷ rs) [] g t = absurd g
  agrees-more (q ∷ rs) (v ∷ vs) g t = (g.0, agrees-more rs vs g.1 t)

module _ (b : ℕ) (ws : List ℕ) where
  pub spliced-here : (rs : List Round) (vs : List ℕ) → Agrees rs vs → get_elem? (take (length rs) vs ++ b ∷ ws) (length rs) ≡ some b
  spliced-here [] vs g = refl
  spliced-here (q ∷ rs) [] g = absurd g
  spliced-here (q ∷ rs) (v ∷ vs) g = spliced-here rs vs g.1

  pub spliced-next : (rs : List Round) (vs : List ℕ) → Agrees rs vs → get_elem? (take (length rs) vs ++ b ∷ ws) (suc (length rs)) ≡ first ws
  spliced-next [] vs g = first-is ws
  spliced-next (q ∷ rs) [] g = absurd g
  spliced-next (q ∷ rs) (v ∷ vs) g = spliced-next rs vs g.1

-- a list cut after the rounds agrees with them whatever follows
pub agrees_graft : (rs : List Round) (vs ws : List ℕ) → Agrees rs vs → Agrees rs (take (length rs) vs ++ ws)
agrees_graft [] vs ws g = tt
agrees_graft (q ∷ rs) [] ws g = absurd g
agrees_graft (q ∷ rs) (v ∷ vs) ws g = (g.0, agrees_graft rs vs ws g.1)

pub agrees-some : (q : Round) (rs : List Round) (vs : List ℕ) → Agrees (q ∷ rs) vs → 1 ≤ length vs
agrees-some q rs [] g = absurd g
agrees-some q rs (v ∷ vs) g = omega arith

-- a list that agrees with the rounds has a valuation in the last of them
pub last-there : (q : Round) (qs : List Round) (vs : List ℕ) → Agrees (q ∷ qs) vs → (b : ℕ) × (get_elem? vs (length qs) ≡ some b)
last-there q qs [] g = absurd g
last-there q [] (v ∷ vs) g = (v, refl)
last-there q (r ∷ qs) (v ∷ vs) g = last-there r qs vs g.1
