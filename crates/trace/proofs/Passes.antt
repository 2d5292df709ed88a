-- Passes put together from refreshed places.
use mathlib.Core.Path.{◌≡◌, refl, sym, ap, ◌∙◌, subst}
use mathlib.Core.Logic.{◌⊎◌, inl, inr, ⊎_elim}
use mathlib.Core.Bool.{Bool, false}
use mathlib.Core.List.{List}
use Prim.Native.Nat.{ℕ, suc, ◌+◌, ◌-◌, ◌^◌, ◌≤◌, ◌<◌}
use native.Mathlib.Omega.{arith}
use native.Mathlib.Decide.{ℕ_discrete, dec_lt}
use lib.ListN.{length, get_or}
use Rattle.words.specs.Bits.{bit}
use Rattle.circular.specs.Places.{Assignment, Place, Reads, Solves, RightAt, Right}
use Rattle.circular.proofs.Sweep.{fresh-right}
use Rattle.trace.specs.Passes.{values_of, BitPut, SameShape, Renewed, Passed}

-- ---- buffers that are kept

pub kept-none : (n : ℕ) (l : List ℕ) → SameShape n l l
kept-none n l = record { same_length = refl; below = λ b. b }

pub kept_then : {n : ℕ} {old mid new : List ℕ} → SameShape n old mid → SameShape n mid new → SameShape n old new
kept_then p q = record { same_length = q.same_length ∙ p.same_length; below = λ b. q.below (p.below b) }

-- a bit that was put is a place worked out anew
module _ (n : ℕ) (f : Assignment → Assignment) (s t : ℕ) (v : Bool) (old new : List ℕ) (changed : Bool) (put : BitPut (t - 1) s v old new changed)
    (low : 1 ≤ t) (in-n : s < n) (right : v ≡ f (values_of old) s t) where
  byte : ((i : ℕ) → i < length old → get_or old i 0 < 2 ^ n) → (i : ℕ) → i < length new → Dec (i ≡ t - 1) → get_or new i 0 < 2 ^ n
  byte b i l (yes e) = rw e (put.below n in-n (b (t - 1) (omega (arith, put.same_length))))
  byte b i l (no e) = rw (put.others i e) (b i (omega (arith, put.same_length)))

  other : (q u : ℕ) → 1 ≤ u → ((q ≡ s) × (u ≡ t) → ⊥) → Dec (u - 1 ≡ t - 1) → bit q (get_or new (u - 1) 0) ≡ bit q (get_or old (u - 1) 0)
  other q u l h (yes e) = rw e (put.kept q (λ g. h (g, omega arith)))
  other q u l h (no e) = ap (bit q) (put.others (u - 1) e)

  pub renewed-put : Renewed n f s t old new
  unfolding values_of
  renewed-put =
      record {
        kept = record { same_length = put.same_length; below = λ b i l. byte b i l (ℕ_discrete i (t - 1)) };
        value = put.put ∙ right;
        others = λ q u l h. other q u l h (ℕ_discrete (u - 1) (t - 1));
      }

pub renewed_or_kept : {n : ℕ} {f : Assignment → Assignment} {s t : ℕ} {old new : List ℕ} → Renewed n f s t old new → (q u : ℕ) → 1 ≤ u
    → ((q ≡ s) × (u ≡ t)) ⊎ (values_of new q u ≡ values_of old q u)
renewed_or_kept {s = s} {t = t} {old = old} {new = new} one q u l = go (ℕ_discrete q s) (ℕ_discrete u t)
  where
    go : Dec (q ≡ s) → Dec (u ≡ t) → ((q ≡ s) × (u ≡ t)) ⊎ (values_of new q u ≡ values_of old q u)
    go (yes e) (yes g) = inl (e, g)
    go (yes e) (no g) = inr (one.others q u l (λ h. g h.1))
    go (no e) d = inr (one.others q u l (λ h. e h.0))

-- ---- passes

module _ (n N : ℕ) (f : Assignment → Assignment) where
  -- one after the other
  pub passed_then : (P Q R : ℕ → ℕ → Type 0) (old mid new : List ℕ) (a b c : Bool) → ((s t : ℕ) → Place n N s t → R s t → P s t ⊎ Q s t)
      → (c ≡ false → (a ≡ false) × (b ≡ false)) → Passed n N f P old mid a → Passed n N f Q mid new b → Passed n N f R old new c
  passed_then P Q R old mid new a b c h g p q =
      record {
        kept = kept_then p.kept q.kept;
        hold = λ E local sol good k r. q.hold E local sol good k (p.hold E local sol good k r);
        keep = λ E local sol good k r s t pl x.
            q.keep E local sol good k (p.hold E local sol good k r) s t pl (p.keep E local sol good k r s t pl x);
        further = λ E local sol good k r s t pl x.
            ⊎_elim
            (λ y. q.keep E local sol good k (p.hold E local sol good k r) s t pl (p.further E local sol good k r s t pl y))
            (λ y. q.further E local sol good k (p.hold E local sol good k r) s t pl y)
            (h s t pl x);
        same = λ e. q.same (g e).1 ∙ p.same (g e).0;
        quiet = λ e s t pl x.
            ⊎_elim
            (λ y. p.quiet (g e).0 s t pl y)
            (λ y. subst (λ (l : List ℕ). values_of l s t ≡ f (values_of l) s t) (p.same (g e).0) (q.quiet (g e).1 s t pl y))
            (h s t pl x);
      }

  -- one place
  module _ (s t : ℕ) (old new : List ℕ) (changed : Bool) (one : Renewed n f s t old new) (same : changed ≡ false → new ≡ old) where
    fresh : (q u : ℕ) → q ≡ s → u ≡ t → values_of new q u ≡ f (values_of old) q u
    fresh q u e g = rw (e, g) one.value

    at_place : (E : ℕ → ℕ → ℕ → Bool) → Reads n E N f → (sol : Assignment) → Solves n N f sol → (k : ℕ) → Right n E N sol k (values_of old)
        → (q u : ℕ) → Place n N q u → (j : ℕ) → j ≤ suc k → RightAt n E N sol j (values_of old) q u → RightAt n E N sol j (values_of new) q u
    at_place E local sol good k r q u pl j h x =
        ⊎_elim
        (λ e. fresh-right n E N f local sol good k (values_of old) (values_of new) r q u pl j h (fresh q u e.0 e.1))
        (λ e nc. e ∙ x nc)
        (renewed_or_kept one q u pl.t_low)

    pub passed-one : Passed n N f (λ q u. (q ≡ s) × (u ≡ t)) old new changed
    passed-one =
        record {
          kept = one.kept;
          hold = λ E local sol good k r. record { all = λ q u pl. at_place E local sol good k r q u pl k (omega arith) (r.all q u pl) };
          keep = λ E local sol good k r q u pl x. at_place E local sol good k r q u pl (suc k) (omega arith) x;
          further = λ E local sol good k r q u pl e.
              fresh-right n E N f local sol good k (values_of old) (values_of new) r q u pl (suc k) (omega arith) (fresh q u e.0 e.1);
          same = same;
          quiet = λ c q u pl e. sym (ap (λ (l : List ℕ). values_of l q u) (same c)) ∙ fresh q u e.0 e.1;
        }

-- one place more, one round more
pub next_place : (s t q u : ℕ) → (q < s + 1) × (u ≡ t) → ((q < s) × (u ≡ t)) ⊎ ((q ≡ s) × (u ≡ t))
next_place s t q u h = go (dec_lt q s)
  where
    go : Dec (q < s) → ((q < s) × (u ≡ t)) ⊎ ((q ≡ s) × (u ≡ t))
    go (yes l) = inl (l, h.1)
    go (no l) = inr (omega (arith, h.0), h.1)
