-- The whole lines of an input.
use mathlib.Core.Path.{◌≡◌, refl, sym, ap, ap₂, ◌∙◌}
use mathlib.Core.Bool.{Bool, true, false, true≢false, ◌||◌, or-true, or-false}
use mathlib.Core.List.{List, [], ◌∷◌, ◌++◌}
use Prim.Native.Nat.{ℕ}
use lib.Dec.{eqb}
use borrow.Author.Tests.{eqb-true, eq-eqb, ne_eqb}
use Rattle.line_scan.specs.Lines.{lines_from, has_feed, whole_lines}

-- ---- bytes that follow

-- what follows either has a line feed, or leaves the whole lines what they were
feed_after : (xs ys : List ℕ) → has_feed ys ≡ true → has_feed (xs ++ ys) ≡ true
unfolding has_feed
feed_after [] ys h = h
feed_after (b ∷ xs) ys h = rw (feed_after xs ys h) (or-true (eqb b 10))

no_feed_after : (xs ys : List ℕ) → has_feed ys ≡ false → has_feed (xs ++ ys) ≡ has_feed xs
unfolding has_feed
no_feed_after [] ys h = h
no_feed_after (b ∷ xs) ys h = ap (λ (z : Bool). eqb b 10 || z) (no_feed_after xs ys h)

pub no_whole : (ys : List ℕ) → has_feed ys ≡ false → whole_lines ys ≡ []
unfolding whole_lines
no_whole [] h = refl
no_whole (b ∷ ys) h = rw h refl

pub whole-more : (xs ys : List ℕ) → has_feed ys ≡ true → whole_lines (xs ++ ys) ≡ xs ++ whole_lines ys
unfolding whole_lines
whole-more [] ys h = refl
whole-more (b ∷ xs) ys h = rw (feed_after (b ∷ xs) ys h) (ap (λ (z : List ℕ). b ∷ z) (whole-more xs ys h))

pub whole_same : (xs ys : List ℕ) → has_feed ys ≡ false → whole_lines (xs ++ ys) ≡ whole_lines xs
unfolding whole_lines
whole_same [] ys h = no_whole ys h
whole_same (b ∷ xs) ys h = rw (no_feed_after (b ∷ xs) ys h, whole_same xs ys h) refl

pub whole_byte : (xs : List ℕ) (b : ℕ) → (b ≡ 10 → ⊥) → whole_lines (xs ++ b ∷ []) ≡ whole_lines xs
unfolding has_feed
whole_byte xs b n = whole_same xs (b ∷ []) (rw (ne_eqb b 10 n) refl)

pub whole_feed : (xs : List ℕ) (b : ℕ) → b ≡ 10 → whole_lines (xs ++ b ∷ []) ≡ xs ++ b ∷ []
unfolding has_feed whole_lines
whole_feed xs b e = whole-more xs (b ∷ []) (rw (eq-eqb b 10 e) refl) ∙ rw (eq-eqb b 10 e) refl

-- ---- the last line feed

-- an input with a line feed has a last one, which ends its whole lines
abbrev pub LastFeed : List ℕ → Type 0
LastFeed xs = (front : List ℕ) × (part : List ℕ) × (xs ≡ front ++ 10 ∷ part) × (whole_lines xs ≡ front ++ 10 ∷ [])

pub last_feed : (xs : List ℕ) → has_feed xs ≡ true → LastFeed xs
unfolding has_feed whole_lines
last_feed [] h = absurd (true≢false (sym h))
last_feed (b ∷ xs) h = go (last_feed xs) (has_feed xs) refl
  where
    go : (has_feed xs ≡ true → LastFeed xs) → (t : Bool) → has_feed xs ≡ t → LastFeed (b ∷ xs)
    go later true e = let l = later e in (b ∷ l.0, l.1, ap (λ (z : List ℕ). b ∷ z) l.2, rw h (ap (λ (z : List ℕ). b ∷ z) l.3))
    go later false e =
        let f : b ≡ 10 = eqb-true b 10 (sym (or-false (eqb b 10)) ∙ rw e at h) in
        ([], xs, ap (λ (z : ℕ). z ∷ xs) f, rw h (ap₂ (λ (y : ℕ) (z : List ℕ). y ∷ z) f (no_whole xs e)))

-- what stands before a line feed and behind it has lines of its own
pub lines_split : (p front ys : List ℕ) → lines_from p (front ++ 10 ∷ ys) ≡ lines_from p (front ++ 10 ∷ []) ++ lines_from [] ys
unfolding lines_from
lines_split p [] ys = refl
lines_split p (b ∷ front) ys = go (λ q. lines_split q front ys) (eqb b 10) refl
  where
    go : ((q : List ℕ) → lines_from q (front ++ 10 ∷ ys) ≡ lines_from q (front ++ 10 ∷ []) ++ lines_from [] ys) → (t : Bool) → eqb b 10 ≡ t → lines_from p (b ∷ front ++ 10 ∷ ys) ≡ lines_from p (b ∷ front ++ 10 ∷ []) ++ lines_from [] ys
    go later true e = rw e (ap (λ (z : List (List ℕ)). p ∷ z) (later []))
    go later false e = rw e (later (p ++ b ∷ []))
