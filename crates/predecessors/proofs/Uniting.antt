-- The valuations before a round, gathered over the pairs of a layer.
use mathlib.Core.Path.{◌≡◌, refl, sym, ap, ap₂, ◌∙◌}
use mathlib.Core.Bool.{Bool, true, false, ◌&&◌, ◌||◌, and-false, or-false, or_assoc, or_comm, and-or_distrib_left, true≢false}
use mathlib.Core.List.{List}
use mathlib.Core.Option.{none, some}
use Rattle.std.specs.Prelude.{Some, None}
use Prim.Native.Nat.{ℕ, ◌+◌, ◌*◌, ◌/◌, ◌%◌, ◌≤◌, ◌<◌}
use lib.ListN.{replicate}
use Rattle.words.specs.Bits.{bit}
use Rattle.words.specs.Below.{any_below}
use Rattle.words.proofs.BitLaws.{bit-none}
use Rattle.words.proofs.AnyLaws.{any_one}
use Rattle.words.proofs.ListLaws.{zeros}
use Rattle.sheet.specs.RuleSheet.{RuleSheet}
use Rattle.lola.specs.Equations.{holds}
use Rattle.completions.specs.Live.{allowed}
use Rattle.completions.specs.Steps.{any_next}
use Rattle.pairs.specs.Storage.{stored}
use Rattle.pairs.specs.Changes.{row_bit, RowOf, FirstFrom}
use Rattle.pairs.proofs.BitSearch.{any_skip}
use Rattle.predecessors.specs.Rows.{meets, United}

-- ---- unions

united_none : (w : ℕ) (s : List ℕ) (f : ℕ → Bool) → ((a : ℕ) → a < 64 * w → f a ≡ false) → United w s s f
united_none w s f h a l = sym (ap (λ (u : Bool). row_bit s 0 a || u) (h a l) ∙ or-false (row_bit s 0 a))

-- what is there already
pub united_old : (w : ℕ) (s : List ℕ) (o f : ℕ → Bool) → ((a : ℕ) → a < 64 * w → o a ≡ true → row_bit s 0 a ≡ true) → United w s s (λ a. o a && f a)
united_old w s o f h a l = go (row_bit s 0 a) (o a) (f a) (h a l)
  where
    go : (r o f : Bool) → (o ≡ true → r ≡ true) → r ≡ (r || (o && f))
    go true o f g = refl
    go false true f g = let e : false ≡ true = g refl in ap (λ (u : Bool). u) e ∙ false-all e
      where
        false-all : {u : Bool} → false ≡ true → true ≡ u
        false-all {u} e = absurd (true≢false cc)
    go false false f g = refl

united_then : (w : ℕ) (s t u : List ℕ) (f g h : ℕ → Bool) → United w s t f → United w t u g → ((a : ℕ) → a < 64 * w → (f a || g a) ≡ h a) → United w s u h
united_then w s t u f g h p q e a l =
    q a l ∙ ap (λ (v : Bool). v || g a) (p a l) ∙ or_assoc (row_bit s 0 a) (f a) (g a) ∙ ap (λ (v : Bool). row_bit s 0 a || v) (e a l)

pub united_as : (w : ℕ) (s t : List ℕ) (f h : ℕ → Bool) → United w s t f → ((a : ℕ) → a < 64 * w → f a ≡ h a) → United w s t h
united_as w s t f h p e a l = p a l ∙ ap (λ (v : Bool). row_bit s 0 a || v) (e a l)

-- ---- the valuations of a row of the layer, those below `from`

and-or : (o u v : Bool) → ((o && u) || (o && v)) ≡ (o && (v || u))
and-or o u v = sym (and-or_distrib_left o u v) ∙ ap (λ (z : Bool). o && z) (or_comm u v)

module _ (x : RuleSheet) (w : ℕ) (ok s : List ℕ) (layer b : ℕ) where
  abbrev F : ℕ → ℕ → Bool
  F a c = stored s layer b (some c) && holds x (some a) b (some c)

  abbrev pub Uniting : List ℕ → List ℕ → ℕ → Type 0
  Uniting old new from = United w old new (λ a. row_bit ok 0 a && any_below from (λ c. stored s layer b (some c) && holds x (some a) b (some c)))

  pub uniting-none : (old : List ℕ) → Uniting old old 0
  unfolding any_below
  uniting-none old = united_none w old (λ a. row_bit ok 0 a && false) (λ a l. and-false (row_bit ok 0 a))

  -- valuations that are passed over
  gone : (from c : ℕ) → ((y : ℕ) → from ≤ y → y < c → stored s layer b (some y) ≡ false) → (a y : ℕ) → from ≤ y → y < c → F a y ≡ false
  gone from c n a y l h = ap (λ (u : Bool). u && holds x (some a) b (some y)) (n y l h)

  pub uniting-more : (old new new' : List ℕ) (from c : ℕ) → Uniting old new from → United w new new' (λ a. row_bit ok 0 a && holds x (some a) b (some c))
      → FirstFrom (λ y. stored s layer b (some y)) (64 * w) from (Some c) → Uniting old new' (c + 1)
  uniting-more old new new' from c p q n =
      united_then w old new new' (λ a. row_bit ok 0 a && any_below from (F a)) (λ a. row_bit ok 0 a && holds x (some a) b (some c)) (λ a. row_bit ok 0 a && any_below (c + 1) (F a)) p q
      (λ a l. and-or (row_bit ok 0 a) (any_below from (F a)) (holds x (some a) b (some c))
      ∙ ap (λ (u : Bool). row_bit ok 0 a && u)
      (ap₂ (λ (u v : Bool). (u && holds x (some a) b (some c)) || v) (sym n.3) (any_skip from c (F a) n.0 (gone from c n.2 a)) ∙ sym (any_one c (F a))))

  pub uniting-all : (old new : List ℕ) (from : ℕ) → from ≤ 64 * w → FirstFrom (λ y. stored s layer b (some y)) (64 * w) from None → Uniting old new from
      → United w old new (λ a. row_bit ok 0 a && any_below (64 * w) (λ c. stored s layer b (some c) && holds x (some a) b (some c)))
  uniting-all old new from l n p =
      united_as w old new (λ a. row_bit ok 0 a && any_below from (F a)) (λ a. row_bit ok 0 a && any_below (64 * w) (F a)) p
      (λ a h. ap (λ (u : Bool). row_bit ok 0 a && u) (any_skip from (64 * w) (F a) l (gone from (64 * w) n a)))

  -- ---- and the end mark

  abbrev G : ℕ → Bool
  G a = any_below (64 * w) (F a)

  pub united-no-end : (old new : List ℕ) → stored s layer b none ≡ false → United w old new (λ a. row_bit ok 0 a && any_below (64 * w) (λ c. stored s layer b (some c) && holds x (some a) b (some c)))
      → United w old new (λ a. row_bit ok 0 a && meets x (64 * w) (stored s layer) a b)
  unfolding meets any_next
  united-no-end old new e p =
      united_as w old new (λ a. row_bit ok 0 a && G a) (λ a. row_bit ok 0 a && ((stored s layer b none && holds x (some a) b none) || G a)) p
      (λ a l. ap (λ (u : Bool). row_bit ok 0 a && ((u && holds x (some a) b none) || G a)) (sym e))

  pub united-end : (old new new' : List ℕ) → stored s layer b none ≡ true → United w old new (λ a. row_bit ok 0 a && any_below (64 * w) (λ c. stored s layer b (some c) && holds x (some a) b (some c)))
      → United w new new' (λ a. row_bit ok 0 a && holds x (some a) b none) → United w old new' (λ a. row_bit ok 0 a && meets x (64 * w) (stored s layer) a b)
  unfolding meets any_next
  united-end old new new' e p q =
      united_then w old new new' (λ a. row_bit ok 0 a && G a) (λ a. row_bit ok 0 a && holds x (some a) b none)
      (λ a. row_bit ok 0 a && ((stored s layer b none && holds x (some a) b none) || G a)) p q
      (λ a l. and-or (row_bit ok 0 a) (G a) (holds x (some a) b none) ∙ ap (λ (u : Bool). row_bit ok 0 a && ((u && holds x (some a) b none) || G a)) (sym e))

-- a row that was empty
pub row_from : (x : RuleSheet) (w : ℕ) (ok old new : List ℕ) (M : ℕ → Bool) → ((a : ℕ) → a < 64 * w → row_bit old 0 a ≡ false) → RowOf w ok (allowed x)
    → United w old new (λ a. row_bit ok 0 a && M a) → RowOf w new (λ a. allowed x a && M a)
row_from x w ok old new M z r p a l = p a l ∙ ap₂ (λ (u v : Bool). u || (v && M a)) (z a l) (r a l)

pub empty_row : (n a : ℕ) → row_bit (replicate n 0) 0 a ≡ false
unfolding row_bit
empty_row n a = ap (bit (a % 64)) (zeros n (0 + a / 64)) ∙ bit-none (a % 64)
