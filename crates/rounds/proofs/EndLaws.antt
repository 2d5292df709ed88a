-- The ends of the valuations that a row of the scratch set names.
use mathlib.Core.Path.{◌≡◌, refl, sym, ap, ap₂, ◌∙◌}
use mathlib.Core.Bool.{Bool, true, false, not, ◌&&◌, ◌||◌, and-true, and-false, or-false, and_assoc, true≢false}
use mathlib.Core.List.{List}
use mathlib.Core.Option.{Option, none, some}
use Prim.Native.Nat.{ℕ, ◌+◌, ◌-◌, ◌*◌, ◌/◌, ◌%◌, ◌^◌, ◌≤◌, ◌<◌}
use native.Mathlib.Omega.{arith}
use native.Mathlib.Decide.{ℕ_discrete, dec_lt}
use lib.Bits.{bit_and}
use lib.Dec.{eqb, ltb}
use borrow.Author.Tests.{eq-eqb, ne_eqb, lt-ltb, le-ltb}
use Rattle.words.specs.Bits.{bit}
use Rattle.words.specs.Sizes.{Wide}
use Rattle.words.proofs.BitLaws.{bit-and, bit_not, bit-none}
use Rattle.words.proofs.BelowLaws.{words-one, below_none, below-within}
use Rattle.sheet.specs.RuleSheet.{RuleSheet}
use Rattle.lola.specs.Equations.{holds}
use Rattle.completions.specs.Live.{Pairs}
use Rattle.pairs.specs.Storage.{live, reached, scratch, reached_at, scratch_at}
use Rattle.pairs.specs.Changes.{eq_next, in_word, RowWord, EndsWord, Adds}
use Rattle.pairs.proofs.Sets.{adds_none, adds_as, framed-beyond}
use Rattle.rounds.specs.Rows.{gains, NoEndNew, in_row}
use Rattle.rounds.proofs.Bools.{merge_both}
use Rattle.rounds.proofs.WordLaws.{low_lane}
use Rattle.rounds.proofs.RowLaws.{gains-none, gains-as, gains-join}

-- one word more of which no end is new
pub no_end_more : (s : List ℕ) (g j x l y : ℕ) → NoEndNew (live s) (reached s) (scratch s) (64 * j) g → RowWord (scratch s) g j x → EndsWord (live s) j l → EndsWord (reached s) j y → y < 2 ^ 64
    → bit_and (bit_and x l) (18446744073709551615 - y) ≡ 0 → NoEndNew (live s) (reached s) (scratch s) (64 * (j + 1)) g
no_end_more s g j x l y f heard ends old fit e b h = go (dec_lt b (64 * j))
  where
    go : Dec (b < 64 * j) → ((scratch s g (some b) && live s b none) && not (reached s b none)) ≡ false
    go (yes d) = f b d
    go (no n) =
        let q : 64 * j + b % 64 ≡ b = omega arith in
        let k : b % 64 < 64 = omega arith in
        sym (bit-and (b % 64) (bit_and x l) (18446744073709551615 - y)
        ∙ ap₂ ◌&&◌
        (bit-and (b % 64) x l ∙ ap₂ ◌&&◌ (heard (b % 64) k ∙ ap (λ (i : ℕ). scratch s g (some i)) q) (ends (b % 64) k ∙ ap (λ (i : ℕ). live s i none) q))
        (bit_not 64 (b % 64) y k fit ∙ ap not (old (b % 64) k ∙ ap (λ (i : ℕ). reached s i none) q)))
        ∙ ap (bit (b % 64)) e ∙ bit-none (b % 64)

-- what is there already is not new
there : (u g l h : Bool) → ((g && l) && not u) ≡ false → u ≡ (u || (g && (true && (l && h))))
there true g l h e = refl
there false false l h e = refl
there false true false h e = refl
there false true true h e = absurd (true≢false cc)

among_three : (l g b h : Bool) → (((l && (g && b)) && h) && true) ≡ ((b && g) && (true && (l && h)))
among_three true true true h = and-true h
among_three true true false h = refl
among_three true false true h = refl
among_three true false false h = refl
among_three false true true h = refl
among_three false true false h = refl
among_three false false true h = refl
among_three false false false h = refl

module _ (x : RuleSheet) where
  abbrev Ends : (ℕ → Bool) → List ℕ → Option ℕ → Pairs
  Ends B s p = gains x B (λ y. eq_next y none) (live s) p

  pub ends-full : (s : List ℕ) (v w g : ℕ) (p : Option ℕ) → v ≤ 64 * w → NoEndNew (live s) (reached s) (scratch s) (64 * w) g
      → Adds reached_at s s (Ends (in_row (scratch s) v g) s p)
  unfolding gains eq_next
  ends-full s v w g p l f =
      adds_as reached_at s s (λ a c. false) (Ends (in_row (scratch s) v g) s p) (adds_none reached_at s (λ a c. false) (λ a c. refl)) (λ a c ha hc. or-false (reached s a c) ∙ go a c)
    where
      at : (a : ℕ) → Dec (a < v)
          → reached s a none ≡ (reached s a none || ((ltb a v && scratch s g (some a)) && (true && (live s a none && holds x p a none))))
      at a (yes h) = rw (lt-ltb a v h) (there (reached s a none) (scratch s g (some a)) (live s a none) (holds x p a none) (f a (omega arith)))
      at a (no n) = let h : v ≤ a = omega arith in rw (le-ltb a v h) (sym (or-false (reached s a none)))

      go : (a : ℕ) (c : Option ℕ) → reached s a c ≡ (reached s a c || Ends (in_row (scratch s) v g) s p a c)
      go a none = at a (dec_lt a v)
      go a (some c) = sym (ap (λ (u : Bool). reached s a (some c) || u) (and-false (in_row (scratch s) v g a)) ∙ or-false (reached s a (some c)))

  -- ---- the words one after the other

  module _ (s : List ℕ) (v w g : ℕ) (p : Option ℕ) (wide : Wide v w) (hg : g < 256) where
    abbrev In : ℕ → Bool
    In = in_row (scratch s) v g

    -- the ends of the first j words
    abbrev Upto : ℕ → Pairs
    Upto j = Ends (λ b. ltb b (64 * j) && In b) s p

    pub ends-none : Adds reached_at s s (Upto 0)
    ends-none = gains-none x s (λ b. ltb b (64 * 0) && In b) (λ y. eq_next y none) (live s) p (λ b c. ap (λ (u : Bool). u && eq_next c none) (below_none b (In b)))

    pub ends_more : (t u : List ℕ) (j l h low y : ℕ) → j < w → Adds reached_at s t (Upto j) → EndsWord (live t) j l → RowWord (scratch t) g j h → ((i : ℕ) → i < 64 → bit i low ≡ ltb (64 * 0 + i) v)
        → ((i : ℕ) → i < 64 → bit i y ≡ holds x p (64 * j + i) none)
        → Adds reached_at t u (λ a c. in_word j (bit_and (bit_and l (bit_and h low)) y) (some a) && eq_next c none)
        → Adds reached_at s u (Upto (j + 1))
    unfolding gains in_word eq_next
    ends_more t u j l h low y i f ends row lows holding a =
        gains-join x s t u (λ b. ltb b (64 * j) && In b) (λ b. eqb (b / 64) j && In b) (λ b. ltb b (64 * (j + 1)) && In b) (λ y. eq_next y none) (λ y. eq_next y none) (λ y. eq_next y none) p f word
        (λ b c hb hc. merge_both (ltb b (64 * j)) (eqb (b / 64) j) (ltb b (64 * (j + 1))) (In b) (eq_next c none) (words-one b j))
      where
        heard : ℕ
        heard = bit_and h low

        z : ℕ
        z = bit_and (bit_and l heard) y

        core : (b : ℕ) → b < 256 → b / 64 ≡ j → bit (b % 64) z ≡ ((live t b none && (scratch s g (some b) && ltb b v)) && holds x p b none)
        core b hb e =
            let q : 64 * j + b % 64 ≡ b = omega arith in
            let k : b % 64 < 64 = omega arith in
            bit-and (b % 64) (bit_and l heard) y
            ∙ ap₂ ◌&&◌
            (bit-and (b % 64) l heard
            ∙ ap₂ ◌&&◌ (ends (b % 64) k ∙ ap (λ (i : ℕ). live t i none) q)
            (bit-and (b % 64) h low
            ∙ ap₂ ◌&&◌ (row (b % 64) k ∙ ap (λ (i : ℕ). scratch t g (some i)) q ∙ framed-beyond f.frame scratch_at g (some b) hg hb (omega arith))
            (lows (b % 64) k ∙ low_lane v w j (b % 64) wide i k ∙ ap (λ (i : ℕ). ltb i v) q)))
            (holding (b % 64) k ∙ ap (λ (i : ℕ). holds x p i none) q)

        at : (b : ℕ) → b < 256 → Dec (b / 64 ≡ j)
            → ((eqb (b / 64) j && bit (b % 64) z) && true) ≡ ((eqb (b / 64) j && In b) && (true && (live t b none && holds x p b none)))
        at b hb (yes e) =
            rw (eq-eqb (b / 64) j e)
            (ap (λ (k : Bool). k && true) (core b hb e) ∙ among_three (live t b none) (scratch s g (some b)) (ltb b v) (holds x p b none))
        at b hb (no d) = rw (ne_eqb (b / 64) j d)

        go : (b : ℕ) → b < 256 → (c : Option ℕ) → ((eqb (b / 64) j && bit (b % 64) z) && eq_next c none) ≡ Ends (λ b. eqb (b / 64) j && In b) t p b c
        go b hb none = at b hb (ℕ_discrete (b / 64) j)
        go b hb (some c) = and-false (eqb (b / 64) j && bit (b % 64) z) ∙ sym (and-false (eqb (b / 64) j && In b))

        word : Adds reached_at t u (Ends (λ b. eqb (b / 64) j && In b) t p)
        word =
            adds_as reached_at t u (λ b c. in_word j z (some b) && eq_next c none) (Ends (λ b. eqb (b / 64) j && In b) t p) a
            (λ b c hb hc. ap (λ (k : Bool). reached t b c || k) (go b hb c))

    pub ends-all : (t : List ℕ) (j : ℕ) → v ≤ 64 * j → Adds reached_at s t (Upto j) → Adds reached_at s t (Ends In s p)
    ends-all t j h f =
        gains-as x s t (λ b. ltb b (64 * j) && In b) In (λ y. eq_next y none) (λ y. eq_next y none) (live s) p f
        (λ b c hb hc. ap (λ (k : Bool). k && eq_next c none) (drop b))
      where
        drop : (b : ℕ) → (ltb b (64 * j) && In b) ≡ In b
        drop b = sym (and_assoc (ltb b (64 * j)) (ltb b v) (scratch s g (some b))) ∙ ap (λ (k : Bool). k && scratch s g (some b)) (below-within b v (64 * j) h)
