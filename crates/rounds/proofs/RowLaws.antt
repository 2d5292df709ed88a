-- What the reached set gains, row by row.
use Rattle.std.specs.Prelude.{Some, None}
use mathlib.Core.Path.{◌≡◌, refl, sym, ap, ap₂, ◌∙◌}
use mathlib.Core.Bool.{Bool, true, false, ◌&&◌, ◌||◌, and-true, and-false, or-false, or_comm, and_assoc}
use mathlib.Core.List.{List}
use mathlib.Core.Option.{Option, none, some}
use Prim.Native.Nat.{ℕ, ◌+◌, ◌*◌, ◌/◌, ◌≤◌, ◌<◌}
use native.Mathlib.Omega.{arith}
use native.Mathlib.Decide.{ℕ_discrete}
use lib.Dec.{eqb, ltb}
use borrow.Author.Tests.{ne_eqb, lt-ltb}
use Rattle.words.specs.Below.{any_below}
use Rattle.words.proofs.AnyLaws.{any_one}
use Rattle.words.proofs.BelowLaws.{below_one, words-one, below_none, below-within, below_wider}
use Rattle.words.proofs.Bools.{or-none}
use Rattle.sheet.specs.RuleSheet.{RuleSheet}
use Rattle.lola.specs.Equations.{holds}
use Rattle.completions.specs.Live.{Pairs}
use Rattle.completions.specs.Steps.{Within, part_below}
use Rattle.pairs.specs.Storage.{live, reached, scratch, live_at, reached_at, scratch_at}
use Rattle.pairs.specs.Changes.{eq_next, Adds, row_bit, FirstFrom, Noted}
use Rattle.pairs.proofs.BitSearch.{any_skip}
use Rattle.pairs.proofs.Sets.{adds_none, adds_as, adds_then, framed-before, framed-beyond}
use Rattle.rounds.specs.Rows.{cut, gains, in_row, brought, Sparse}
use Rattle.rounds.proofs.Bools.{merge, merge_under, merge_both}

-- a row that is noted may have gained something
pub sparse_noted : (s t : List ℕ) (P : Option ℕ → Bool) (g : ℕ) (groups groups' : List ℕ) → Adds scratch_at s t (λ x y. eqb x g && P y) → Noted g groups groups'
    → (v : ℕ) → v ≤ 256 → Sparse v groups (scratch s) → Sparse v groups' (scratch t)
sparse_noted s t P g groups groups' a n v hv f h hh e b hb =
    let hh' : h < 256 = omega arith in
    let o = or-none (row_bit groups 0 h) (eqb h g) (sym (n.gains h hh') ∙ e) in
    a.adds h (some b) hh' hb ∙ ap₂ (λ (u w : Bool). u || (w && P (some b))) (f h hh o.0 b hb) o.1

module _ (x : RuleSheet) where
  lump : (B : ℕ → Bool) (C : Option ℕ → Bool) (L : Pairs) (p : Option ℕ) (b : ℕ) (c : Option ℕ) → gains x B C L p b c ≡ ((B b && C c) && (L b c && holds x p b c))
  unfolding gains
  lump B C L p b c = sym (and_assoc (B b) (C c) (L b c && holds x p b c))

  pub gains-none : (s : List ℕ) (B : ℕ → Bool) (C : Option ℕ → Bool) (L : Pairs) (p : Option ℕ) → ((b : ℕ) (c : Option ℕ) → (B b && C c) ≡ false) → Adds reached_at s s (gains x B C L p)
  gains-none s B C L p f = adds_none reached_at s (gains x B C L p) (λ b c. lump B C L p b c ∙ ap (λ (u : Bool). u && (L b c && holds x p b c)) (f b c))

  pub gains-as : (s t : List ℕ) (B B' : ℕ → Bool) (C C' : Option ℕ → Bool) (L : Pairs) (p : Option ℕ) → Adds reached_at s t (gains x B C L p)
      → ((b : ℕ) (c : Option ℕ) → b < 256 → Within 256 c → (B b && C c) ≡ (B' b && C' c)) → Adds reached_at s t (gains x B' C' L p)
  gains-as s t B B' C C' L p a f =
      adds_as reached_at s t (gains x B C L p) (gains x B' C' L p) a
      (λ b c hb hc. ap (λ (u : Bool). reached s b c || u)
      (lump B C L p b c ∙ ap (λ (u : Bool). u && (L b c && holds x p b c)) (f b c hb hc) ∙ sym (lump B' C' L p b c)))

  -- one gain after the other
  pub gains-join : (s t u : List ℕ) (B B' B'' : ℕ → Bool) (C C' C'' : Option ℕ → Bool) (p : Option ℕ) → Adds reached_at s t (gains x B C (live s) p) → Adds reached_at t u (gains x B' C' (live t) p)
      → ((b : ℕ) (c : Option ℕ) → b < 256 → Within 256 c → ((B b && C c) || (B' b && C' c)) ≡ (B'' b && C'' c)) → Adds reached_at s u (gains x B'' C'' (live s) p)
  gains-join s t u B B' B'' C C' C'' p f g e =
      adds_then reached_at s t u (gains x B C (live s) p) (gains x B' C' (live t) p) (gains x B'' C'' (live s) p) f g
      (λ b c hb hc.
      ap₂ ◌||◌ (lump B C (live s) p b c)
      (lump B' C' (live t) p b c
      ∙ ap (λ (l : Bool). (B' b && C' c) && (l && holds x p b c)) (framed-before f.frame live_at b c hb hc (omega arith)))
      ∙ merge (B b && C c) (B' b && C' c) (B'' b && C'' c) (live s b c && holds x p b c) (e b c hb hc)
      ∙ sym (lump B'' C'' (live s) p b c))

  -- ---- the words of a row, and the end

  abbrev Row : ℕ → ℕ → (ℕ → Bool) → List ℕ → Option ℕ → Pairs
  Row b v f s p = gains x (λ a. eqb a b) (cut (λ c. f c && ltb c v)) (live s) p

  pub row-none : (s : List ℕ) (b v : ℕ) (p : Option ℕ) → Adds reached_at s s (Row b v (λ c. ltb c (64 * 0)) s p)
  row-none s b v p = gains-none s (λ a. eqb a b) (cut (λ c. ltb c (64 * 0) && ltb c v)) (live s) p (λ a c. go a c)
    where
      go : (a : ℕ) (c : Option ℕ) → (eqb a b && cut (λ c. ltb c (64 * 0) && ltb c v) c) ≡ false
      go a none = and-false (eqb a b)
      go a (some c) = ap (λ (u : Bool). eqb a b && u) (below_none c (ltb c v)) ∙ and-false (eqb a b)

  pub row_more : (s t u : List ℕ) (b v j : ℕ) (p : Option ℕ) → Adds reached_at s t (Row b v (λ c. ltb c (64 * j)) s p) → Adds reached_at t u (Row b v (λ c. eqb (c / 64) j) t p)
      → Adds reached_at s u (Row b v (λ c. ltb c (64 * (j + 1))) s p)
  row_more s t u b v j p f g =
      gains-join s t u (λ a. eqb a b) (λ a. eqb a b) (λ a. eqb a b) (cut (λ c. ltb c (64 * j) && ltb c v)) (cut (λ c. eqb (c / 64) j && ltb c v)) (cut (λ c. ltb c (64 * (j + 1)) && ltb c v)) p f g
      (λ a c ha hc. go a c)
    where
      go : (a : ℕ) (c : Option ℕ)
          → ((eqb a b && cut (λ c. ltb c (64 * j) && ltb c v) c) || (eqb a b && cut (λ c. eqb (c / 64) j && ltb c v) c)) ≡ (eqb a b && cut (λ c. ltb c (64 * (j + 1)) && ltb c v) c)
      go a none = ap (λ (u : Bool). (eqb a b && false) || u) (and-false (eqb a b)) ∙ or-false (eqb a b && false)
      go a (some c) = merge_under (eqb a b) (ltb c (64 * j)) (eqb (c / 64) j) (ltb c (64 * (j + 1))) (ltb c v) (words-one c j)

  pub row-all : (s t : List ℕ) (b v w j : ℕ) (p : Option ℕ) → v ≡ w → v ≤ 64 * j → Adds reached_at s t (Row b v (λ c. ltb c (64 * j)) s p)
      → Adds reached_at s t (gains x (λ a. eqb a b) (cut (λ c. ltb c w)) (live s) p)
  row-all s t b v w j p q h f = gains-as s t (λ a. eqb a b) (λ a. eqb a b) (cut (λ c. ltb c (64 * j) && ltb c v)) (cut (λ c. ltb c w)) (live s) p f (λ a c ha hc. go a c)
    where
      go : (a : ℕ) (c : Option ℕ) → (eqb a b && cut (λ c. ltb c (64 * j) && ltb c v) c) ≡ (eqb a b && cut (λ c. ltb c w) c)
      go a none = refl
      go a (some c) = ap (λ (u : Bool). eqb a b && u) (below-within c v (64 * j) h ∙ ap (ltb c) q)

  -- ---- rows that were heard

  abbrev One : ℕ → (ℕ → Bool) → (Option ℕ → Bool) → List ℕ → Option ℕ → Pairs
  One b r C s p = gains x (λ a. eqb a b && r a) C (live s) p

  pub heard : (s t : List ℕ) (b : ℕ) (C : Option ℕ → Bool) (r : ℕ → Bool) (p : Option ℕ) → r b ≡ true → Adds reached_at s t (gains x (λ a. eqb a b) C (live s) p) → Adds reached_at s t (One b r C s p)
  heard s t b C r p e f =
      gains-as s t (λ a. eqb a b) (λ a. eqb a b && r a) C C (live s) p f (λ a c ha hc. ap (λ (u : Bool). u && C c) (go a (ℕ_discrete a b)))
    where
      go : (a : ℕ) → Dec (a ≡ b) → eqb a b ≡ (eqb a b && r a)
      go a (yes d) = sym (ap (λ (u : Bool). eqb a b && u) (ap r d ∙ e) ∙ and-true (eqb a b))
      go a (no d) = ne_eqb a b d ∙ sym (ap (λ (u : Bool). u && r a) (ne_eqb a b d))

  -- the rows below b
  abbrev Rows : ℕ → (ℕ → Bool) → (Option ℕ → Bool) → List ℕ → Option ℕ → Pairs
  Rows b r C s p = gains x (λ a. ltb a b && r a) C (live s) p

  pub rows_none : (s : List ℕ) (C : Option ℕ → Bool) (r : ℕ → Bool) (p : Option ℕ) → Adds reached_at s s (Rows 0 r C s p)
  rows_none s C r p = gains-none s (λ a. ltb a 0 && r a) C (live s) p (λ a c. ap (λ (u : Bool). u && C c) (below_none a (r a)))

  pub rows_more : (s t u : List ℕ) (b : ℕ) (C : Option ℕ → Bool) (r : ℕ → Bool) (p : Option ℕ) → Adds reached_at s t (Rows b r C s p) → Adds reached_at t u (One b r C t p) → Adds reached_at s u (Rows (b + 1) r C s p)
  rows_more s t u b C r p f g =
      gains-join s t u (λ a. ltb a b && r a) (λ a. eqb a b && r a) (λ a. ltb a (b + 1) && r a) C C C p f g
      (λ a c ha hc. merge_both (ltb a b) (eqb a b) (ltb a (b + 1)) (r a) (C c) (below_one a b))

  -- ---- the rows that one row of a set G names

  -- those below `from` are done
  abbrev pub Brought : List ℕ → ℕ → ℕ → Option ℕ → List ℕ → ℕ → Type 0
  Brought s w g p t from = Adds reached_at s t (Rows from (in_row (scratch s) w g) (cut (λ c. ltb c w)) s p)

  module _ (s : List ℕ) (w g : ℕ) (p : Option ℕ) (hw : w ≤ 256) (hg : g < 256) where
    abbrev Cells : Option ℕ → Bool
    Cells = cut (λ c. ltb c w)

    abbrev In : ℕ → Bool
    In = in_row (scratch s) w g

    row_same : (t : List ℕ) (P : Pairs) → Adds reached_at s t P → (a : ℕ) → a < 256 → scratch t g (some a) ≡ scratch s g (some a)
    row_same t P f a h = framed-beyond f.frame scratch_at g (some a) hg h (omega arith)

    wider : (t : List ℕ) (b b' : ℕ) → b ≤ b' → ((a : ℕ) → a < 256 → b ≤ a → a < b' → scratch s g (some a) ≡ false) → Adds reached_at s t (Rows b In Cells s p) → Adds reached_at s t (Rows b' In Cells s p)
    wider t b b' l f a =
        gains-as s t (λ k. ltb k b && In k) (λ k. ltb k b' && In k) Cells Cells (live s) p a
        (λ k c hk hc. ap (λ (u : Bool). u && Cells c)
        (below_wider k b b' (In k) l (λ h i. ap (λ (u : Bool). ltb k w && u) (f k hk h i) ∙ and-false (ltb k w))))

    pub bring-none : Brought s w g p s 0
    bring-none = rows_none s Cells In p

    pub bring-more : (t u : List ℕ) (from b : ℕ) → FirstFrom (λ a. scratch t g (some a)) w from (Some b) → Brought s w g p t from
        → Adds reached_at t u (gains x (λ a. eqb a b) (cut (λ c. ltb c w)) (live t) p) → Brought s w g p u (b + 1)
    bring-more t u from b z f q =
        let same : (a : ℕ) → a < 256 → scratch t g (some a) ≡ scratch s g (some a) = row_same t (Rows from In Cells s p) f in
        let up : Brought s w g p t b = wider t from b z.0 (λ a h l i. sym (same a h) ∙ z.2 a l i) f in
        let one : Adds reached_at t u (One b In Cells t p) = heard t u b Cells In p (ap₂ ◌&&◌ (lt-ltb b w z.1) (sym (same b (omega (arith, z.1))) ∙ z.3)) q in
        rows_more s t u b Cells In p up one

    pub bring-all : (t : List ℕ) (from : ℕ) → from ≤ w → FirstFrom (λ a. scratch t g (some a)) w from None → Brought s w g p t from
        → Adds reached_at s t (gains x (in_row (scratch s) w g) (cut (λ c. ltb c w)) (live s) p)
    bring-all t from l z f =
        let same : (a : ℕ) → a < 256 → scratch t g (some a) ≡ scratch s g (some a) = row_same t (Rows from In Cells s p) f in
        gains-as s t (λ a. ltb a w && In a) In Cells Cells (live s) p (wider t from w l (λ a h k i. sym (same a h) ∙ z a k i) f)
        (λ a c ha hc. ap (λ (u : Bool). u && Cells c)
        (sym (and_assoc (ltb a w) (ltb a w) (scratch s g (some a))) ∙ ap (λ (u : Bool). u && scratch s g (some a)) (below-within a w w (omega arith))))

    -- the rows, and then their ends
    pub rows_end : (t u : List ℕ) → Adds reached_at s t (gains x In Cells (live s) p)
        → Adds reached_at t u (gains x (in_row (scratch t) w g) (λ y. eq_next y none) (live t) p) → Adds reached_at s u (gains x In (part_below w) (live s) p)
    unfolding eq_next
    rows_end t u f e =
        gains-join s t u In (in_row (scratch t) w g) In Cells (λ y. eq_next y none) (part_below w) p f e (λ b c hb hc. go b hb c)
      where
        same : (b : ℕ) → b < 256 → in_row (scratch t) w g b ≡ In b
        same b hb = ap (λ (u : Bool). ltb b w && u) (framed-beyond f.frame scratch_at g (some b) hg hb (omega arith))

        go : (b : ℕ) → b < 256 → (c : Option ℕ) → ((In b && Cells c) || (in_row (scratch t) w g b && eq_next c none)) ≡ (In b && part_below w c)
        go b hb none = ap₂ (λ (u v : Bool). u || (v && true)) (and-false (In b)) (same b hb)
        go b hb (some c) = ap (λ (u : Bool). (In b && ltb c w) || u) (and-false (in_row (scratch t) w g b)) ∙ or-false (In b && ltb c w)

  -- ---- all rows of G

  brought-none : (s : List ℕ) (G L : Pairs) (w : ℕ) → Adds reached_at s s (brought x G w L 0)
  unfolding brought any_below
  brought-none s G L w = adds_none reached_at s (brought x G w L 0) (λ b c. refl)

  brought-more : (s t u : List ℕ) (w g : ℕ) → g < 256 → Adds reached_at s t (brought x (scratch s) w (live s) g)
      → Adds reached_at t u (gains x (in_row (scratch t) w g) (part_below w) (live t) (some g)) → Adds reached_at s u (brought x (scratch s) w (live s) (g + 1))
  unfolding brought gains
  brought-more s t u w g hg f q =
      adds_then reached_at s t u (brought x (scratch s) w (live s) g) (gains x (in_row (scratch t) w g) (part_below w) (live t) (some g)) (brought x (scratch s) w (live s) (g + 1)) f q
      (λ b c hb hc.
      or_comm (brought x (scratch s) w (live s) g b c) _
      ∙ ap (λ (v : Bool). v || brought x (scratch s) w (live s) g b c)
      (ap₂ (λ (k l : Bool). (ltb b w && k) && (part_below w c && (l && holds x (some g) b c)))
      (framed-beyond f.frame scratch_at g (some b) hg hb (omega arith))
      (framed-before f.frame live_at b c hb hc (omega arith)))
      ∙ sym (any_one g (λ a. gains x (in_row (scratch s) w a) (part_below w) (live s) (some a) b c)))

  -- rows that are not among the groups bring nothing
  module _ (s : List ℕ) (w : ℕ) (hw : w ≤ 256) (groups : List ℕ) (f : Sparse w groups (scratch s)) where
    abbrev Upto : ℕ → Pairs
    Upto k = brought x (scratch s) w (live s) k

    skip : (t : List ℕ) (k k' : ℕ) → k ≤ k' → k' ≤ w → ((a : ℕ) → k ≤ a → a < k' → row_bit groups 0 a ≡ false) → Adds reached_at s t (Upto k) → Adds reached_at s t (Upto k')
    unfolding brought gains
    skip t k k' l h absent q =
        adds_as reached_at s t (Upto k) (Upto k') q
        (λ b c hb hc. ap (λ (u : Bool). reached s b c || u)
        (any_skip k k' (λ a. gains x (in_row (scratch s) w a) (part_below w) (live s) (some a) b c) l
        (λ a d e. ap (λ (u : Bool). (ltb b w && u) && (part_below w c && (live s b c && holds x (some a) b c))) (f a (omega arith) (absent a d e) b hb)
        ∙ ap (λ (u : Bool). u && (part_below w c && (live s b c && holds x (some a) b c))) (and-false (ltb b w)))))

    pub groups-none : Adds reached_at s s (Upto 0)
    groups-none = brought-none s (scratch s) (live s) w

    pub groups-more : (t u : List ℕ) (from g : ℕ) → FirstFrom (row_bit groups 0) w from (Some g) → Adds reached_at s t (Upto from)
        → Adds reached_at t u (gains x (in_row (scratch t) w g) (part_below w) (live t) (some g)) → Adds reached_at s u (Upto (g + 1))
    groups-more t u from g z q r =
        brought-more s t u w g (omega (arith, z.1)) (skip t from g z.0 (omega (arith, z.1)) (λ a d e. z.2 a d e) q) r

    pub groups-all : (t : List ℕ) (from : ℕ) → from ≤ w → FirstFrom (row_bit groups 0) w from None → Adds reached_at s t (Upto from) → Adds reached_at s t (Upto w)
    groups-all t from l z q = skip t from w l (omega arith) (λ a d e. z a d e) q
