-- What the live set and the next layer gain together.
use mathlib.Core.Path.{◌≡◌, refl, sym, ap, ap₂, ◌∙◌}
use mathlib.Core.Logic.{◌⊎◌, inl, inr}
use mathlib.Core.Bool.{Bool, true, false, not, ◌&&◌, ◌||◌, and-true, and-false, or-false, or_assoc, or-true, and_comm, true≢false}
use mathlib.Core.List.{List}
use mathlib.Core.Option.{Option, none, some}
use Prim.Native.Nat.{ℕ, ◌+◌, ◌*◌, ◌/◌, ◌%◌, ◌^◌, ◌≤◌, ◌<◌}
use native.Mathlib.Omega.{arith}
use native.Mathlib.Decide.{ℕ_discrete, dec_lt}
use lib.Dec.{eqb, ltb}
use lib.Count.{count_trailing_zeros}
use lib.ListN.{get_or}
use borrow.Author.Tests.{eq-eqb, ne_eqb, lt-ltb, le-ltb}
use Rattle.words.specs.Bits.{bit}
use Rattle.words.proofs.BitLaws.{bit-none, Lowest, lowest, without, lane_off, lane_gone, lane_less}
use Rattle.words.proofs.AnyLaws.{none_any}
use Rattle.words.proofs.BelowLaws.{below_more, below_wider, below_none}
use Rattle.sheet.specs.RuleSheet.{RuleSheet, streams}
use Rattle.lola.specs.Equations.{holds}
use Rattle.completions.specs.Live.{Pairs, allowed, assumed}
use Rattle.completions.specs.Steps.{Within, any_next}
use Rattle.completions.proofs.Range.{wider}
use Rattle.pairs.specs.Storage.{stored, live, set_words, live_at, reached_at, scratch_at, storage_words}
use Rattle.pairs.specs.declared.PairSet.{PairSet}
use Rattle.pairs.specs.declared.PairSet.TheVariants.{Live, Reached, Scratch}
use Rattle.pairs.specs.Changes.{base_of, eq_next, Framed, Adds, row_bit, RowOf, RowTaken, Noted}
use Rattle.pairs.proofs.Frames.{framed_none, framed_then, framed_wider}
use Rattle.pairs.proofs.Sets.{stored_eq, framed-before, framed-beyond}
use Rattle.predecessors.specs.Rows.{meets}
use Rattle.preparation.specs.Search.{joining, joiners_at, joiners, newcomers, newcomers_in, enders, Joins, Occupied, Swept}
use Rattle.preparation.proofs.Layers.{joining-same}

-- ---- joining nothing, one after the other, the same

joins_none : (base : ℕ) (s : List ℕ) (P : Pairs) → ((x : ℕ) (y : Option ℕ) → x < 256 → Within 256 y → P x y ≡ false) → Joins base s s P
joins_none base s P f = record {
  frame = framed_none live_at (base + set_words) s;
  between = λ k h g. refl;
  live = λ x y hx hy. sym (ap (λ (u : Bool). live s x y || u) (f x y hx hy) ∙ or-false (live s x y));
  next = λ x y hx hy. sym (ap (λ (u : Bool). stored s base x y || u) (f x y hx hy) ∙ or-false (stored s base x y));
}

joins_then : (base : ℕ) (s t u : List ℕ) (P Q R : Pairs) → Joins base s t P → Joins base t u Q → ((x : ℕ) (y : Option ℕ) → x < 256 → Within 256 y → (P x y || Q x y) ≡ R x y) → Joins base s u R
joins_then base s t u P Q R p q f = record {
  frame = framed_then p.frame q.frame;
  between = λ k h g. q.between k h g ∙ p.between k h g;
  live = λ x y hx hy.
      q.live x y hx hy ∙ ap (λ (w : Bool). w || Q x y) (p.live x y hx hy) ∙ or_assoc (live s x y) (P x y) (Q x y)
      ∙ ap (λ (w : Bool). live s x y || w) (f x y hx hy);
  next = λ x y hx hy.
      q.next x y hx hy ∙ ap (λ (w : Bool). w || Q x y) (p.next x y hx hy) ∙ or_assoc (stored s base x y) (P x y) (Q x y)
      ∙ ap (λ (w : Bool). stored s base x y || w) (f x y hx hy);
}

joins_as : (base : ℕ) (s t : List ℕ) (P R : Pairs) → Joins base s t P → ((x : ℕ) (y : Option ℕ) → x < 256 → Within 256 y → P x y ≡ R x y) → Joins base s t R
joins_as base s t P R p f = record {
  frame = p.frame;
  between = p.between;
  live = λ x y hx hy. p.live x y hx hy ∙ ap (λ (w : Bool). live s x y || w) (f x y hx hy);
  next = λ x y hx hy. p.next x y hx hy ∙ ap (λ (w : Bool). stored s base x y || w) (f x y hx hy);
}

-- both sets gain the same pairs
pub joins_both : (base : ℕ) (s t u : List ℕ) (P R : Pairs) → reached_at ≤ base → Adds live_at s t P → Adds base t u P → ((x : ℕ) (y : Option ℕ) → x < 256 → Within 256 y → P x y ≡ R x y) → Joins base s u R
joins_both base s t u P R l p q f = record {
  frame = framed_then (framed_wider (omega arith) (omega arith) p.frame) (framed_wider (omega arith) (omega arith) q.frame);
  between = λ k h g. q.frame.before k g ∙ p.frame.beyond k h;
  live = λ x y hx hy.
      framed-before q.frame live_at x y hx hy l ∙ p.adds x y hx hy ∙ ap (λ (w : Bool). live s x y || w) (f x y hx hy);
  next = λ x y hx hy.
      q.adds x y hx hy ∙ ap₂ ◌||◌ (framed-beyond p.frame base x y hx hy l) (f x y hx hy);
}

-- ---- one pair

pub joined-not : (base : ℕ) (s : List ℕ) (a b : ℕ) → live s a (some b) ≡ true → Joins base s s (λ x y. eqb x a && (eq_next y (some b) && not (live s a (some b))))
joined-not base s a b e =
    joins_none base s (λ x y. eqb x a && (eq_next y (some b) && not (live s a (some b))))
    (λ x y hx hy. ap (λ (u : Bool). eqb x a && (eq_next y (some b) && not u)) e ∙ ap (λ (u : Bool). eqb x a && u) (and-false (eq_next y (some b))) ∙ and-false (eqb x a))

pub joined-both : (base : ℕ) (s t u : List ℕ) (a b : ℕ) → reached_at ≤ base → live s a (some b) ≡ false → Adds live_at s t (λ x y. eqb x a && eq_next y (some b)) → Adds base t u (λ x y. eqb x a && eq_next y (some b))
    → Joins base s u (λ x y. eqb x a && (eq_next y (some b) && not (live s a (some b))))
joined-both base s t u a b l e p q =
    joins_both base s t u (λ x y. eqb x a && eq_next y (some b)) (λ x y. eqb x a && (eq_next y (some b) && not (live s a (some b)))) l p q
    (λ x y hx hy. ap (λ (v : Bool). eqb x a && v) (sym (ap (λ (u : Bool). eq_next y (some b) && not u) e ∙ and-true (eq_next y (some b)))))

-- the row of a new pair is noted
pub occupied_more : (w base : ℕ) (rows rows' s t u : List ℕ) (a b : ℕ) → a < 64 * w → w ≤ 4 → b < 256 → reached_at ≤ base
    → Adds live_at s t (λ x y. eqb x a && eq_next y (some b)) → Adds base t u (λ x y. eqb x a && eq_next y (some b)) → Noted a rows rows'
    → Occupied w rows s base → Occupied w rows' u base
unfolding eq_next
occupied_more w base rows rows' s t u a b ha hw hb l p q n o = record {
  none_there = λ x y hx hy f. absent x y hx hy f (ℕ_discrete x a);
  some_there = λ x h e. present x h e (ℕ_discrete x a);
}
  where
    -- another row is as it was, in the set and among the rows
    kept : (x : ℕ) (y : Option ℕ) → x < 256 → Within 256 y → (x ≡ a → ⊥) → stored u base x y ≡ stored s base x y
    kept x y hx hy d =
        q.adds x y hx hy ∙ ap₂ (λ (v w : Bool). v || (w && eq_next y (some b))) (framed-beyond p.frame base x y hx hy l) (ne_eqb x a d) ∙ or-false (stored s base x y)

    other : (x : ℕ) → x < 256 → (x ≡ a → ⊥) → row_bit rows' 0 x ≡ row_bit rows 0 x
    other x hx d = n.gains x hx ∙ ap (λ (v : Bool). row_bit rows 0 x || v) (ne_eqb x a d) ∙ or-false (row_bit rows 0 x)

    absent : (x : ℕ) (y : Option ℕ) → x < 256 → Within 256 y → (x < 64 * w → row_bit rows' 0 x ≡ false) → Dec (x ≡ a) → stored u base x y ≡ false
    absent x y hx hy f (yes d) =
        let e : row_bit rows' 0 x ≡ true = n.gains x hx ∙ ap (λ (v : Bool). row_bit rows 0 x || v) (eq-eqb x a d) ∙ or-true (row_bit rows 0 x) in
        let g : row_bit rows' 0 x ≡ false = f (omega arith) in
        absurd (true≢false cc)
    absent x y hx hy f (no d) = kept x y hx hy d ∙ o.none_there x y hx hy (λ h. sym (other x hx d) ∙ f h)

    present : (x : ℕ) → x < 64 * w → row_bit rows' 0 x ≡ true → Dec (x ≡ a) → (y : Option ℕ) × Within 256 y × (stored u base x y ≡ true)
    present x h e (yes d) = (
      some b,
      hb,
      q.adds x (some b) (omega arith) hb ∙ ap₂ (λ (v w : Bool). stored t base x (some b) || (v && w)) (eq-eqb x a d) (eq-eqb b b refl) ∙ or-true (stored t base x (some b)),
    )
    present x h e (no d) =
        let y = o.some_there x h (sym (other x (omega arith) d) ∙ e) in
        (y.0, y.1, kept x y.0 (omega arith) y.1 d ∙ y.2)

-- ---- the places of the layer that is taken up and of the next: behind the live set, with no word in common

abbrev pub Apart : ℕ → ℕ → Type 0
Apart base base' = (base + set_words ≤ base') ⊎ (base' + set_words ≤ base)

pub record Layers (layer next : ℕ) : Type 0 where
  pub low : reached_at ≤ layer
  pub high : layer ≤ scratch_at
  pub next_low : reached_at ≤ next
  pub next_high : next ≤ scratch_at
  pub apart : Apart layer next

pub layers-of : (a b : PairSet) → (reached_at ≤ base_of a) × (reached_at ≤ base_of b) × (base_of a ≡ base_of b → ⊥) → Layers (base_of a) (base_of b)
layers-of Live b h = absurd (omega (arith, h.0))
layers-of Reached Live h = absurd (omega (arith, h.1))
layers-of Reached Reached h = absurd (h.2 refl)
layers-of Reached Scratch h = record { low = omega arith; high = omega arith; next_low = omega arith; next_high = omega arith; apart = inl (omega arith) }
layers-of Scratch Live h = absurd (omega (arith, h.1))
layers-of Scratch Reached h = record { low = omega arith; high = omega arith; next_low = omega arith; next_high = omega arith; apart = inr (omega arith) }
layers-of Scratch Scratch h = absurd (h.2 refl)

-- what is done to one set leaves another as it was
framed_beside : {layer next : ℕ} {s t : List ℕ} → Apart layer next → Framed layer set_words s t → (x : ℕ) (y : Option ℕ) → x < 256 → Within 256 y → stored t next x y ≡ stored s next x y
framed_beside {next = next} (inl d) f x y hx hy = framed-beyond f next x y hx hy d
framed_beside {next = next} (inr d) f x y hx hy = framed-before f next x y hx hy d

pub occupied_beside : (w layer next b : ℕ) (rows s t : List ℕ) → w ≤ 4 → Apart layer next → RowTaken layer b s t → Occupied w rows s next → Occupied w rows t next
occupied_beside w layer next b rows s t hw d r o = record {
  none_there = λ x y hx hy h. framed_beside d r.frame x y hx hy ∙ o.none_there x y hx hy h;
  some_there = λ x h e. let y = o.some_there x h e in (y.0, y.1, framed_beside d r.frame x y.0 (omega arith) y.1 ∙ y.2);
}

-- ---- the lanes of a word, one after the other

-- once the lanes of `rest` have joined, those of the word have
pub record Lanes (base : ℕ) (s t : List ℕ) (j word b rest : ℕ) : Type 0 where
  pub fits : rest < 2 ^ 64
  pub whole : (u : List ℕ) → Joins base t u (newcomers_in j rest b (live t)) → Joins base s u (newcomers_in j word b (live s))

pub lanes-first : (base : ℕ) (s : List ℕ) (j word b : ℕ) → word < 2 ^ 64 → Lanes base s s j word b word
lanes-first base s j word b l = record { fits = l; whole = λ u h. h }

module _ (base : ℕ) (s t : List ℕ) (j word b rest : ℕ) (p : Lanes base s t j word b rest) where
  pub lanes_next : (rest ≡ 0 → ⊥) → Lowest 64 rest (count_trailing_zeros 64 rest)
  lanes_next n = lowest 64 rest p.fits n

  pub lanes_all : rest ≡ 0 → Joins base s t (newcomers_in j word b (live s))
  unfolding newcomers_in
  lanes_all e = p.whole t (joins_none base t (newcomers_in j rest b (live t)) at)
    where
      at : (x : ℕ) (y : Option ℕ) → x < 256 → Within 256 y → newcomers_in j rest b (live t) x y ≡ false
      at x none hx hy = refl
      at x (some y) hx hy =
          ap (λ (v : Bool). eqb y b && ((eqb (x / 64) j && v) && not (live t x (some y)))) (ap (bit (x % 64)) e ∙ bit-none (x % 64))
          ∙ ap (λ (v : Bool). eqb y b && (v && not (live t x (some y)))) (and-false (eqb (x / 64) j)) ∙ and-false (eqb y b)

  pub lanes-more : (u : List ℕ) (i : ℕ) → i < 64 → bit i rest ≡ true → Joins base t u (λ x y. eqb x (64 * j + i) && (eq_next y (some b) && not (live t (64 * j + i) (some b))))
      → Lanes base s u j word b (without rest i)
  unfolding newcomers_in eq_next
  lanes-more u i l o q = record {
    fits = omega (arith, p.fits, lane_less rest i l o);
    whole = λ z h. p.whole z (joins_then base t u z one (newcomers_in j (without rest i) b (live u)) (newcomers_in j rest b (live t)) q h at);
  }
    where
      one : Pairs
      one x y = eqb x (64 * j + i) && (eq_next y (some b) && not (live t (64 * j + i) (some b)))

      -- other pairs are as they were, and so are other lanes
      kept : (x y : ℕ) → x < 256 → y < 256 → (x ≡ 64 * j + i → ⊥) → live u x (some y) ≡ live t x (some y)
      kept x y hx hy e =
          q.live x (some y) hx hy
          ∙ ap (λ (v : Bool). live t x (some y) || (v && (eqb y b && not (live t (64 * j + i) (some b))))) (ne_eqb x (64 * j + i) e)
          ∙ or-false (live t x (some y))

      same : (k : ℕ) → k < 64 → (k ≡ i → ⊥) → bit k (without rest i) ≡ bit k rest
      same k h e = lane_off k rest i h l ∙ ap (λ (v : Bool). bit k rest && not v) (ne_eqb k i e) ∙ and-true (bit k rest)

      at : (x : ℕ) (y : Option ℕ) → x < 256 → Within 256 y → (one x y || newcomers_in j (without rest i) b (live u) x y) ≡ newcomers_in j rest b (live t) x y
      at x none hx hy = ap (λ (v : Bool). v || false) (and-false (eqb x (64 * j + i)))
      at x (some y) hx hy = go (ℕ_discrete y b) (ℕ_discrete x (64 * j + i)) (ℕ_discrete (x / 64) j)
        where
          go : Dec (y ≡ b) → Dec (x ≡ 64 * j + i) → Dec (x / 64 ≡ j)
              → ((eqb x (64 * j + i) && (eqb y b && not (live t (64 * j + i) (some b)))) || (eqb y b && ((eqb (x / 64) j && bit (x % 64) (without rest i)) && not (live u x (some y)))))
              ≡ (eqb y b && ((eqb (x / 64) j && bit (x % 64) rest) && not (live t x (some y))))
          go (no d) e f = rw (ne_eqb y b d) (ap (λ (v : Bool). v || false) (and-false (eqb x (64 * j + i))))
          go (yes d) (yes e) f =
              let m : x % 64 ≡ i = omega arith in
              rw (m, eq-eqb y b d, eq-eqb x (64 * j + i) e, eq-eqb (x / 64) j (omega arith), lane_gone rest i l, o)
              (or-false (not (live t (64 * j + i) (some b))) ∙ ap₂ (λ (k n : ℕ). not (live t k (some n))) (sym e) (sym d))
          go (yes d) (no e) (yes f) = rw (ne_eqb x (64 * j + i) e, kept x y hx hy e, same (x % 64) (omega arith) (omega arith)) refl
          go (yes d) (no e) (no f) = rw (ne_eqb x (64 * j + i) e, ne_eqb (x / 64) j f) refl

-- ---- the words of a row, one after the other; those below j have joined

module _ (base : ℕ) (s : List ℕ) (row : List ℕ) (b : ℕ) where
  abbrev N : ℕ → ℕ → ℕ → Bool
  N a x y = ltb x a && (row_bit row 0 x && not (live s x (some y)))

  pub words-first : Joins base s s (newcomers (64 * 0) row b (live s))
  unfolding newcomers
  words-first = joins_none base s (newcomers (64 * 0) row b (live s)) at
    where
      at : (x : ℕ) (y : Option ℕ) → x < 256 → Within 256 y → newcomers (64 * 0) row b (live s) x y ≡ false
      at x none hx hy = refl
      at x (some y) hx hy = ap (λ (u : Bool). eqb y b && u) (below_none x (row_bit row 0 x && not (live s x (some y)))) ∙ and-false (eqb y b)

  pub words_more : (t u : List ℕ) (j : ℕ) → Joins base s t (newcomers (64 * j) row b (live s)) → Joins base t u (newcomers_in j (get_or row j 0) b (live t))
      → Joins base s u (newcomers (64 * (j + 1)) row b (live s))
  unfolding newcomers newcomers_in row_bit
  words_more t u j p q =
      joins_then base s t u (newcomers (64 * j) row b (live s)) (newcomers_in j (get_or row j 0) b (live t)) (newcomers (64 * (j + 1)) row b (live s)) p q at
    where
      at : (x : ℕ) (y : Option ℕ) → x < 256 → Within 256 y
          → (newcomers (64 * j) row b (live s) x y || newcomers_in j (get_or row j 0) b (live t) x y) ≡ newcomers (64 * (j + 1)) row b (live s) x y
      at x none hx hy = refl
      at x (some y) hx hy = go (ℕ_discrete (x / 64) j)
        where
          W : Bool
          W = (eqb (x / 64) j && bit (x % 64) (get_or row j 0)) && not (live t x (some y))

          -- the pairs of word j are as they were
          kept : N (64 * j) x y ≡ false → live t x (some y) ≡ live s x (some y)
          kept e =
              p.live x (some y) hx hy ∙ ap (λ (v : Bool). live s x (some y) || (eqb y b && v)) e
              ∙ ap (λ (v : Bool). live s x (some y) || v) (and-false (eqb y b)) ∙ or-false (live s x (some y))

          same : x / 64 ≡ j → N (64 * j) x y ≡ false → W ≡ N (64 * (j + 1)) x y
          same f e =
              let there : j ≡ 0 + x / 64 = omega arith in
              ap₂ (λ (v w : Bool). (v && bit (x % 64) (get_or row j 0)) && not w) (eq-eqb (x / 64) j f) (kept e)
              ∙ ap (λ (k : ℕ). bit (x % 64) (get_or row k 0) && not (live s x (some y))) there
              ∙ sym (ap (λ (v : Bool). v && (row_bit row 0 x && not (live s x (some y)))) (lt-ltb x (64 * (j + 1)) (omega arith)))

          go : Dec (x / 64 ≡ j) → ((eqb y b && N (64 * j) x y) || (eqb y b && W)) ≡ (eqb y b && N (64 * (j + 1)) x y)
          go (yes f) =
              let e : N (64 * j) x y ≡ false = ap (λ (v : Bool). v && (row_bit row 0 x && not (live s x (some y)))) (le-ltb x (64 * j) (omega arith)) in
              ap₂ (λ (v w : Bool). (eqb y b && v) || (eqb y b && w)) e (same f e) ∙ ap (λ (v : Bool). v || (eqb y b && N (64 * (j + 1)) x y)) (and-false (eqb y b))
          go (no f) =
              ap (λ (v : Bool). (eqb y b && N (64 * j) x y) || (eqb y b && ((v && bit (x % 64) (get_or row j 0)) && not (live t x (some y))))) (ne_eqb (x / 64) j f)
              ∙ ap (λ (v : Bool). (eqb y b && N (64 * j) x y) || v) (and-false (eqb y b)) ∙ or-false (eqb y b && N (64 * j) x y)
              ∙ ap (λ (v : Bool). eqb y b && v) (below_wider x (64 * j) (64 * (j + 1)) (row_bit row 0 x && not (live s x (some y))) (omega arith) (λ g k. absurd (f (omega arith))))

  pub words-all : (t : List ℕ) (j w : ℕ) → j ≡ w → Joins base s t (newcomers (64 * j) row b (live s)) → Joins base s t (newcomers (64 * w) row b (live s))
  words-all t j w e p = rw e at p

-- ---- the ends, one after the other

module _ (base : ℕ) (s : List ℕ) (row : List ℕ) where
  pub ends-none : Joins base s s (enders 0 row)
  unfolding enders
  ends-none = joins_none base s (enders 0 row) at
    where
      at : (x : ℕ) (y : Option ℕ) → x < 256 → Within 256 y → enders 0 row x y ≡ false
      at x none hx hy = below_none x (row_bit row 0 x)
      at x (some y) hx hy = refl

  -- what is passed over is not in the row
  pub ends_skip : (t : List ℕ) (from a : ℕ) → from ≤ a → ((x : ℕ) → from ≤ x → x < a → row_bit row 0 x ≡ false) → Joins base s t (enders from row) → Joins base s t (enders a row)
  unfolding enders
  ends_skip t from a l f j = joins_as base s t (enders from row) (enders a row) j at
    where
      at : (x : ℕ) (y : Option ℕ) → x < 256 → Within 256 y → enders from row x y ≡ enders a row x y
      at x none hx hy = below_wider x from a (row_bit row 0 x) l (λ g k. f x g k)
      at x (some y) hx hy = refl

  pub ends_more : (t u : List ℕ) (a : ℕ) → row_bit row 0 a ≡ true → Joins base s t (enders a row) → Joins base t u (λ x y. eqb x a && eq_next y none) → Joins base s u (enders (a + 1) row)
  unfolding enders eq_next
  ends_more t u a e p j = joins_then base s t u (enders a row) (λ x y. eqb x a && eq_next y none) (enders (a + 1) row) p j at
    where
      at : (x : ℕ) (y : Option ℕ) → x < 256 → Within 256 y → (enders a row x y || (eqb x a && eq_next y none)) ≡ enders (a + 1) row x y
      at x none hx hy = below_more x a (row_bit row 0 x) true (λ q. sym (ap (row_bit row 0) q ∙ e))
      at x (some y) hx hy = and-false (eqb x a)

-- ---- the pairs before one b, and before each b below a bound

module _ (x : RuleSheet) (w : ℕ) (low : 2 ^ streams x ≤ 64 * w) where
  pub beyond-none : (a : ℕ) → 64 * w ≤ a → allowed x a ≡ false
  unfolding allowed
  beyond-none a h = ap (λ (u : Bool). u && assumed x a) (le-ltb a (2 ^ streams x) (omega arith))

  turned : (o r n m : Bool) → r ≡ (o && m) → (r && n) ≡ (o && (n && m))
  turned true r n m e = ap (λ (u : Bool). u && n) e ∙ and_comm m n
  turned false r n m e = ap (λ (u : Bool). u && n) e

  pub column-joins : (base layer : ℕ) (s t row : List ℕ) (b : ℕ) → RowOf w row (λ a. allowed x a && meets x (64 * w) (stored s layer) a b)
      → Joins base s t (newcomers (64 * w) row b (live s)) → Joins base s t (joiners_at x (64 * w) b (live s) (stored s layer))
  unfolding newcomers joiners_at joining
  column-joins base layer s t row b h j = joins_as base s t (newcomers (64 * w) row b (live s)) (joiners_at x (64 * w) b (live s) (stored s layer)) j at
    where
      K : ℕ → ℕ → Bool
      K a c = joining x (64 * w) (live s) (stored s layer) a c

      at : (a : ℕ) (y : Option ℕ) → a < 256 → Within 256 y → newcomers (64 * w) row b (live s) a y ≡ joiners_at x (64 * w) b (live s) (stored s layer) a y
      at a none ha hy = refl
      at a (some c) ha hy = go (ℕ_discrete c b) (dec_lt a (64 * w))
        where
          go : Dec (c ≡ b) → Dec (a < 64 * w) → (eqb c b && (ltb a (64 * w) && (row_bit row 0 a && not (live s a (some c))))) ≡ (eqb c b && K a c)
          go (no d) l = ap (λ (u : Bool). u && (ltb a (64 * w) && (row_bit row 0 a && not (live s a (some c))))) (ne_eqb c b d) ∙ sym (ap (λ (u : Bool). u && K a c) (ne_eqb c b d))
          go (yes d) (yes l) =
              ap (λ (u : Bool). eqb c b && u)
              (ap (λ (u : Bool). u && (row_bit row 0 a && not (live s a (some c)))) (lt-ltb a (64 * w) l)
              ∙ turned (allowed x a) (row_bit row 0 a) (not (live s a (some c))) (meets x (64 * w) (stored s layer) a c)
              (h a l ∙ ap (λ (k : ℕ). allowed x a && meets x (64 * w) (stored s layer) a k) (sym d)))
          go (yes d) (no l) =
              ap (λ (u : Bool). eqb c b && u)
              (ap (λ (u : Bool). u && (row_bit row 0 a && not (live s a (some c)))) (le-ltb a (64 * w) (omega arith))
              ∙ sym (ap (λ (u : Bool). u && (not (live s a (some c)) && meets x (64 * w) (stored s layer) a c)) (beyond-none a (omega arith))))

-- ---- the rows of a layer, one after the other

-- a row with no pair lets nothing join
idle : (x : RuleSheet) (n : ℕ) (L F : Pairs) (a b : ℕ) → ((c : Option ℕ) → Within n c → F b c ≡ false) → joining x n L F a b ≡ false
unfolding joining meets any_next
idle x n L F a b f =
    ap (λ (u : Bool). allowed x a && (not (L a (some b)) && u))
    (ap₂ (λ (u v : Bool). (u && holds x (some a) b none) || v) (f none tt)
    (none_any n (λ c. F b (some c) && holds x (some a) b (some c)) (λ i l. ap (λ (u : Bool). u && holds x (some a) b (some i)) (f (some i) l))))
    ∙ ap (λ (u : Bool). allowed x a && u) (and-false (not (L a (some b)))) ∙ and-false (allowed x a)

lost : (f u v : Bool) → ((f && not u) && not v) ≡ (f && not (u || v))
lost true true v = refl
lost true false v = refl
lost false u v = refl

module _ (x : RuleSheet) (w layer next : ℕ) (hw : w ≤ 4) (occ s : List ℕ) (o : Occupied w occ s layer) where
  abbrev K : ℕ → ℕ → Bool
  K a c = joining x (64 * w) (live s) (stored s layer) a c

  abbrev J : ℕ → Pairs
  J b = joiners x (64 * w) b (live s) (stored s layer)

  -- the rows that are passed over have no pair
  module _ (from b : ℕ) (l : from ≤ b) (h : b ≤ 64 * w) (n : (c : ℕ) → from ≤ c → c < b → row_bit occ 0 c ≡ false) where
    passed : (c : ℕ) (y : Option ℕ) → from ≤ c → c < b → Within 256 y → stored s layer c y ≡ false
    passed c y l k hy = o.none_there c y (omega arith) hy (λ g. n c l k)

    joiners-skip : (a : ℕ) (y : Option ℕ) → J from a y ≡ J b a y
    unfolding joiners
    joiners-skip a none = refl
    joiners-skip a (some c) =
        below_wider c from b (K a c) l
        (λ k g. idle x (64 * w) (live s) (stored s layer) a c (λ y f. passed c y k g (wider (64 * w) 256 (omega arith) y f)))

    left-skip : (a : ℕ) (y : Option ℕ) → Within 256 y → (stored s layer a y && not (ltb a from)) ≡ (stored s layer a y && not (ltb a b))
    left-skip a y hy = go (dec_lt a from) (dec_lt a b)
      where
        go : Dec (a < from) → Dec (a < b) → (stored s layer a y && not (ltb a from)) ≡ (stored s layer a y && not (ltb a b))
        go (yes d) e = ap (λ (u : Bool). stored s layer a y && not u) (lt-ltb a from d ∙ sym (lt-ltb a b (omega arith)))
        go (no d) (yes e) = ap (λ (u : Bool). u && not (ltb a from)) (passed a y (omega arith) e hy) ∙ sym (ap (λ (u : Bool). u && not (ltb a b)) (passed a y (omega arith) e hy))
        go (no d) (no e) = ap (λ (u : Bool). stored s layer a y && not u) (le-ltb a from (omega arith) ∙ sym (le-ltb a b (omega arith)))

    pub swept-skip : (t : List ℕ) → Swept x (64 * w) from layer next s t → Swept x (64 * w) b layer next s t
    swept-skip t p = record {
      frame = p.frame;
      live = λ a y ha hy. p.live a y ha hy ∙ ap (λ (u : Bool). live s a y || u) (joiners-skip a y);
      gained = λ a y ha hy. p.gained a y ha hy ∙ ap (λ (u : Bool). stored s next a y || u) (joiners-skip a y);
      left = λ a y ha hy. p.left a y ha hy ∙ left-skip a y hy;
    }

  pub swept-none : Swept x (64 * w) 0 layer next s s
  unfolding joiners
  swept-none = record {
    frame = framed_none live_at storage_words s;
    live = λ a y ha hy. sym (ap (λ (u : Bool). live s a y || u) (none_yet a y) ∙ or-false (live s a y));
    gained = λ a y ha hy. sym (ap (λ (u : Bool). stored s next a y || u) (none_yet a y) ∙ or-false (stored s next a y));
    left = λ a y ha hy. sym (ap (λ (u : Bool). stored s layer a y && not u) (le-ltb a 0 (omega arith)) ∙ and-true (stored s layer a y));
  }
    where
      none_yet : (a : ℕ) (y : Option ℕ) → J 0 a y ≡ false
      none_yet a none = refl
      none_yet a (some c) = below_none c (K a c)

  module _ (places : Layers layer next) (t u z : List ℕ) (b : ℕ) (hb : b < 64 * w)
      (p : Swept x (64 * w) b layer next s t) (q : Joins next t u (joiners_at x (64 * w) b (live t) (stored t layer))) (r : RowTaken layer b u z) where
    low : reached_at ≤ layer
    low = places.low

    high : layer ≤ scratch_at
    high = places.high

    next-high : next ≤ scratch_at
    next-high = places.next_high

    layer-kept : (a : ℕ) (y : Option ℕ) → a < 256 → Within 256 y → stored u layer a y ≡ stored t layer a y
    layer-kept a y ha hy = stored_eq t u layer layer a y ha hy (λ k h. go k h places.apart)
      where
        go : (k : ℕ) → k < set_words → Apart layer next → get_or u (layer + k) 0 ≡ get_or t (layer + k) 0
        go k h (inl d) = q.between (layer + k) (omega arith) (omega arith)
        go k h (inr d) = q.frame.beyond (layer + k) (omega arith)

    -- the row is still as it was, and so are the pairs with b
    same : (a : ℕ) → a < 256 → joining x (64 * w) (live t) (stored t layer) a b ≡ K a b
    unfolding joiners
    same a ha =
        joining-same x (64 * w) (live t) (live s) (stored t layer) (stored s layer) a b
        (p.live a (some b) ha (omega arith) ∙ ap (λ (u : Bool). live s a (some b) || u) (ap (λ (u : Bool). u && K a b) (le-ltb b b (omega arith))) ∙ or-false (live s a (some b)))
        (λ c h. p.left b c (omega arith) (wider (64 * w) 256 (omega arith) c h) ∙ ap (λ (u : Bool). stored s layer b c && not u) (le-ltb b b (omega arith)) ∙ and-true (stored s layer b c))

    more : (a : ℕ) (y : Option ℕ) → a < 256 → (J b a y || joiners_at x (64 * w) b (live t) (stored t layer) a y) ≡ J (b + 1) a y
    unfolding joiners joiners_at
    more a none ha = refl
    more a (some c) ha =
        below_more c b (K a c) (joining x (64 * w) (live t) (stored t layer) a c)
        (λ d. ap (joining x (64 * w) (live t) (stored t layer) a) d ∙ same a ha ∙ ap (K a) (sym d))

    below_next : (a : ℕ) → (ltb a b || eqb a b) ≡ ltb a (b + 1)
    below_next a = ap₂ ◌||◌ (sym (and-true (ltb a b))) (sym (and-true (eqb a b))) ∙ below_more a b true true (λ d. refl) ∙ and-true (ltb a (b + 1))

    pub swept-more : Swept x (64 * w) (b + 1) layer next s z
    swept-more = record {
      frame = framed_then p.frame (framed_then (framed_wider (omega arith) (omega arith) q.frame) (framed_wider (omega arith) (omega arith) r.frame));
      live = λ a y ha hy.
          framed-before r.frame live_at a y ha hy (omega arith) ∙ q.live a y ha hy
          ∙ ap (λ (v : Bool). v || joiners_at x (64 * w) b (live t) (stored t layer) a y) (p.live a y ha hy)
          ∙ or_assoc (live s a y) (J b a y) (joiners_at x (64 * w) b (live t) (stored t layer) a y) ∙ ap (λ (v : Bool). live s a y || v) (more a y ha);
      gained = λ a y ha hy.
          framed_beside places.apart r.frame a y ha hy ∙ q.next a y ha hy ∙ ap (λ (v : Bool). v || joiners_at x (64 * w) b (live t) (stored t layer) a y) (p.gained a y ha hy)
          ∙ or_assoc (stored s next a y) (J b a y) (joiners_at x (64 * w) b (live t) (stored t layer) a y) ∙ ap (λ (v : Bool). stored s next a y || v) (more a y ha);
      left = λ a y ha hy.
          r.taken a y ha hy ∙ ap (λ (v : Bool). v && not (eqb a b)) (layer-kept a y ha hy ∙ p.left a y ha hy) ∙ lost (stored s layer a y) (ltb a b) (eqb a b)
          ∙ ap (λ (v : Bool). stored s layer a y && not v) (below_next a);
    }
