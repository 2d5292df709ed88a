-- The search for live pairs, layer by layer, on the storage.
use mathlib.Core.Path.{◌≡◌, refl, sym, ap, ap₂, ◌∙◌}
use mathlib.Core.Logic.{inl, inr}
use mathlib.Core.Bool.{Bool, true, false, not, ◌&&◌, ◌||◌, and-false, true≢false}
use mathlib.Core.List.{List, []}
use mathlib.Core.Option.{Option, none, some}
use Rattle.std.specs.Prelude.{Option as Perhaps, Some, None}
use Rattle.std.specs.Option.{is_some}
use Prim.Native.Nat.{ℕ, zero, suc, ◌+◌, ◌-◌, ◌*◌, ◌^◌, ◌≤◌, ◌<◌}
use native.Mathlib.Omega.{arith}
use native.Mathlib.Decide.{dec_lt}
use lib.Dec.{T, ltb}
use lib.ListN.{get_or, replicate}
use borrow.Author.Tests.{lt-ltb, le-ltb}
use Rattle.words.proofs.BitLaws.{bit-none}
use Rattle.words.proofs.Tests.{and_left, and_right, of_true, or_left}
use Rattle.words.proofs.Bools.{contrary}
use Rattle.sheet.specs.RuleSheet.{RuleSheet, streams}
use Rattle.completions.specs.Live.{Pairs, Live, allowed, ExactReach, count_pairs}
use Rattle.completions.specs.Steps.{Within, Represents}
use Rattle.completions.proofs.Count.{pairs_lt, pairs-le}
use Rattle.completions.proofs.ExactReach.{fresh}
use Rattle.completions.proofs.Backward.{end_set, live_within, layer}
use Rattle.completions.proofs.Range.{wider}
use Rattle.pairs.specs.Storage.{stored, slot, live, set_words, live_at, reached_at, scratch_at, storage_words, max_pairs}
use Rattle.pairs.specs.Changes.{row_bit, RowOf, FirstFrom, Framed, Zeroed}
use Rattle.pairs.proofs.Frames.{framed_none, framed_then, framed_wider}
use Rattle.pairs.proofs.Sets.{framed-beyond, zeroed_none, set_ext}
use Rattle.predecessors.proofs.Uniting.{empty_row}
use Rattle.preparation.specs.Searched.{Searched}
use Rattle.preparation.specs.Search.{joiners, enders, Joins, Empty, Occupied, Started, Swept}
use Rattle.preparation.proofs.Layers.{joining-same, within-next, fresh-next, all_found, found-reach}
use Rattle.preparation.proofs.Joining.{Apart, Layers, beyond-none}

-- ---- the parts of the code

pub started : (w : ℕ) (row s t z : List ℕ) → Zeroed live_at storage_words s t → Joins reached_at t z (enders (64 * w) row) → Started w row s z
started w row s t z c j = record {
  frame = framed_then c.frame (framed_wider (omega arith) (omega arith) j.frame);
  live = λ x y hx hy. j.live x y hx hy ∙ ap (λ (b : Bool). b || enders (64 * w) row x y) (zeroed_none live_at storage_words live_at s t c (omega arith) (omega arith) x y hx hy);
  layer = λ x y hx hy. j.next x y hx hy ∙ ap (λ (b : Bool). b || enders (64 * w) row x y) (zeroed_none live_at storage_words reached_at s t c (omega arith) (omega arith) x y hx hy);
  next = λ x y hx hy. framed-beyond j.frame scratch_at x y hx hy (omega arith) ∙ zeroed_none live_at storage_words scratch_at s t c (omega arith) (omega arith) x y hx hy;
}

-- the rows of the first layer are those of its ends
pub rows_started : (w : ℕ) (row s t : List ℕ) → w ≤ 4 → Started w row s t → Occupied w row t reached_at
unfolding enders
rows_started w row s t hw p = record {
  none_there = λ x y hx hy f. p.layer x y hx hy ∙ none_in x y f;
  some_there = λ x h e. (none, tt, p.layer x none (omega arith) tt ∙ ap₂ ◌&&◌ (lt-ltb x (64 * w) h) e);
}
  where
    none_in : (x : ℕ) (y : Option ℕ) → (x < 64 * w → row_bit row 0 x ≡ false) → enders (64 * w) row x y ≡ false
    none_in x (some c) f = refl
    none_in x none f = go (dec_lt x (64 * w))
      where
        go : Dec (x < 64 * w) → (ltb x (64 * w) && row_bit row 0 x) ≡ false
        go (yes h) = ap (λ (u : Bool). ltb x (64 * w) && u) (f h) ∙ and-false (ltb x (64 * w))
        go (no h) = ap (λ (u : Bool). u && row_bit row 0 x) (le-ltb x (64 * w) (omega arith))

-- an empty set has no rows
pub rows_none : (w base : ℕ) (s : List ℕ) → Empty s base → Occupied w (replicate 4 0) s base
rows_none w base s f = record { none_there = λ x y hx hy h. f x y hx hy; some_there = λ x h e. contrary e (empty_row 4 x) }

module _ (x : RuleSheet) (n v : ℕ) (hn : n ≤ 256) where
  abbrev Same : Pairs → Pairs → Type 0
  Same P Q = (a : ℕ) (y : Option ℕ) → a < 256 → Within 256 y → P a y ≡ Q a y

  joiners-same : (L L' F F' : Pairs) → Same L L' → Same F F' → Same (joiners x n v L F) (joiners x n v L' F')
  unfolding joiners
  joiners-same L L' F F' e f a none ha hy = refl
  joiners-same L L' F F' e f a (some b) ha hy =
      ap (λ (u : Bool). ltb b v && u) (joining-same x n L L' F F' a b (e a (some b) ha hy) (λ c h. f b c hy (wider n 256 hn c h)))

-- ---- the search after d layers

pub record Searching (x : RuleSheet) (layer next : ℕ) (s₀ s : List ℕ) (d : ℕ) : Type 0 where
  pub frame : Framed live_at storage_words s₀ s
  pub newest : (a : ℕ) (y : Option ℕ) → a < 256 → Within 256 y → stored s layer a y ≡ fresh x 256 d a y
  pub free : Empty s next
  pub grown : d ≤ count_pairs 256 (live s)
  pub grows : (a : ℕ) (y : Option ℕ) → a < 256 → Within 256 y → stored s layer a y ≡ true → d < count_pairs 256 (live s)
  pub last : (e : ℕ) → d ≡ suc e → (a : ℕ) × (b : Option ℕ) × T (fresh x 256 e a b)
  pub live : (a : ℕ) (y : Option ℕ) → a < 256 → Within 256 y → live s a y ≡ live_within x 256 d a y

module _ (x : RuleSheet) (w : ℕ) (low : 2 ^ streams x ≤ 64 * w) where
  ends_set : (row : List ℕ) → RowOf w row (allowed x) → (a : ℕ) (y : Option ℕ) → enders (64 * w) row a y ≡ live_within x 256 0 a y
  unfolding enders live_within end_set
  ends_set row r a (some c) = refl
  ends_set row r a none = go (dec_lt a (64 * w))
    where
      go : Dec (a < 64 * w) → (ltb a (64 * w) && row_bit row 0 a) ≡ allowed x a
      go (yes l) = ap₂ ◌&&◌ (lt-ltb a (64 * w) l) (r a l)
      go (no l) = ap (λ (u : Bool). u && row_bit row 0 a) (le-ltb a (64 * w) (omega arith)) ∙ sym (beyond-none x w low a (omega arith))

  pub search-start : (row s t : List ℕ) → RowOf w row (allowed x) → Started w row s t → Searching x reached_at scratch_at t t 0
  unfolding fresh live_within
  search-start row s t r p = record {
    frame = framed_none live_at storage_words t;
    live = λ a y ha hy. p.live a y ha hy ∙ ends_set row r a y;
    newest = λ a y ha hy. p.layer a y ha hy ∙ ends_set row r a y;
    free = p.next;
    grown = omega arith;
    grows = λ a y ha hy e.
        let none_yet : Pairs = λ a b. false in
        omega (
          arith,
          pairs_lt 256 none_yet (live t) (λ a b ha hb t. absurd t) a y ha hy tt
              (of_true (live t a y) (p.live a y ha hy ∙ sym (p.layer a y ha hy) ∙ e)),
        );
    last = λ e h. absurd (omega arith);
  }

  module _ (small : 2 ^ streams x ≤ 256) (high : 64 * w ≤ 256) (layer next : ℕ) (s₀ s t rows : List ℕ) (d r : ℕ) (p : Searching x layer next s₀ s d)
      (o : Occupied w rows s layer) (go_on : r < 64 * w) (found : row_bit rows 0 r ≡ true) (q : Swept x (64 * w) (64 * w) layer next s t) where
    -- a pair of the layer
    pair : (y : Option ℕ) × Within 256 y × (stored s layer r y ≡ true)
    pair = o.some_there r go_on found

    same : (a : ℕ) (y : Option ℕ) → a < 256 → Within 256 y
        → joiners x (64 * w) (64 * w) (live s) (stored s layer) a y ≡ joiners x (64 * w) (64 * w) (live_within x 256 d) (fresh x 256 d) a y
    same = joiners-same x (64 * w) (64 * w) high (live s) (live_within x 256 d) (stored s layer) (fresh x 256 d) p.live p.newest

    live_now : (a : ℕ) (y : Option ℕ) → a < 256 → Within 256 y → live t a y ≡ live_within x 256 (suc d) a y
    live_now a y ha hy = q.live a y ha hy ∙ ap₂ ◌||◌ (p.live a y ha hy) (same a y ha hy) ∙ sym (within-next x small (64 * w) low high d a y ha hy)

    newest-now : (a : ℕ) (y : Option ℕ) → a < 256 → Within 256 y → stored t next a y ≡ fresh x 256 (suc d) a y
    newest-now a y ha hy = q.gained a y ha hy ∙ ap₂ ◌||◌ (p.free a y ha hy) (same a y ha hy) ∙ sym (fresh-next x small (64 * w) low high d a y ha hy)

    -- every row of the layer is taken out
    free-now : Empty t layer
    free-now a y ha hy = q.left a y ha hy ∙ go (dec_lt a (64 * w))
      where
        go : Dec (a < 64 * w) → (stored s layer a y && not (ltb a (64 * w))) ≡ false
        go (yes h) = ap (λ (u : Bool). stored s layer a y && not u) (lt-ltb a (64 * w) h) ∙ and-false (stored s layer a y)
        go (no h) = ap (λ (u : Bool). u && not (ltb a (64 * w))) (o.none_there a y ha hy (λ g. absurd (h g)))

    kept : (a : ℕ) (y : Option ℕ) → a < 256 → Within 256 y → T (live s a y) → T (live t a y)
    kept a y ha hy h = rw (q.live a y ha hy) (or_left (live s a y) (joiners x (64 * w) (64 * w) (live s) (stored s layer) a y) h)

    new-pair : (a : ℕ) (y : Option ℕ) → a < 256 → Within 256 y → stored t next a y ≡ true → count_pairs 256 (live s) < count_pairs 256 (live t)
    unfolding fresh layer
    new-pair a y ha hy e =
        let f : T (live_within x 256 (suc d) a y && not (live_within x 256 d a y)) = of_true _ (sym (newest-now a y ha hy) ∙ e) in
        pairs_lt 256 (live s) (live t) kept a y ha hy
        (rw (p.live a y ha hy) (and_right (live_within x 256 (suc d) a y) (not (live_within x 256 d a y)) f))
        (rw (live_now a y ha hy) (and_left (live_within x 256 (suc d) a y) (not (live_within x 256 d a y)) f))

    pub search-more : Searching x next layer s₀ t (suc d)
    search-more =
        let l : d < count_pairs 256 (live s) = p.grows r pair.0 (omega arith) pair.1 pair.2 in
        record {
          frame = framed_then p.frame q.frame;
          live = live_now;
          newest = newest-now;
          free = free-now;
          grown = omega (arith, l, pairs-le 256 (live s) (live t) kept);
          grows = λ a y ha hy e. omega (arith, l, new-pair a y ha hy e);
          last = λ e h.
              let g : d ≡ e = omega arith in
              (r, pair.0, rw (← g) (of_true (fresh x 256 d r pair.0) (sym (p.newest r pair.0 (omega arith) pair.1) ∙ pair.2)));
        }

-- the layer and the next layer change places
pub turned : {layer next : ℕ} → Layers layer next → Layers next layer
turned p = record { low = p.next_low; high = p.next_high; next_low = p.low; next_high = p.high; apart = apart_turned p.apart }
  where
    apart_turned : {a b : ℕ} → Apart a b → Apart b a
    apart_turned (inl h) = inr h
    apart_turned (inr h) = inl h

-- whether a row has a valuation
pub some-bit : (p : ℕ → Bool) (n : ℕ) (o : Perhaps ℕ) → FirstFrom p n 0 o → is_some o ≡ true → (r : ℕ) × (r < n) × (p r ≡ true)
some-bit p n None h e = absurd (true≢false (sym e))
some-bit p n (Some r) h e = (r, h.1, h.3)

pub no-bit : (p : ℕ → Bool) (n : ℕ) (o : Perhaps ℕ) → FirstFrom p n 0 o → is_some o ≡ false → (a : ℕ) → a < n → p a ≡ false
no-bit p n None h e a l = h a (omega arith) l
no-bit p n (Some r) h e a l = absurd (true≢false e)

-- ---- the end of the search

-- the words of a set with no pair are 0
words-none : (s : List ℕ) (base : ℕ) → ((k : ℕ) → get_or s k 0 < 2 ^ 64) → Empty s base → (k : ℕ) → k < set_words → get_or s (base + k) 0 ≡ 0
unfolding stored
words-none s base fit f k h = set_ext s [] base 0 (λ k h. fit (base + k)) (λ k h. omega arith) (λ a y ha hy. f a y ha hy ∙ sym (bit-none (slot a y))) k h

module _ (x : RuleSheet) (small : 2 ^ streams x ≤ 256) (w layer next : ℕ) (s₀ s rows : List ℕ) (d : ℕ) (p : Searching x layer next s₀ s d)
    (o : Occupied w rows s layer) (n : (a : ℕ) → a < 64 * w → row_bit rows 0 a ≡ false) (a₀ : ℕ) (ha₀ : a₀ < 256) (ok : allowed x a₀ ≡ true) where
  gone : Empty s layer
  gone a b ha hb = o.none_there a b ha hb (n a)

  empty : (a : ℕ) (b : Option ℕ) → a < 256 → Within 256 b → fresh x 256 d a b ≡ false
  empty a b ha hb = sym (p.newest a b ha hb) ∙ gone a b ha hb

  pub some-layer : 1 ≤ d
  unfolding fresh end_set
  some-layer = go d refl
    where
      go : (k : ℕ) → d ≡ k → 1 ≤ d
      go zero e = contrary {a = allowed x a₀} ok (ap (λ (k : ℕ). fresh x 256 k a₀ none) (sym e) ∙ empty a₀ none ha₀ tt)
      go (suc k) e = omega arith

  -- the layer before the empty one
  found : (e : ℕ) → d ≡ suc e → Represents 256 (live s) (Live x) × ExactReach x e
  found e h = (represents, found-reach x small e none_left y.0 y.1 y.2)
    where
      none_left : (a : ℕ) (b : Option ℕ) → a < 256 → Within 256 b → fresh x 256 (suc e) a b ≡ false
      none_left a b ha hb = ap (λ (k : ℕ). fresh x 256 k a b) (sym h) ∙ empty a b ha hb

      y : (a : ℕ) × (b : Option ℕ) × T (fresh x 256 e a b)
      y = p.last e h

      is : (a : ℕ) (b : Option ℕ) → a < 256 → Within 256 b → live s a b ≡ live_within x 256 (suc e) a b
      is a b ha hb = p.live a b ha hb ∙ ap (λ (k : ℕ). live_within x 256 k a b) h

      represents : Represents 256 (live s) (Live x)
      represents a b ha hb = rw (is a b ha hb) (all_found x small e none_left a b ha hb)

  module _ (s₁ row : List ℕ) (r : ℕ) (places : Layers layer next) (fit : (k : ℕ) → get_or s k 0 < 2 ^ 64)
      (st : Started w row s₁ s₀) (c : r ≡ count_pairs 256 (live s)) (bd : r ≤ max_pairs) where
    -- the two sets fill the words behind the live set
    zero_now : (i base : ℕ) → base ≤ i → i < base + set_words → Empty s base → get_or s i 0 ≡ 0
    zero_now i base h l f = let e : i ≡ base + (i - base) = omega arith in ap (λ (j : ℕ). get_or s j 0) e ∙ words-none s base fit f (i - base) (omega arith)

    wiped : (i : ℕ) → reached_at ≤ i → i < storage_words → Apart layer next → Dec (i < scratch_at) → get_or s i 0 ≡ 0
    wiped i h l (inl g) (yes b) = zero_now i layer (omega (arith, places.low, places.next_high)) (omega (arith, places.low, places.next_high)) gone
    wiped i h l (inl g) (no b) = zero_now i next (omega (arith, places.low, places.next_high)) (omega (arith, places.low, places.next_high)) p.free
    wiped i h l (inr g) (yes b) = zero_now i next (omega (arith, places.next_low, places.high)) (omega (arith, places.next_low, places.high)) p.free
    wiped i h l (inr g) (no b) = zero_now i layer (omega (arith, places.next_low, places.high)) (omega (arith, places.next_low, places.high)) gone

    pub search-end : Searched x s₁ s r × ExactReach x (d - 1) × (d - 1 < r)
    search-end =
        let e : d ≡ suc (d - 1) = omega (arith, some-layer) in
        let f : Represents 256 (live s) (Live x) × ExactReach x (d - 1) = found (d - 1) e in (
          record {
            frame = framed_then st.frame p.frame;
            live = f.0;
            cleared = λ i h l. wiped i h l places.apart (dec_lt i scratch_at);
            counted = c;
            bound = bd;
          },
          f.1,
          omega (arith, some-layer, p.grown),
        )
