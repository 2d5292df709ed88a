-- The backward search finds exactly the live pairs, and from each of them fewer rounds than there are live pairs are enough.
use mathlib.Core.Bool.{Bool, false, not, ◌&&◌}
use mathlib.Core.Logic.{◌⊎◌, inl, inr}
use mathlib.Core.Path.{◌≡◌, refl, ◌∙◌}
use mathlib.Core.List.{List, [], ◌∷◌}
use mathlib.Core.Option.{Option, none, some}
use Prim.Native.Nat.{ℕ, zero, suc, ◌+◌, ◌*◌, ◌^◌, ◌≤◌, ◌<◌}
use native.Mathlib.Omega.{arith}
use lib.Dec.{T}
use lib.Pow.{pow_mono}
use lib.ListN.{length}
use Rattle.words.proofs.Tests.{and_left, and_right, and_both, either, not-both}
use Rattle.sheet.specs.RuleSheet.{RuleSheet, streams}
use Rattle.lola.specs.Equations.{holds, first}
use Rattle.completions.specs.Live.{allowed, Follows, Live, count_pairs, Pairs}
use Rattle.completions.specs.Steps.{any_next, any_pair, Within, Represents}
use Rattle.completions.proofs.Search.{next-found, next-from, pair_found, pair_from}
use Rattle.completions.proofs.Range.{allowed-within, first-within, live-within}
use Rattle.completions.proofs.Count.{Subset, pairs_lt, pairs_bound, pairs_same, pairs-wider}

-- the pairs that are live with nothing after them
unfoldable pub end_set : RuleSheet → Pairs
end_set s a none = allowed s a
end_set s a (some b) = false

-- these, and the pairs (a, b) for which some pair (b, c) of S has the equations hold at b between a and c
unfoldable pub back_set : RuleSheet → ℕ → Pairs → Pairs
back_set s w S a none = allowed s a
back_set s w S a (some b) = allowed s a && any_next w (λ c. holds s (some a) b c && S b c)

-- the pairs that are live by a list of at most d valuations
unfoldable pub live_within : RuleSheet → ℕ → ℕ → Pairs
live_within s w zero = end_set s
live_within s w (suc d) = back_set s w (live_within s w d)

-- the pairs that d + 1 valuations reach and d do not
unfoldable pub layer : RuleSheet → ℕ → ℕ → Pairs
layer s w d a b = live_within s w (suc d) a b && not (live_within s w d a b)

-- such a list, of at most d valuations
abbrev pub LiveBy : RuleSheet → ℕ → ℕ → Option ℕ → Type 0
LiveBy s d a b = (h : Live s a b) × (length h.rest ≤ d)

-- no pair is reached by d + 1 valuations and not by d
abbrev pub Settled : RuleSheet → ℕ → ℕ → Type 0
Settled s w d = T (not (any_pair w (layer s w d)))

module _ (s : RuleSheet) (w : ℕ) where
  ended : (d : ℕ) (a : ℕ) → T (allowed s a) → LiveBy s d a none
  ended d a t = (record { from = t; rest = []; starts = refl; satisfies = tt }, omega arith)

  -- the list b, then one that is live after b
  before : (d : ℕ) (a b : ℕ) (c : Option ℕ) → T (allowed s a) → T (holds s (some a) b c) → LiveBy s d b c → LiveBy s (suc d) a (some b)
  before d a b c ok e (h, l) =
      (record { from = ok; rest = b ∷ h.rest; starts = refl; satisfies = (h.from, rw h.starts e, h.satisfies) }, omega arith)

  pub within-found : (d a : ℕ) (b : Option ℕ) → T (live_within s w d a b) → LiveBy s d a b
  unfolding live_within end_set back_set
  within-found zero a none t = ended zero a t
  within-found zero a (some b) t = absurd t
  within-found (suc d) a none t = ended (suc d) a t
  within-found (suc d) a (some b) t =
      let f : Option ℕ → Bool = λ c. holds s (some a) b c && live_within s w d b c in
      let x : (c : Option ℕ) × Within w c × T (holds s (some a) b c && live_within s w d b c) = next-found w f (and_right (allowed s a) (any_next w f) t) in
      before d a b x.0 (and_left (allowed s a) (any_next w f) t) (and_left (holds s (some a) b x.0) (live_within s w d b x.0) x.2)
      (within-found d b x.0 (and_right (holds s (some a) b x.0) (live_within s w d b x.0) x.2))

  module _ (small : 2 ^ streams s ≤ w) where
    list-within : (d a : ℕ) (vs : List ℕ) → T (allowed s a) → Follows s (some a) vs → length vs ≤ d → T (live_within s w d a (first vs))
    unfolding live_within end_set back_set
    list-within zero a [] ok f l = ok
    list-within zero a (v ∷ vs) ok f l = absurd (omega arith)
    list-within (suc d) a [] ok f l = ok
    list-within (suc d) a (v ∷ vs) ok f l =
        let g : Option ℕ → Bool = λ c. holds s (some a) v c && live_within s w d v c in
        and_both (allowed s a) (any_next w g) ok
        (next-from w g (first vs) (first-within s w small (some v) vs f.2)
        (and_both (holds s (some a) v (first vs)) (live_within s w d v (first vs)) f.1 (list-within d v vs f.0 f.2 (omega arith))))

    pub within-from : (d a : ℕ) (b : Option ℕ) → LiveBy s d a b → T (live_within s w d a b)
    within-from d a b (h, l) = rw (← h.starts) (list-within d a h.rest h.from h.satisfies l)

    -- one more valuation adds pairs and loses none
    pub within_more : (d : ℕ) → Subset w (live_within s w d) (live_within s w (suc d))
    within_more d a b ha hb t = let x : LiveBy s d a b = within-found d a b t in within-from (suc d) a b (x.0, omega (arith, x.1))

    -- ---- a layer with no pair is the last

    module _ (d : ℕ) (settled : Settled s w d) where
      shorter : (a : ℕ) (b : Option ℕ) → LiveBy s (suc d) a b → LiveBy s d a b
      unfolding layer
      shorter a b x = go (either (live_within s w d a b))
        where
          more : T (live_within s w (suc d) a b)
          more = within-from (suc d) a b x

          range : (a < w) × Within w b
          range = live-within s w small a b x.0

          extra : T (not (live_within s w d a b)) → T (layer s w d a b)
          extra t = and_both (live_within s w (suc d) a b) (not (live_within s w d a b)) more t

          go : T (live_within s w d a b) ⊎ T (not (live_within s w d a b)) → LiveBy s d a b
          go (inl t) = within-found d a b t
          go (inr n) = absurd (not-both (any_pair w (layer s w d)) (pair_from w (layer s w d) a b range.0 range.1 (extra n)) settled)

      list-short : (a : ℕ) (vs : List ℕ) → T (allowed s a) → Follows s (some a) vs → LiveBy s d a (first vs)
      list-short a [] ok f = ended d a ok
      list-short a (v ∷ vs) ok f = shorter a (some v) (before d a v (first vs) ok f.1 (list-short v vs f.0 f.2))

      pub all_short : (a : ℕ) (b : Option ℕ) → Live s a b → LiveBy s d a b
      all_short a b h = rw (← h.starts) (list-short a h.rest h.from h.satisfies)

      -- then the search has found exactly the live pairs
      pub settled-exact : Represents w (live_within s w d) (Live s)
      settled-exact a b ha hb = (λ t. (within-found d a b t).0, λ h. within-from d a b (all_short a b h))

    -- ---- until then each layer has a pair, so there are fewer layers than live pairs

    abbrev size : ℕ → ℕ
    size d = count_pairs w (live_within s w d)

    grows : (d : ℕ) → T (any_pair w (layer s w d)) → size d < size (suc d)
    unfolding layer
    grows d t =
        let x : (a : ℕ) × (b : Option ℕ) × (a < w) × Within w b × T (layer s w d a b) = pair_found w (layer s w d) t in
        let new : Bool = live_within s w (suc d) x.0 x.1 in
        let old : Bool = not (live_within s w d x.0 x.1) in
        pairs_lt w (live_within s w d) (live_within s w (suc d)) (within_more d) x.0 x.1 x.2 x.3 (and_right new old x.4) (and_left new old x.4)

    abbrev Found : ℕ → Type 0
    Found d = Settled s w d × (d + size 0 ≤ size d)

    look : (d : ℕ) → ((e : ℕ) × Found e) ⊎ (d + size 0 ≤ size d)
    look zero = inr (omega arith)
    look (suc d) = go (look d) (either (any_pair w (layer s w d)))
      where
        go : ((e : ℕ) × Found e) ⊎ (d + size 0 ≤ size d) → T (any_pair w (layer s w d)) ⊎ T (not (any_pair w (layer s w d)))
            → ((e : ℕ) × Found e) ⊎ (suc d + size 0 ≤ size (suc d))
        go (inl x) y = inl x
        go (inr l) (inl t) = inr (omega (arith, grows d t))
        go (inr l) (inr n) = inl (d, (n, l))

    pub settles : (e : ℕ) × Found e
    settles = go (look (suc (w * 1 + w * (w * 1))))
      where
        go : ((e : ℕ) × Found e) ⊎ (suc (w * 1 + w * (w * 1)) + size 0 ≤ size (suc (w * 1 + w * (w * 1)))) → (e : ℕ) × Found e
        go (inl x) = x
        go (inr l) = absurd (omega (arith, pairs_bound w (live_within s w (suc (w * 1 + w * (w * 1))))))

    -- ---- so a live pair is live by a list that is shorter than the number of live pairs

    module _ (L : Pairs) (live : Represents w L (Live s)) where
      some_pair : (a : ℕ) → T (allowed s a) → 0 < size 0
      some_pair a t =
          let none_yet : Pairs = λ a b. false in
          omega (arith, pairs_lt w none_yet (live_within s w 0) (λ a b ha hb t. absurd t) a none (allowed-within s w small a t) tt tt (within-from 0 a none (ended 0 a t)))

      same_count : (e : ℕ) → Settled s w e → count_pairs w L ≡ size e
      same_count e settled =
          pairs_same w L (live_within s w e) (λ a b ha hb t. (settled-exact e settled a b ha hb).1 ((live a b ha hb).0 t))
          (λ a b ha hb t. (live a b ha hb).1 ((settled-exact e settled a b ha hb).0 t))

      pub live-short : (a : ℕ) (b : Option ℕ) → Live s a b → (h : Live s a b) × (length h.rest < count_pairs w L)
      live-short a b h =
          let x : (e : ℕ) × Found e = settles in
          let y : LiveBy s x.0 a b = all_short x.0 x.1.0 a b h in
          (y.0, omega (arith, y.1, x.1.1, some_pair a h.from, same_count x.0 x.1.0))

-- The number of live pairs, counted over any bound that holds the valuations, is what a settled search among just the valuations finds.
module _ (s : RuleSheet) (d : ℕ) (settled : Settled s (2 ^ streams s) d) where
  abbrev p : ℕ
  p = 2 ^ streams s

  fits : p ≤ p
  fits = omega arith

  pub live-count : (q : ℕ) (L : Pairs) → Represents (p + q) L (Live s) → count_pairs (p + q) L ≡ count_pairs p (live_within s p d)
  live-count q L live =
      pairs_same (p + q) L (live_within s p d) (λ a b ha hb t. within-from s p fits d a b (all_short s p fits d settled a b ((live a b ha hb).0 t)))
      (λ a b ha hb t. (live a b ha hb).1 (within-found s p d a b t).0)
      ∙ pairs-wider p q (live_within s p d) (λ a b t. live-within s p fits a b (within-found s p d a b t).0)

-- for sheets of at most 8 streams
pub bound_256 : (S : Pairs) → count_pairs 256 S ≤ 256 * 257
bound_256 S = pairs_bound 256 S

pub small_256 : (s : RuleSheet) → streams s ≤ 8 → 2 ^ streams s ≤ 256
small_256 s h = pow_mono h
