-- The layers of the backward search: what joins the pairs live within d valuations makes those live within d + 1.
use mathlib.Core.Path.{◌≡◌, refl, sym, ap, ap₂, ◌∙◌}
use mathlib.Core.Logic.{◌⊎◌, inl, inr}
use mathlib.Core.Bool.{Bool, true, false, not, ◌&&◌, ◌||◌, and-true, and-false, or-false, and-not_self}
use mathlib.Core.Option.{Option, none, some}
use Prim.Native.Nat.{ℕ, zero, suc, ◌^◌, ◌≤◌, ◌<◌}
use native.Mathlib.Omega.{arith}
use lib.Dec.{T, ltb, not_T}
use borrow.Author.Tests.{lt-ltb}
use Rattle.words.proofs.AnyLaws.{any_cong}
use Rattle.words.proofs.Tests.{and_left, and_right, and_both, either, not-both, true_of, of_true, same_test}
use Rattle.sheet.specs.RuleSheet.{RuleSheet, streams}
use Rattle.lola.specs.Equations.{holds}
use Rattle.completions.specs.Live.{Pairs, Live, allowed, ExactReach}
use Rattle.completions.specs.Steps.{Within, Represents, any_next, any_pair}
use Rattle.completions.proofs.Search.{next-found, next-from, pair_found}
use Rattle.completions.proofs.Range.{live-within, wider}
use Rattle.completions.proofs.Backward.{end_set, back_set, live_within, layer, LiveBy, Settled, within-found, within-from, within_more, all_short}
use Rattle.completions.proofs.ExactReach.{fresh, fresh-within, reach-is}
use Rattle.predecessors.specs.Rows.{meets}
use Rattle.preparation.specs.Search.{joining, joiners}

-- only the pairs in question matter
pub joining-same : (x : RuleSheet) (n : ℕ) (L L' F F' : Pairs) (a b : ℕ) → L a (some b) ≡ L' a (some b) → ((c : Option ℕ) → Within n c → F b c ≡ F' b c)
    → joining x n L F a b ≡ joining x n L' F' a b
unfolding joining meets any_next
joining-same x n L L' F F' a b e f =
    ap₂ (λ (l g : Bool). allowed x a && (not l && g)) e
    (ap₂ (λ (u v : Bool). (u && holds x (some a) b none) || v) (f none tt)
    (any_cong n (λ c. F b (some c) && holds x (some a) b (some c)) (λ c. F' b (some c) && holds x (some a) b (some c))
    (λ c h. ap (λ (u : Bool). u && holds x (some a) b (some c)) (f (some c) h))))

module _ (x : RuleSheet) where
  abbrev W : ℕ → Pairs
  W d = live_within x 256 d

  -- a pair with the end mark is found at once
  ends-are : (d a : ℕ) → W d a none ≡ allowed x a
  unfolding live_within end_set back_set
  ends-are zero a = refl
  ends-are (suc d) a = refl

  -- one valuation before a pair
  back : (d a b : ℕ) (c : Option ℕ) → T (allowed x a) → Within 256 c → T (holds x (some a) b c) → T (W d b c) → T (W (suc d) a (some b))
  unfolding live_within back_set
  back d a b c ok hc e t =
      let f : Option ℕ → Bool = λ c. holds x (some a) b c && live_within x 256 d b c in
      and_both (allowed x a) (any_next 256 f) ok (next-from 256 f c hc (and_both (holds x (some a) b c) (live_within x 256 d b c) e t))

  -- if (a, b) is new, the pair after it is in the last layer
  newer : (d a b : ℕ) (c : Option ℕ) → T (allowed x a) → Within 256 c → T (holds x (some a) b c) → T (W d b c) → T (not (W d a (some b))) → T (fresh x 256 d b c)
  unfolding fresh live_within layer
  newer zero a b c ok hc e t n = t
  newer (suc d) a b c ok hc e t n = go (either (live_within x 256 d b c))
    where
      go : T (live_within x 256 d b c) ⊎ T (not (live_within x 256 d b c)) → T (live_within x 256 (suc d) b c && not (live_within x 256 d b c))
      go (inl w) = absurd (not-both (live_within x 256 (suc d) a (some b)) (back d a b c ok hc e w) n)
      go (inr m) = and_both (live_within x 256 (suc d) b c) (not (live_within x 256 d b c)) t m

  module _ (small : 2 ^ streams x ≤ 256) (n : ℕ) (low : 2 ^ streams x ≤ n) (high : n ≤ 256) where
    abbrev J : ℕ → ℕ → ℕ → Bool
    J d a b = ltb b n && joining x n (W d) (fresh x 256 d) a b

    found : (d a b : ℕ) → T (W (suc d) a (some b)) → T (not (W d a (some b))) → T (J d a b)
    unfolding joining meets live_within back_set
    found d a b t m =
        let f : Option ℕ → Bool = λ c. holds x (some a) b c && live_within x 256 d b c in
        let g : Option ℕ → Bool = λ c. fresh x 256 d b c && holds x (some a) b c in
        let ok : T (allowed x a) = and_left (allowed x a) (any_next 256 f) t in
        let y : (c : Option ℕ) × Within 256 c × T (f c) = next-found 256 f (and_right (allowed x a) (any_next 256 f) t) in
        let e : T (holds x (some a) b y.0) = and_left (holds x (some a) b y.0) (live_within x 256 d b y.0) y.2 in
        let w : T (live_within x 256 d b y.0) = and_right (holds x (some a) b y.0) (live_within x 256 d b y.0) y.2 in
        let r : (b < 2 ^ streams x) × Within (2 ^ streams x) y.0 = live-within x (2 ^ streams x) (omega arith) b y.0 (within-found x 256 d b y.0 w).0 in
        and_both (ltb b n) (joining x n (W d) (fresh x 256 d) a b) (of_true (ltb b n) (lt-ltb b n (omega (arith, r.0))))
        (and_both (allowed x a) (not (W d a (some b)) && any_next n g) ok
        (and_both (not (W d a (some b))) (any_next n g) m
        (next-from n g y.0 (wider (2 ^ streams x) n low y.0 r.1) (and_both (fresh x 256 d b y.0) (holds x (some a) b y.0) (newer d a b y.0 ok y.1 e w m) e))))

    joined : (d a b : ℕ) → T (J d a b) → T (W (suc d) a (some b))
    unfolding joining meets
    joined d a b t =
        let g : Option ℕ → Bool = λ c. fresh x 256 d b c && holds x (some a) b c in
        let j : T (joining x n (W d) (fresh x 256 d) a b) = and_right (ltb b n) (joining x n (W d) (fresh x 256 d) a b) t in
        let r : T (not (W d a (some b)) && any_next n g) = and_right (allowed x a) (not (W d a (some b)) && any_next n g) j in
        let y : (c : Option ℕ) × Within n c × T (g c) = next-found n g (and_right (not (W d a (some b))) (any_next n g) r) in
        back d a b y.0 (and_left (allowed x a) (not (W d a (some b)) && any_next n g) j) (wider n 256 high y.0 y.1)
        (and_right (fresh x 256 d b y.0) (holds x (some a) b y.0) y.2)
        (fresh-within x 256 d b y.0 (and_left (fresh x 256 d b y.0) (holds x (some a) b y.0) y.2))

    -- the pairs live within one valuation more, and those among them that are new
    pub within-next : (d a : ℕ) (y : Option ℕ) → a < 256 → Within 256 y → W (suc d) a y ≡ (W d a y || joiners x n n (W d) (fresh x 256 d) a y)
    unfolding joiners
    within-next d a none ha hy = ends-are (suc d) a ∙ sym (or-false (W d a none) ∙ ends-are d a)
    within-next d a (some b) ha hy = go (W d a (some b)) refl
      where
        go : (u : Bool) → W d a (some b) ≡ u → W (suc d) a (some b) ≡ (W d a (some b) || J d a b)
        go true e = true_of (W (suc d) a (some b)) (within_more x 256 small d a (some b) ha hy (of_true (W d a (some b)) e)) ∙ sym (ap (λ (u : Bool). u || J d a b) e)
        go false e =
            same_test (W (suc d) a (some b)) (J d a b) (λ t. found d a b t (of_true (not (W d a (some b))) (ap not e))) (joined d a b)
            ∙ sym (ap (λ (u : Bool). u || J d a b) e)

    pub fresh-next : (d a : ℕ) (y : Option ℕ) → a < 256 → Within 256 y → fresh x 256 (suc d) a y ≡ joiners x n n (W d) (fresh x 256 d) a y
    unfolding joiners fresh layer joining
    fresh-next d a none ha hy = ap₂ (λ (u v : Bool). u && not v) (ends-are (suc d) a) (ends-are d a) ∙ and-not_self (allowed x a)
    fresh-next d a (some b) ha hy = go (W d a (some b)) refl
      where
        gone : W d a (some b) ≡ true → J d a b ≡ false
        gone e =
            ap (λ (u : Bool). ltb b n && (allowed x a && (not u && meets x n (fresh x 256 d) a b))) e
            ∙ ap (λ (u : Bool). ltb b n && u) (and-false (allowed x a)) ∙ and-false (ltb b n)

        go : (u : Bool) → W d a (some b) ≡ u → (W (suc d) a (some b) && not (W d a (some b))) ≡ J d a b
        go true e = ap (λ (u : Bool). W (suc d) a (some b) && not u) e ∙ and-false (W (suc d) a (some b)) ∙ sym (gone e)
        go false e =
            ap (λ (u : Bool). W (suc d) a (some b) && not u) e ∙ and-true (W (suc d) a (some b))
            ∙ same_test (W (suc d) a (some b)) (J d a b) (λ t. found d a b t (of_true (not (W d a (some b))) (ap not e))) (joined d a b)

  -- ---- a layer with no pair: all live pairs are found, and the layer before it is the reach
  module _ (small : 2 ^ streams x ≤ 256) (e : ℕ) (empty : (a : ℕ) (b : Option ℕ) → a < 256 → Within 256 b → fresh x 256 (suc e) a b ≡ false) where
    settled : Settled x 256 e
    unfolding fresh
    settled =
        not_T (any_pair 256 (layer x 256 e))
        (λ t.
        let y : (a : ℕ) × (b : Option ℕ) × (a < 256) × Within 256 b × T (layer x 256 e a b) = pair_found 256 (layer x 256 e) t in
        not-both (layer x 256 e y.0 y.1) y.4 (of_true (not (layer x 256 e y.0 y.1)) (ap not (empty y.0 y.1 y.2 y.3))))

    pub all_found : Represents 256 (W (suc e)) (Live x)
    all_found a b ha hb = (
      λ t. (within-found x 256 (suc e) a b t).0,
      λ h. let y : LiveBy x e a b = all_short x 256 small e settled a b h in within-from x 256 small (suc e) a b (y.0, omega (arith, y.1)),
    )

    pub found-reach : (a : ℕ) (b : Option ℕ) → T (fresh x 256 e a b) → ExactReach x e
    found-reach a b t = reach-is x 256 small e settled a b t
