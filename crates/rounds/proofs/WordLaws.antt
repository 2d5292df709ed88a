-- One word of a row.
use mathlib.Core.Path.{◌≡◌, refl, sym, ap, ap₂, ◌∙◌, subst}
use mathlib.Core.Bool.{Bool, true, false, not, ◌&&◌, ◌||◌, and-true, and-false, or-false, or_comm}
use mathlib.Core.List.{List}
use mathlib.Core.Option.{Option, none, some}
use Prim.Native.Nat.{ℕ, ◌+◌, ◌-◌, ◌*◌, ◌/◌, ◌%◌, ◌^◌, ◌≤◌, ◌<◌, min}
use native.Mathlib.Omega.{arith}
use native.Mathlib.Decide.{ℕ_discrete, dec_lt}
use lib.Bits.{bit_and, bit_or, or_add_and, and_le_l, and_le_r}
use lib.Dec.{eqb, ltb}
use lib.ListN.{get_or}
use borrow.Author.Tests.{eq-eqb, ne_eqb, lt-ltb, le-ltb}
use Rattle.words.specs.Bits.{bit}
use Rattle.words.specs.Sizes.{Wide}
use Rattle.words.specs.Below.{any_below}
use Rattle.words.proofs.BitLaws.{bit-and, bit-or, bit_not, bit-none}
use Rattle.words.proofs.AnyLaws.{any_one, any_add, any_none, none_any}
use Rattle.words.proofs.BelowLaws.{words-one}
use Rattle.sheet.specs.RuleSheet.{RuleSheet}
use Rattle.lola.specs.Equations.{holds}
use Rattle.completions.specs.Live.{Pairs}
use Rattle.completions.specs.Steps.{Within}
use Rattle.pairs.specs.Storage.{live, reached, scratch, reached_at, scratch_at}
use Rattle.pairs.specs.Changes.{in_word, RowWord, Adds}
use Rattle.pairs.proofs.Sets.{adds_none, adds_as, adds_then, framed-before, lane}
use Rattle.rounds.specs.Rows.{among, cut, gains, NoneNew, heard_in, grouped, Quiet}
use Rattle.rounds.proofs.Bools.{turn, merge_under, nothing_new}

-- ---- the lanes of a row, its words joined

-- the first k words of row a of the set S, joined
pub record Lanes (S : Pairs) (a lanes k : ℕ) : Type 0 where
  pub joined : (i : ℕ) → i < 64 → bit i lanes ≡ any_below k (λ j. S a (some (64 * j + i)))

module _ (S : Pairs) (a : ℕ) where
  pub lanes_none : Lanes S a 0 0
  unfolding any_below
  lanes_none = record { joined = λ i h. bit-none i }

  pub lanes_more : (lanes x k : ℕ) → Lanes S a lanes k → RowWord S a k x → Lanes S a (bit_or lanes x) (k + 1)
  lanes_more lanes x k f word = record {
    joined = λ i h.
        bit-or i lanes x ∙ ap₂ ◌||◌ (f.joined i h) (word i h) ∙ or_comm (any_below k (λ j. S a (some (64 * j + i)))) (S a (some (64 * k + i)))
        ∙ sym (any_one k (λ j. S a (some (64 * j + i))));
  }

-- a lane was heard just where its valuations were
pub heard_lane : (letters j i : ℕ) → i < 64 → bit i letters ≡ among letters (64 * j + i)
unfolding among
heard_lane letters j i h = let e : i ≡ (64 * j + i) % 64 = omega arith in ap (λ (k : ℕ). bit k letters) e

-- ---- a word of the reached set

-- the live valuations below v of word j of row b, as the lanes of a word
abbrev pub LiveLanes : List ℕ → ℕ → ℕ → ℕ → ℕ → Type 0
LiveLanes s b j v word = (i : ℕ) → i < 64 → bit i word ≡ (live s b (some (64 * j + i)) && ltb (64 * j + i) v)

-- the lanes below v are the same in each word: all of them, or there is only one word
pub low_lane : (v w j i : ℕ) → Wide v w → j < w → i < 64 → ltb (64 * 0 + i) v ≡ ltb (64 * j + i) v
low_lane v w j i h l g = go (ℕ_discrete w 1)
  where
    go : Dec (w ≡ 1) → ltb (64 * 0 + i) v ≡ ltb (64 * j + i) v
    go (yes e) = let z : 64 * 0 + i ≡ 64 * j + i = omega arith in ap (λ (k : ℕ). ltb k v) z
    go (no d) =
        let f : v ≡ 64 * w = h.full (omega (arith, h.least)) in
        lt-ltb (64 * 0 + i) v (omega arith) ∙ sym (lt-ltb (64 * j + i) v (omega arith))

-- a word, cut
pub live-masked : (s : List ℕ) (b v w j x mask : ℕ) → Wide v w → j < w → RowWord (live s) b j x → ((i : ℕ) → i < 64 → bit i mask ≡ ltb (64 * 0 + i) v) → LiveLanes s b j v (bit_and x mask)
live-masked s b v w j x mask wide l lanes f i h =
    bit-and i x mask ∙ ap₂ ◌&&◌ (lanes i h) (f i h ∙ low_lane v w j i wide l h)

-- a word among those that are full
live-whole : (s : List ℕ) (b j w x : ℕ) → j < w → RowWord (live s) b j x → LiveLanes s b j (64 * w) x
live-whole s b j w x l lanes i h =
    lanes i h
    ∙ sym (ap (λ (u : Bool). live s b (some (64 * j + i)) && u) (lt-ltb (64 * j + i) (64 * w) (omega arith)) ∙ and-true (live s b (some (64 * j + i))))

module _ (s : List ℕ) (b j v word : ℕ) (lanes : LiveLanes s b j v word) where
  live-lane : (c : ℕ) → c / 64 ≡ j → bit (c % 64) word ≡ (live s b (some c) && ltb c v)
  live-lane c e = let q : 64 * j + c % 64 ≡ c = omega arith in lanes (c % 64) (omega arith) ∙ ap (λ (k : ℕ). live s b (some k) && ltb k v) q

  -- a word with nothing live that the reached set lacks
  nothing-lacks : (y : ℕ) → RowWord (reached s) b j y → y < 2 ^ 64 → bit_and word (18446744073709551615 - y) ≡ 0
      → (c : ℕ) → c / 64 ≡ j → c < v → (live s b (some c) && not (reached s b (some c))) ≡ false
  nothing-lacks y there fit e c d l =
      let q : 64 * j + c % 64 ≡ c = omega arith in
      let h : c % 64 < 64 = omega arith in
      sym (ap₂ ◌&&◌
      (live-lane c d ∙ ap (λ (u : Bool). live s b (some c) && u) (lt-ltb c v l) ∙ and-true (live s b (some c)))
      (bit_not 64 (c % 64) y h fit ∙ ap not (there (c % 64) h ∙ ap (λ (i : ℕ). reached s b (some i)) q)))
      ∙ sym (bit-and (c % 64) word (18446744073709551615 - y))
      ∙ ap (bit (c % 64)) e ∙ bit-none (c % 64)

  module _ (x : RuleSheet) (p : Option ℕ) where
    abbrev Word : Pairs
    Word = gains x (λ a. eqb a b) (cut (λ c. eqb (c / 64) j && ltb c v)) (live s) p

    pub word-gained : (t : List ℕ) (y : ℕ) → ((i : ℕ) → i < 64 → bit i y ≡ holds x p b (some (64 * j + i))) → Adds reached_at s t (λ a c. eqb a b && in_word j (bit_and word y) c) → Adds reached_at s t Word
    unfolding gains in_word
    word-gained t y f a = adds_as reached_at s t (λ a c. eqb a b && in_word j (bit_and word y) c) Word a (λ k c hk hc. ap (λ (u : Bool). reached s k c || u) (go k c))
      where
        z : ℕ
        z = bit_and word y

        core : (k c : ℕ) → k ≡ b → c / 64 ≡ j → bit (c % 64) z ≡ (ltb c v && (live s k (some c) && holds x p k (some c)))
        core k c d e =
            let q : 64 * j + c % 64 ≡ c = omega arith in
            bit-and (c % 64) word y
            ∙ ap₂ ◌&&◌ (live-lane c e) (f (c % 64) (omega arith) ∙ ap (λ (i : ℕ). holds x p b (some i)) q)
            ∙ turn (live s b (some c)) (ltb c v) (holds x p b (some c))
            ∙ ap (λ (i : ℕ). ltb c v && (live s i (some c) && holds x p i (some c))) (sym d)

        at : (k c : ℕ) → Dec (k ≡ b) → Dec (c / 64 ≡ j)
            → (eqb k b && (eqb (c / 64) j && bit (c % 64) z)) ≡ (eqb k b && ((eqb (c / 64) j && ltb c v) && (live s k (some c) && holds x p k (some c))))
        at k c (yes d) (yes e) = rw (eq-eqb k b d, eq-eqb (c / 64) j e) (core k c d e)
        at k c (yes d) (no e) = rw (ne_eqb (c / 64) j e)
        at k c (no d) e = rw (ne_eqb k b d)

        go : (k : ℕ) (c : Option ℕ) → (eqb k b && in_word j z c) ≡ Word k c
        go k none = refl
        go k (some c) = at k c (ℕ_discrete k b) (ℕ_discrete (c / 64) j)

-- one word more
pub none_new_more : (s : List ℕ) (b j w x y : ℕ) → j < w → NoneNew (live s) (reached s) (64 * j) b → RowWord (live s) b j x → RowWord (reached s) b j y → y < 2 ^ 64
    → bit_and x (18446744073709551615 - y) ≡ 0 → NoneNew (live s) (reached s) (64 * (j + 1)) b
none_new_more s b j w x y l f lanes there fit e c h = go (dec_lt c (64 * j))
  where
    go : Dec (c < 64 * j) → (live s b (some c) && not (reached s b (some c))) ≡ false
    go (yes d) = f c d
    go (no d) = nothing-lacks s b j (64 * w) x (live-whole s b j w x l lanes) y there fit e c (omega arith) (omega arith)

-- a row with nothing live below v that the reached set lacks
pub row_full : (x : RuleSheet) (s : List ℕ) (b v : ℕ) (p : Option ℕ) → NoneNew (live s) (reached s) v b
    → Adds reached_at s s (gains x (λ a. eqb a b) (cut (λ c. ltb c v)) (live s) p)
unfolding gains
row_full x s b v p f =
    adds_as reached_at s s (λ a c. false) (gains x (λ a. eqb a b) (cut (λ c. ltb c v)) (live s) p) (adds_none reached_at s (λ a c. false) (λ a c. refl))
    (λ k c hk hc. or-false (reached s k c) ∙ go k c)
  where
    at : (k c : ℕ) → Dec (k ≡ b) → Dec (c < v) → reached s k (some c) ≡ (reached s k (some c) || (eqb k b && (ltb c v && (live s k (some c) && holds x p k (some c)))))
    at k c (yes d) (yes l) =
        rw (eq-eqb k b d, lt-ltb c v l)
        (nothing_new (reached s k (some c)) (live s k (some c)) (holds x p k (some c)) (ap (λ (i : ℕ). live s i (some c) && not (reached s i (some c))) d ∙ f c l))
    at k c (yes d) (no n) =
        let l : v ≤ c = omega arith in
        rw (le-ltb c v l) (sym (ap (λ (u : Bool). reached s k (some c) || u) (and-false (eqb k b)) ∙ or-false (reached s k (some c))))
    at k c (no d) l = rw (ne_eqb k b d) (sym (or-false (reached s k (some c))))

    go : (k : ℕ) (c : Option ℕ) → reached s k c ≡ (reached s k c || gains x (λ a. eqb a b) (cut (λ c. ltb c v)) (live s) p k c)
    go k none = sym (ap (λ (u : Bool). reached s k none || u) (and-false (eqb k b)) ∙ or-false (reached s k none))
    go k (some c) = at k c (ℕ_discrete k b) (dec_lt c v)

-- ---- what was heard of a row of the reached set joins a row of the scratch set

abbrev pub Joined : List ℕ → ℕ → ℕ → ℕ → ℕ → Pairs
Joined s letters a g w k c = eqb k g && heard_in (reached s) (among letters) w a c

module _ (s : List ℕ) (letters a g : ℕ) (ha : a < 256) where
  -- a row of which nothing was heard
  joined-unheard : (w : ℕ) → ((c : ℕ) → c < w → (reached s a (some c) && among letters c) ≡ false) → Adds scratch_at s s (Joined s letters a g w)
  joined-unheard w f = adds_none scratch_at s (Joined s letters a g w) (λ k c. go k c)
    where
      at : (c : ℕ) → Dec (c < w) → (ltb c w && (reached s a (some c) && among letters c)) ≡ false
      at c (yes h) = ap (λ (u : Bool). ltb c w && u) (f c h) ∙ and-false (ltb c w)
      at c (no n) = ap (λ (u : Bool). u && (reached s a (some c) && among letters c)) (le-ltb c w (omega arith))

      go : (k : ℕ) (c : Option ℕ) → Joined s letters a g w k c ≡ false
      go k none = and-false (eqb k g)
      go k (some c) = ap (λ (u : Bool). eqb k g && u) (at c (dec_lt c w)) ∙ and-false (eqb k g)

  pub unheard-row : (w x : ℕ) → ((i : ℕ) → i < 64 → bit i x ≡ any_below w (λ j. reached s a (some (64 * j + i)))) → bit_and x letters ≡ 0 → Adds scratch_at s s (Joined s letters a g (64 * w))
  unheard-row w x f e = joined-unheard (64 * w) (λ c h. at c h (among letters c) refl)
    where
      first : (u v : Bool) → (u && v) ≡ false → v ≡ true → u ≡ false
      first true v p q = sym q ∙ p
      first false v p q = refl

      at : (c : ℕ) → c < 64 * w → (u : Bool) → among letters c ≡ u → (reached s a (some c) && among letters c) ≡ false
      at c h false q = ap (λ (u : Bool). reached s a (some c) && u) q ∙ and-false (reached s a (some c))
      at c h true q =
          let k : 64 * (c / 64) + c % 64 ≡ c = omega arith in
          let l : c % 64 < 64 = omega arith in
          let z : bit (c % 64) x ≡ false = first (bit (c % 64) x) (bit (c % 64) letters) (sym (bit-and (c % 64) x letters) ∙ ap (bit (c % 64)) e ∙ bit-none (c % 64))
          (heard_lane letters (c / 64) (c % 64) l ∙ ap (among letters) k ∙ q) in
          ap (λ (u : Bool). u && among letters c)
          (ap (λ (i : ℕ). reached s a (some i)) (sym k) ∙ any_none w (λ j. reached s a (some (64 * j + c % 64))) (sym (f (c % 64) l) ∙ z) (c / 64) (omega arith))

  pub joined-none : Adds scratch_at s s (Joined s letters a g (64 * 0))
  joined-none = joined-unheard (64 * 0) (λ c h. absurd (omega arith))

  pub joined-more : (t u : List ℕ) (j y : ℕ) → j < 4 → RowWord (reached t) a j y → Adds scratch_at s t (Joined s letters a g (64 * j))
      → Adds scratch_at t u (λ k c. eqb k g && in_word j (bit_and y letters) c) → Adds scratch_at s u (Joined s letters a g (64 * (j + 1)))
  unfolding in_word
  joined-more t u j y hj lanes f q =
      adds_then scratch_at s t u (Joined s letters a g (64 * j)) (λ k c. eqb k g && in_word j x c) (Joined s letters a g (64 * (j + 1))) f q (λ k c hk hc. go k c hc)
    where
      x : ℕ
      x = bit_and y letters

      word : (c : ℕ) → c < 256 → Dec (c / 64 ≡ j) → (eqb (c / 64) j && bit (c % 64) x) ≡ (eqb (c / 64) j && (reached s a (some c) && among letters c))
      word c hc (yes e) =
          let w : 64 * j + c % 64 ≡ c = omega arith in
          let l : c % 64 < 64 = omega arith in
          ap (λ (b : Bool). eqb (c / 64) j && b)
          (bit-and (c % 64) y letters
          ∙ ap₂ ◌&&◌ (lanes (c % 64) l ∙ ap (λ (i : ℕ). reached t a (some i)) w ∙ framed-before f.frame reached_at a (some c) ha hc (omega arith))
          (heard_lane letters j (c % 64) l ∙ ap (among letters) w))
      word c hc (no e) = rw (ne_eqb (c / 64) j e)

      go : (k : ℕ) (c : Option ℕ) → Within 256 c → (Joined s letters a g (64 * j) k c || (eqb k g && in_word j x c)) ≡ Joined s letters a g (64 * (j + 1)) k c
      go k none hc = ap (λ (b : Bool). (eqb k g && false) || b) (and-false (eqb k g)) ∙ or-false (eqb k g && false)
      go k (some c) hc =
          ap (λ (b : Bool). (eqb k g && (ltb c (64 * j) && (reached s a (some c) && among letters c))) || (eqb k g && b)) (word c hc (ℕ_discrete (c / 64) j))
          ∙ merge_under (eqb k g) (ltb c (64 * j)) (eqb (c / 64) j) (ltb c (64 * (j + 1))) (reached s a (some c) && among letters c) (words-one c j)

  pub joined-all : (t : List ℕ) (j w : ℕ) → j ≤ w → w ≤ j → Adds scratch_at s t (Joined s letters a g (64 * j)) → Adds scratch_at s t (Joined s letters a g (64 * w))
  joined-all t j w h l f = let e : j ≡ w = omega arith in subst (λ (k : ℕ). Adds scratch_at s t (Joined s letters a g (64 * k))) e f

-- ---- all rows

grouped-none : (s : List ℕ) (S : Pairs) (r : ℕ → Bool) (mask w : ℕ) → Adds scratch_at s s (grouped S r mask w 0)
unfolding grouped any_below
grouped-none s S r mask w = adds_none scratch_at s (grouped S r mask w 0) (λ k c. refl)

grouped-more : (s t u : List ℕ) (letters mask w a : ℕ) → a < 256 → Adds scratch_at s t (grouped (reached s) (among letters) mask w a) → Adds scratch_at t u (Joined t letters a (bit_and a mask) w)
    → Adds scratch_at s u (grouped (reached s) (among letters) mask w (a + 1))
unfolding grouped
grouped-more s t u letters mask w a ha f q =
    adds_then scratch_at s t u (grouped (reached s) r mask w a) (Joined t letters a (bit_and a mask) w) (grouped (reached s) r mask w (a + 1)) f q
    (λ k c hk hc.
    or_comm (grouped (reached s) r mask w a k c) _
    ∙ ap (λ (v : Bool). v || grouped (reached s) r mask w a k c) (go k c hc)
    ∙ sym (any_one a (λ a. eqb k (bit_and a mask) && heard_in (reached s) r w a c)))
  where
    r : ℕ → Bool
    r = among letters

    go : (k : ℕ) (c : Option ℕ) → Within 256 c → Joined t letters a (bit_and a mask) w k c ≡ (eqb k (bit_and a mask) && heard_in (reached s) r w a c)
    go k none hc = refl
    go k (some c) hc =
        ap (λ (v : Bool). eqb k (bit_and a mask) && (ltb c w && (v && among letters c))) (framed-before f.frame reached_at a (some c) ha hc (omega arith))

-- rows that have nothing bring nothing to a group
grouped-quiet : (s t : List ℕ) (S : Pairs) (r : ℕ → Bool) (mask w a b : ℕ) → a ≤ b → Quiet S a b → Adds scratch_at s t (grouped S r mask w a) → Adds scratch_at s t (grouped S r mask w b)
unfolding grouped
grouped-quiet s t S r mask w a b h q f =
    adds_as scratch_at s t (grouped S r mask w a) (grouped S r mask w b) f (λ x y hx hy. ap (λ (u : Bool). scratch s x y || u) (sym (same x y hy)))
  where
    row : (x i : ℕ) (y : Option ℕ) → Within 256 y → a ≤ i → i < b → (eqb x (bit_and i mask) && heard_in S r w i y) ≡ false
    row x i none hy l k = and-false (eqb x (bit_and i mask))
    row x i (some y) hy l k =
        ap (λ (u : Bool). eqb x (bit_and i mask) && (ltb y w && (u && r y))) (q i y l k hy) ∙ ap (λ (u : Bool). eqb x (bit_and i mask) && u) (and-false (ltb y w)) ∙ and-false (eqb x (bit_and i mask))

    same : (x : ℕ) (y : Option ℕ) → Within 256 y → grouped S r mask w b x y ≡ grouped S r mask w a x y
    same x y hy =
        let e : b ≡ a + (b - a) = omega arith in
        ap (λ (k : ℕ). any_below k (λ i. eqb x (bit_and i mask) && heard_in S r w i y)) e
        ∙ any_add a (b - a) (λ i. eqb x (bit_and i mask) && heard_in S r w i y)
        ∙ ap (λ (u : Bool). u || any_below a (λ i. eqb x (bit_and i mask) && heard_in S r w i y))
        (none_any (b - a) (λ i. eqb x (bit_and (a + i) mask) && heard_in S r w (a + i) y) (λ i k. row x (a + i) y hy (omega arith) (omega arith)))

-- the rows below v of a search that takes one row or passes over four
module _ (s : List ℕ) (letters mask w v : ℕ) (hv : v ≤ 256) where
  abbrev pub Upto : ℕ → Pairs
  Upto a = grouped (reached s) (among letters) mask w (min a v)

  pub upto-none : Adds scratch_at s s (Upto 0)
  upto-none = let e : 0 ≡ min 0 v = omega arith in subst (λ (k : ℕ). Adds scratch_at s s (grouped (reached s) (among letters) mask w k)) e (grouped-none s (reached s) (among letters) mask w)

  pub upto-row : (t u : List ℕ) (a : ℕ) → a < v → Adds scratch_at s t (Upto a) → Adds scratch_at t u (Joined t letters a (bit_and a mask) w) → Adds scratch_at s u (Upto (a + 1))
  upto-row t u a h f q =
      let e : min a v ≡ a = omega arith in
      let d : a + 1 ≡ min (a + 1) v = omega arith in
      subst (λ (k : ℕ). Adds scratch_at s u (grouped (reached s) (among letters) mask w k)) d
      (grouped-more s t u letters mask w a (omega arith) (subst (λ (k : ℕ). Adds scratch_at s t (grouped (reached s) (among letters) mask w k)) e f) q)

  pub upto-quiet : (t : List ℕ) (a : ℕ) → a < v → Adds scratch_at s t (Upto a) → Quiet (reached t) a (a + 4) → Adds scratch_at s t (Upto (a + 4))
  upto-quiet t a h f q =
      grouped-quiet s t (reached s) (among letters) mask w (min a v) (min (a + 4) v) (omega arith)
      (λ x y l k hy. sym (framed-before f.frame reached_at x (some y) (omega arith) hy (omega arith)) ∙ q x y (omega arith) (omega arith) hy) f

-- if the first k words, joined as any, have no lane, they are 0
pub record Joining (row : List ℕ) (any k : ℕ) : Type 0 where
  pub zeros : any ≡ 0 → (j : ℕ) → j < k → get_or row j 0 ≡ 0

pub joining-more : (row : List ℕ) (any k : ℕ) → Joining row any k → Joining row (bit_or any (get_or row k 0)) (k + 1)
joining-more row any k f = record { zeros = λ e j h. go e j h (ℕ_discrete j k) }
  where
    x : ℕ
    x = get_or row k 0

    go : bit_or any x ≡ 0 → (j : ℕ) → j < k + 1 → Dec (j ≡ k) → get_or row j 0 ≡ 0
    go e j h (yes d) = ap (λ (i : ℕ). get_or row i 0) d ∙ (let z : x ≡ 0 = omega (arith, or_add_and any x, and_le_l any x, and_le_r any x) in z)
    go e j h (no d) = f.zeros (omega (arith, or_add_and any x, and_le_l any x, and_le_r any x)) j (omega arith)

-- the words of four rows of the reached set
pub joining-quiet : (s row : List ℕ) (a any k : ℕ) → 16 ≤ k → any ≡ 0 → ((j : ℕ) → j < 16 → get_or row j 0 ≡ get_or s (reached_at + (4 * a + j)) 0) → Joining row any k
    → Quiet (reached s) a (a + 4)
joining-quiet s row a any k m e same f x y l h hy =
    let j : ℕ = 4 * (x - a) + y / 64 in
    let p : reached_at + (4 * x + y / 64) ≡ reached_at + (4 * a + j) = omega arith in
    let d : 64 * (y / 64) + y % 64 ≡ y = omega arith in
    ap (λ (z : ℕ). reached s x (some z)) (sym d)
    ∙ sym (lane s reached_at x (y / 64) (y % 64) (omega arith))
    ∙ ap (bit (y % 64)) (ap (λ (i : ℕ). get_or s i 0) p ∙ sym (same j (omega arith)) ∙ f.zeros e j (omega arith))
    ∙ bit-none (y % 64)
