-- Laws of the sets in the storage.
use mathlib.Core.Path.{◌≡◌, refl, sym, ap, ap₂, ◌∙◌}
use mathlib.Core.Bool.{Bool, true, false, not, ◌&&◌, ◌||◌, and-true, and-false, or-false, or_assoc, true≢false}
use mathlib.Core.List.{List}
use mathlib.Core.Option.{Option, none, some}
use Prim.Native.Nat.{ℕ, ◌+◌, ◌-◌, ◌*◌, ◌/◌, ◌%◌, ◌^◌, ◌≤◌, ◌<◌}
use native.Mathlib.Omega.{arith}
use native.Mathlib.Decide.{ℕ_discrete, dec_lt}
use lib.Dec.{eqb, ltb}
use lib.Bits.{bit_and, bit_or}
use lib.ListN.{length, get_or, set, length-set}
use lib.Seq.{get_or-set_same, get_or-set_other}
use borrow.Author.Tests.{eq-eqb, ne_eqb, lt-ltb}
use Rattle.words.specs.Bits.{bit, digit}
use Rattle.words.proofs.BitLaws.{bit-and, bit-or, bit_not, bit-shl, bit-none, bits_ext}
use Rattle.completions.specs.Live.{Pairs}
use Rattle.completions.specs.Steps.{Within}
use Rattle.pairs.specs.Storage.{stored, used, word_of, slot, set_words, scratch_at}
use Rattle.pairs.specs.declared.PairSet.{PairSet}
use Rattle.pairs.specs.declared.PairSet.TheVariants.{Live, Reached, Scratch}
use Rattle.pairs.specs.Changes.{base_of, eq_next, in_word, Framed, Adds, row_bit, Zeroed, RowTaken, Noted}
use Rattle.pairs.proofs.Frames.{framed_none, framed_then, framed_wider, framed_set}

pub word_lt : (x : ℕ) (y : Option ℕ) → x < 256 → Within 256 y → word_of x y < set_words
unfolding word_of
word_lt x none h k = omega arith
word_lt x (some c) h k = omega arith

slot_lt : (x : ℕ) (y : Option ℕ) → slot x y < 64
unfolding slot
slot_lt x none = omega arith
slot_lt x (some c) = omega arith

-- a pair is known by its word and bit there
abbrev same : ℕ → Option ℕ → ℕ → Option ℕ → Bool
same x y a c = eqb x a && eq_next y c

same_word : (x : ℕ) (y : Option ℕ) (a : ℕ) (c : Option ℕ) → x < 256 → Within 256 y → a < 256 → Within 256 c → word_of x y ≡ word_of a c → eqb (slot x y) (slot a c) ≡ same x y a c
unfolding word_of slot eq_next
same_word x none a none h k h' k' e = go (ℕ_discrete x a)
  where
    go : Dec (x ≡ a) → eqb (x % 64) (a % 64) ≡ (eqb x a && true)
    go (yes d) = eq-eqb (x % 64) (a % 64) (omega arith) ∙ sym (and-true (eqb x a) ∙ eq-eqb x a d)
    go (no d) = ne_eqb (x % 64) (a % 64) (λ q. d (omega arith)) ∙ sym (and-true (eqb x a) ∙ ne_eqb x a d)
same_word x none a (some c) h k h' k' e = absurd (omega arith)
same_word x (some y) a none h k h' k' e = absurd (omega arith)
same_word x (some y) a (some c) h k h' k' e = go (ℕ_discrete y c)
  where
    xa : eqb x a ≡ true
    xa = eq-eqb x a (omega arith)

    go : Dec (y ≡ c) → eqb (y % 64) (c % 64) ≡ (eqb x a && eqb y c)
    go (yes d) = eq-eqb (y % 64) (c % 64) (omega arith) ∙ sym (ap₂ ◌&&◌ xa (eq-eqb y c d))
    go (no d) = ne_eqb (y % 64) (c % 64) (λ q. d (omega arith)) ∙ sym (ap₂ ◌&&◌ xa (ne_eqb y c d))

other_word : (x : ℕ) (y : Option ℕ) (a : ℕ) (c : Option ℕ) → (word_of x y ≡ word_of a c → ⊥) → same x y a c ≡ false
unfolding word_of eq_next
other_word x none a none n = and-true (eqb x a) ∙ ne_eqb x a (λ d. n (ap (λ (k : ℕ). 1024 + k / 64) d))
other_word x none a (some c) n = and-false (eqb x a)
other_word x (some y) a none n = and-false (eqb x a)
other_word x (some y) a (some c) n = go (ℕ_discrete y c)
  where
    go : Dec (y ≡ c) → (eqb x a && eqb y c) ≡ false
    go (yes d) = ap (λ (u : Bool). u && eqb y c) (ne_eqb x a (λ q. n (ap₂ (λ (i j : ℕ). 4 * i + j / 64) q d)))
    go (no d) = ap (λ (u : Bool). eqb x a && u) (ne_eqb y c d) ∙ and-false (eqb x a)

-- one bit set
pub inserted : (s : List ℕ) (base a : ℕ) (c : Option ℕ) → a < 256 → Within 256 c → base + set_words ≤ length s
    → Adds base s (set s (base + word_of a c) (bit_or (get_or s (base + word_of a c) 0) (1 * 2 ^ slot a c % 2 ^ 64))) (λ x y. eqb x a && eq_next y c)
unfolding stored
inserted s base a c ha hc l = record {
  frame = framed_set s _ _ (omega arith) (omega (arith, word_lt a c ha hc));
  adds = λ x y hx hy. go x y hx hy (ℕ_discrete (word_of x y) (word_of a c));
}
  where
    k : ℕ
    k = base + word_of a c

    v : ℕ
    v = bit_or (get_or s k 0) (1 * 2 ^ slot a c % 2 ^ 64)

    go : (x : ℕ) (y : Option ℕ) → x < 256 → Within 256 y → Dec (word_of x y ≡ word_of a c) → stored (set s k v) base x y ≡ (stored s base x y || same x y a c)
    go x y hx hy (yes e) =
        ap (λ (j : ℕ). bit (slot x y) (get_or (set s k v) (base + j) 0)) e
        ∙ ap (bit (slot x y)) (get_or-set_same s k v 0 (let g : word_of a c < set_words = word_lt a c ha hc in omega arith))
        ∙ bit-or (slot x y) (get_or s k 0) (1 * 2 ^ slot a c % 2 ^ 64)
        ∙ ap₂ ◌||◌ (ap (λ (j : ℕ). bit (slot x y) (get_or s (base + j) 0)) (sym e))
        (bit-shl (slot x y) (slot a c) (slot_lt a c) ∙ same_word x y a c hx hy ha hc e)
    go x y hx hy (no n) =
        ap (bit (slot x y)) (get_or-set_other s k (base + word_of x y) v 0 (λ q. n (omega arith)))
        ∙ sym (ap (λ (u : Bool). stored s base x y || u) (other_word x y a c n) ∙ or-false (stored s base x y))

-- ---- gains

pub adds_none : (base : ℕ) (s : List ℕ) (P : Pairs) → ((x : ℕ) (y : Option ℕ) → P x y ≡ false) → Adds base s s P
adds_none base s P f = record {
  frame = framed_none base set_words s;
  adds = λ x y hx hy. sym (ap (λ (u : Bool). stored s base x y || u) (f x y) ∙ or-false (stored s base x y));
}

pub adds_as : (base : ℕ) (s t : List ℕ) (P Q : Pairs) → Adds base s t P → ((x : ℕ) (y : Option ℕ) → x < 256 → Within 256 y → (stored s base x y || P x y) ≡ (stored s base x y || Q x y)) → Adds base s t Q
adds_as base s t P Q p f = record { frame = p.frame; adds = λ x y hx hy. p.adds x y hx hy ∙ f x y hx hy }

pub adds_then : (base : ℕ) (s t u : List ℕ) (P Q R : Pairs) → Adds base s t P → Adds base t u Q
    → ((x : ℕ) (y : Option ℕ) → x < 256 → Within 256 y → (P x y || Q x y) ≡ R x y) → Adds base s u R
adds_then base s t u P Q R p q f = record {
  frame = framed_then p.frame q.frame;
  adds = λ x y hx hy.
      q.adds x y hx hy ∙ ap (λ (w : Bool). w || Q x y) (p.adds x y hx hy) ∙ or_assoc (stored s base x y) (P x y) (Q x y)
      ∙ ap (λ (w : Bool). stored s base x y || w) (f x y hx hy);
}

-- ---- sets beside the one that is changed

-- words that are equal hold equal sets
pub stored_eq : (s t : List ℕ) (base base' x : ℕ) (y : Option ℕ) → x < 256 → Within 256 y → ((k : ℕ) → k < set_words → get_or t (base + k) 0 ≡ get_or s (base' + k) 0)
    → stored t base x y ≡ stored s base' x y
unfolding stored
stored_eq s t base base' x y hx hy f = ap (bit (slot x y)) (f (word_of x y) (word_lt x y hx hy))

module _ {at n : ℕ} {s t : List ℕ} (p : Framed at n s t) where
  pub framed-before : (b x : ℕ) (y : Option ℕ) → x < 256 → Within 256 y → b + set_words ≤ at → stored t b x y ≡ stored s b x y
  framed-before b x y hx hy h = stored_eq s t b b x y hx hy (λ k g. p.before (b + k) (omega arith))

  pub framed-beyond : (b x : ℕ) (y : Option ℕ) → x < 256 → Within 256 y → at + n ≤ b → stored t b x y ≡ stored s b x y
  framed-beyond b x y hx hy h = stored_eq s t b b x y hx hy (λ k g. p.beyond (b + k) (omega arith))

-- a set whose words are 0 has no pair
pub zeroed_none : (at n base : ℕ) (s t : List ℕ) → Zeroed at n s t → at ≤ base → base + set_words ≤ at + n → (x : ℕ) (y : Option ℕ) → x < 256 → Within 256 y → stored t base x y ≡ false
unfolding stored
zeroed_none at n base s t p l h x y hx hy =
    let k : word_of x y < set_words = word_lt x y hx hy in
    let e : base + word_of x y ≡ at + ((base - at) + word_of x y) = omega arith in
    ap (λ (i : ℕ). bit (slot x y) (get_or t i 0)) e ∙ ap (bit (slot x y)) (p.zero_now ((base - at) + word_of x y) (omega arith)) ∙ bit-none (slot x y)

-- every set lies in the storage
pub base_most : (p : PairSet) → base_of p ≤ scratch_at
base_most Live = omega arith
base_most Reached = omega arith
base_most Scratch = omega arith

-- the words in use hold every pair of valuations below v
pub used-below : (v x : ℕ) (y : Option ℕ) → x < v → used v x y ≡ true
unfolding used
used-below v x none h = refl
used-below v x (some c) h = lt-ltb x v h

pub unused : (v x : ℕ) (y : Option ℕ) → used v x y ≡ false → ltb x v ≡ false
unfolding used
unused v x none e = absurd (true≢false cc)
unused v x (some c) e = e

-- ---- the code's tests of one bit

pub has_bit : (s : List ℕ) (base a b : ℕ) → bit (b % 64) (get_or s (base + (4 * a + b / 64)) 0) ≡ stored s base a (some b)
unfolding stored word_of slot
has_bit s base a b = refl

pub has_end_bit : (s : List ℕ) (base a : ℕ) → bit (a % 64) (get_or s (base + (1024 + a / 64)) 0) ≡ stored s base a none
unfolding stored word_of slot
has_end_bit s base a = refl

-- ---- a word of a row

-- lane i of word j of row a is the pair (a, 64 j + i)
pub lane : (s : List ℕ) (base a j i : ℕ) → i < 64 → bit i (get_or s (base + (4 * a + j)) 0) ≡ stored s base a (some (64 * j + i))
unfolding stored word_of slot
lane s base a j i h =
    let p : i ≡ (64 * j + i) % 64 = omega arith in
    let q : base + (4 * a + j) ≡ base + (4 * a + (64 * j + i) / 64) = omega arith in
    ap₂ (λ (u v : ℕ). bit u (get_or s v 0)) p q

pub lane_end : (s : List ℕ) (base j i : ℕ) → i < 64 → bit i (get_or s (base + (1024 + j)) 0) ≡ stored s base (64 * j + i) none
unfolding stored word_of slot
lane_end s base j i h =
    let p : i ≡ (64 * j + i) % 64 = omega arith in
    let q : base + (1024 + j) ≡ base + (1024 + (64 * j + i) / 64) = omega arith in
    ap₂ (λ (u v : ℕ). bit u (get_or s v 0)) p q

-- one word gains the lanes of another
pub word_inserted : (s : List ℕ) (base a j x : ℕ) → a < 256 → j < 4 → base + set_words ≤ length s
    → Adds base s (set s (base + (4 * a + j)) (bit_or (get_or s (base + (4 * a + j)) 0) x)) (λ p y. eqb p a && in_word j x y)
unfolding stored word_of slot in_word
word_inserted s base a j x ha hj l = record {
  frame = framed_set s _ _ (omega arith) (omega arith);
  adds = at;
}
  where
    k : ℕ
    k = base + (4 * a + j)

    v : ℕ
    v = bit_or (get_or s k 0) x

    at : (p : ℕ) (y : Option ℕ) → p < 256 → Within 256 y → stored (set s k v) base p y ≡ (stored s base p y || (eqb p a && in_word j x y))
    at p none hp hy =
        ap (bit (p % 64)) (get_or-set_other s k (base + (1024 + p / 64)) v 0 (omega arith))
        ∙ sym (ap (λ (u : Bool). bit (p % 64) (get_or s (base + (1024 + p / 64)) 0) || u) (and-false (eqb p a)) ∙ or-false _)
    at p (some c) hp hy = go (ℕ_discrete p a) (ℕ_discrete (c / 64) j)
      where
        w : ℕ
        w = base + (4 * p + c / 64)

        go : Dec (p ≡ a) → Dec (c / 64 ≡ j) → bit (c % 64) (get_or (set s k v) w 0) ≡ (bit (c % 64) (get_or s w 0) || (eqb p a && (eqb (c / 64) j && bit (c % 64) x)))
        go (yes d) (yes e) =
            let q : w ≡ k = omega arith in
            ap (λ (i : ℕ). bit (c % 64) (get_or (set s k v) i 0)) q
            ∙ ap (bit (c % 64)) (get_or-set_same s k v 0 (omega arith))
            ∙ bit-or (c % 64) (get_or s k 0) x
            ∙ ap (λ (i : ℕ). bit (c % 64) (get_or s i 0) || bit (c % 64) x) (sym q)
            ∙ ap₂ (λ (u w' : Bool). bit (c % 64) (get_or s w 0) || (u && (w' && bit (c % 64) x))) (sym (eq-eqb p a d)) (sym (eq-eqb (c / 64) j e))
        go (no d) e =
            ap (bit (c % 64)) (get_or-set_other s k w v 0 (omega arith))
            ∙ sym (ap (λ (u : Bool). bit (c % 64) (get_or s w 0) || (u && (eqb (c / 64) j && bit (c % 64) x))) (ne_eqb p a d) ∙ or-false _)
        go (yes d) (no e) =
            ap (bit (c % 64)) (get_or-set_other s k w v 0 (omega arith))
            ∙ sym (ap (λ (u : Bool). bit (c % 64) (get_or s w 0) || (eqb p a && (u && bit (c % 64) x))) (ne_eqb (c / 64) j e)
            ∙ ap (λ (u : Bool). bit (c % 64) (get_or s w 0) || u) (and-false (eqb p a)) ∙ or-false _)

-- the ends of one word gain the lanes of another
pub ends_inserted : (s : List ℕ) (base j x : ℕ) → j < 4 → base + set_words ≤ length s
    → Adds base s (set s (base + (1024 + j)) (bit_or (get_or s (base + (1024 + j)) 0) x)) (λ a y. in_word j x (some a) && eq_next y none)
unfolding stored word_of slot in_word eq_next
ends_inserted s base j x hj l = record {
  frame = framed_set s _ _ (omega arith) (omega arith);
  adds = at;
}
  where
    k : ℕ
    k = base + (1024 + j)

    v : ℕ
    v = bit_or (get_or s k 0) x

    at : (a : ℕ) (y : Option ℕ) → a < 256 → Within 256 y → stored (set s k v) base a y ≡ (stored s base a y || (in_word j x (some a) && eq_next y none))
    at a (some c) ha hy =
        ap (bit (c % 64)) (get_or-set_other s k (base + (4 * a + c / 64)) v 0 (omega arith))
        ∙ sym (ap (λ (u : Bool). bit (c % 64) (get_or s (base + (4 * a + c / 64)) 0) || u) (and-false (eqb (a / 64) j && bit (a % 64) x)) ∙ or-false _)
    at a none ha hy = go (ℕ_discrete (a / 64) j)
      where
        w : ℕ
        w = base + (1024 + a / 64)

        go : Dec (a / 64 ≡ j) → bit (a % 64) (get_or (set s k v) w 0) ≡ (bit (a % 64) (get_or s w 0) || ((eqb (a / 64) j && bit (a % 64) x) && true))
        go (yes e) =
            let q : w ≡ k = omega arith in
            ap (λ (i : ℕ). bit (a % 64) (get_or (set s k v) i 0)) q
            ∙ ap (bit (a % 64)) (get_or-set_same s k v 0 (omega arith))
            ∙ bit-or (a % 64) (get_or s k 0) x
            ∙ ap₂ (λ (i : ℕ) (u : Bool). bit (a % 64) (get_or s i 0) || u) (sym q)
            (sym (and-true (eqb (a / 64) j && bit (a % 64) x) ∙ ap (λ (u : Bool). u && bit (a % 64) x) (eq-eqb (a / 64) j e)))
        go (no d) =
            ap (bit (a % 64)) (get_or-set_other s k w v 0 (omega arith))
            ∙ sym (ap (λ (u : Bool). bit (a % 64) (get_or s w 0) || ((u && bit (a % 64) x) && true)) (ne_eqb (a / 64) j d) ∙ or-false _)

-- a row is taken out: its words are 0, and its bit among the ends is
pub row_taken : (base a : ℕ) (s t : List ℕ) → a < 256 → base + set_words ≤ length s → Zeroed (base + 4 * a) 4 s t
    → RowTaken base a s (set t (base + (1024 + a / 64)) (bit_and (get_or t (base + (1024 + a / 64)) 0) ((2 ^ 64 - 1) - 1 * 2 ^ (a % 64) % 2 ^ 64)))
unfolding stored word_of slot
row_taken base a s t ha l p = record {
  frame = framed_then (framed_wider (omega arith) (omega arith) p.frame) (framed_set t _ _ (omega arith) (omega arith));
  taken = at;
}
  where
    k : ℕ
    k = base + (1024 + a / 64)

    m : ℕ
    m = 1 * 2 ^ (a % 64) % 2 ^ 64

    v : ℕ
    v = bit_and (get_or t k 0) ((2 ^ 64 - 1) - m)

    at : (x : ℕ) (y : Option ℕ) → x < 256 → Within 256 y → stored (set t k v) base x y ≡ (stored s base x y && not (eqb x a))
    at x none hx hy = go (ℕ_discrete (x / 64) (a / 64))
      where
        e : ℕ
        e = base + (1024 + x / 64)

        same_bit : x / 64 ≡ a / 64 → Dec (x ≡ a) → eqb (x % 64) (a % 64) ≡ eqb x a
        same_bit q (yes d) = eq-eqb (x % 64) (a % 64) (omega arith) ∙ sym (eq-eqb x a d)
        same_bit q (no d) = ne_eqb (x % 64) (a % 64) (λ r. d (omega arith)) ∙ sym (ne_eqb x a d)

        go : Dec (x / 64 ≡ a / 64) → bit (x % 64) (get_or (set t k v) e 0) ≡ (bit (x % 64) (get_or s e 0) && not (eqb x a))
        go (yes d) =
            let q : e ≡ k = omega arith in
            ap (λ (i : ℕ). bit (x % 64) (get_or (set t k v) i 0)) q
            ∙ ap (bit (x % 64)) (get_or-set_same t k v 0 (omega (arith, p.frame.same_length)))
            ∙ bit-and (x % 64) (get_or t k 0) ((2 ^ 64 - 1) - m)
            ∙ ap₂ ◌&&◌ (ap (bit (x % 64)) (p.frame.beyond k (omega arith)) ∙ ap (λ (i : ℕ). bit (x % 64) (get_or s i 0)) (sym q))
            (bit_not 64 (x % 64) m (omega arith) (omega arith) ∙ ap not (bit-shl (x % 64) (a % 64) (omega arith) ∙ same_bit d (ℕ_discrete x a)))
        go (no d) =
            ap (bit (x % 64)) (get_or-set_other t k e v 0 (omega arith) ∙ p.frame.beyond e (omega arith))
            ∙ sym (ap (λ (u : Bool). bit (x % 64) (get_or s e 0) && not u) (ne_eqb x a (λ q. d (ap (λ (i : ℕ). i / 64) q))) ∙ and-true (bit (x % 64) (get_or s e 0)))
    at x (some c) hx hy = go (ℕ_discrete x a)
      where
        e : ℕ
        e = base + (4 * x + c / 64)

        other : get_or (set t k v) e 0 ≡ get_or t e 0
        other = get_or-set_other t k e v 0 (omega arith)

        go : Dec (x ≡ a) → bit (c % 64) (get_or (set t k v) e 0) ≡ (bit (c % 64) (get_or s e 0) && not (eqb x a))
        go (yes d) =
            let q : e ≡ base + 4 * a + c / 64 = omega arith in
            ap (bit (c % 64)) (other ∙ ap (λ (i : ℕ). get_or t i 0) q ∙ p.zero_now (c / 64) (omega arith)) ∙ bit-none (c % 64)
            ∙ sym (ap (λ (u : Bool). bit (c % 64) (get_or s e 0) && not u) (eq-eqb x a d) ∙ and-false (bit (c % 64) (get_or s e 0)))
        go (no d) = ap (bit (c % 64)) (other ∙ outside (dec_lt x a)) ∙ sym (ap (λ (u : Bool). bit (c % 64) (get_or s e 0) && not u) (ne_eqb x a d) ∙ and-true (bit (c % 64) (get_or s e 0)))
          where
            outside : Dec (x < a) → get_or t e 0 ≡ get_or s e 0
            outside (yes g) = p.frame.before e (omega arith)
            outside (no g) = p.frame.beyond e (omega arith)

-- ---- a set is known by its pairs: two storages of 64-bit words with the same pairs in a set have the same words there

pub set_ext : (s t : List ℕ) (base base' : ℕ) → ((k : ℕ) → k < set_words → get_or s (base + k) 0 < 2 ^ 64) → ((k : ℕ) → k < set_words → get_or t (base' + k) 0 < 2 ^ 64)
    → ((x : ℕ) (y : Option ℕ) → x < 256 → Within 256 y → stored s base x y ≡ stored t base' x y) → (k : ℕ) → k < set_words → get_or s (base + k) 0 ≡ get_or t (base' + k) 0
set_ext s t base base' hs ht same k h = bits_ext 64 (get_or s (base + k) 0) (get_or t (base' + k) 0) (hs k h) (ht k h) (λ i l. at i l (dec_lt k 1024))
  where
    at : (i : ℕ) → i < 64 → Dec (k < 1024) → bit i (get_or s (base + k) 0) ≡ bit i (get_or t (base' + k) 0)
    at i l (yes d) =
        let e : k ≡ 4 * (k / 4) + k % 4 = omega arith in
        ap (λ (m : ℕ). bit i (get_or s (base + m) 0)) e ∙ lane s base (k / 4) (k % 4) i l
        ∙ same (k / 4) (some (64 * (k % 4) + i)) (omega arith) (omega arith)
        ∙ sym (ap (λ (m : ℕ). bit i (get_or t (base' + m) 0)) e ∙ lane t base' (k / 4) (k % 4) i l)
    at i l (no d) =
        let e : k ≡ 1024 + (k - 1024) = omega arith in
        ap (λ (m : ℕ). bit i (get_or s (base + m) 0)) e ∙ lane_end s base (k - 1024) i l ∙ same (64 * (k - 1024) + i) none (omega arith) tt
        ∙ sym (ap (λ (m : ℕ). bit i (get_or t (base' + m) 0)) e ∙ lane_end t base' (k - 1024) i l)

-- ---- a row with one valuation more

pub noted : (row : List ℕ) (a : ℕ) → a < 256 → length row ≡ 4 → Noted a row (set row (a / 64) (bit_or (get_or row (a / 64) 0) (1 * 2 ^ (a % 64) % 2 ^ 64)))
unfolding row_bit
noted row a ha l = record { same_length = length-set row (a / 64) v; gains = λ x hx. go x hx (ℕ_discrete (x / 64) (a / 64)) (ℕ_discrete x a) }
  where
    v : ℕ
    v = bit_or (get_or row (a / 64) 0) (1 * 2 ^ (a % 64) % 2 ^ 64)

    go : (x : ℕ) → x < 256 → Dec (x / 64 ≡ a / 64) → Dec (x ≡ a) → bit (x % 64) (get_or (set row (a / 64) v) (0 + x / 64) 0) ≡ (bit (x % 64) (get_or row (0 + x / 64) 0) || eqb x a)
    go x hx (yes d) e =
        let q : 0 + x / 64 ≡ a / 64 = omega arith in
        ap (λ (i : ℕ). bit (x % 64) (get_or (set row (a / 64) v) i 0)) q
        ∙ ap (bit (x % 64)) (get_or-set_same row (a / 64) v 0 (omega arith))
        ∙ bit-or (x % 64) (get_or row (a / 64) 0) (1 * 2 ^ (a % 64) % 2 ^ 64)
        ∙ ap₂ ◌||◌ (ap (λ (i : ℕ). bit (x % 64) (get_or row i 0)) (sym q)) (bit-shl (x % 64) (a % 64) (omega arith) ∙ same e)
      where
        same : Dec (x ≡ a) → eqb (x % 64) (a % 64) ≡ eqb x a
        same (yes e) = eq-eqb (x % 64) (a % 64) (omega arith) ∙ sym (eq-eqb x a e)
        same (no e) = ne_eqb (x % 64) (a % 64) (λ r. e (omega arith)) ∙ sym (ne_eqb x a e)
    go x hx (no d) e =
        ap (bit (x % 64)) (get_or-set_other row (a / 64) (0 + x / 64) v 0 (omega arith))
        ∙ sym (ap (λ (u : Bool). bit (x % 64) (get_or row (0 + x / 64) 0) || u) (ne_eqb x a (λ r. d (omega arith))) ∙ or-false (bit (x % 64) (get_or row (0 + x / 64) 0)))
