-- Valuations as the bits of words, and the verdicts read off them.
use mathlib.Core.Path.{◌≡◌, refl, sym, ap, ap₂, ◌∙◌, subst}
use mathlib.Core.Bool.{Bool, true, false, not, ◌&&◌, ◌||◌, beq, and-true, and-false, or-false, and_assoc, and_comm, true≢false}
use mathlib.Core.List.{List}
use mathlib.Core.Option.{Option, none, some}
use Prim.Native.Nat.{ℕ, zero, suc, ◌+◌, ◌-◌, ◌*◌, ◌/◌, ◌%◌, ◌^◌, ◌≤◌, ◌<◌, min}
use native.Mathlib.Omega.{arith}
use native.Mathlib.Decide.{ℕ_discrete, dec_lt}
use lib.Dec.{eqb, ltb}
use lib.Bits.{bit_and, bit_or, and_lt}
use lib.ListN.{length, get_or, set, length-set, replicate}
use lib.Seq.{get_or-set_same, get_or-set_other}
use borrow.Author.Count.{below_more}
use borrow.Author.Tests.{le-ltb, lt-ltb, ltb-true, eq-eqb, ne_eqb}
use Rattle.outcomes.specs.Numbers.{untold, told_at, Verdicts}
use Rattle.outcomes.specs.declared.Verdict.{Verdict}
use Rattle.outcomes.specs.declared.Verdict.TheVariants.{False}
use Rattle.words.specs.Bits.{digit, bit}
use Rattle.words.specs.Sizes.{Wide}
use Rattle.words.specs.Below.{any_below}
use Rattle.words.proofs.BitLaws.{bit-and, bit-or, bit-shl, bit-none, without, lane_off, lane_less}
use Rattle.words.proofs.AnyLaws.{any_cong, any_one, any_add, any_groups, any_word, none_any, some_any, any_some}
use Rattle.words.proofs.BelowLaws.{below_none, below_more as one_more_below}
use Rattle.words.proofs.LaneLaws.{beq_true, beq_false}
use Rattle.words.proofs.Bools.{iff, and_split}
use Rattle.completions.specs.Live.{Pairs}
use Rattle.completions.specs.Together.{named}
use Rattle.completions.specs.Steps.{any_next, any_pair, verdict_of, pairs_verdict, ends_verdict}
use Rattle.pairs.specs.Storage.{reached}
use Rattle.pairs.specs.Changes.{row_bit, RowOf, EndsWord}
use Rattle.pairs.proofs.RowWords.{row_lane}
use Rattle.rounds.specs.Rows.{among}
use Rattle.rounds.proofs.WordLaws.{heard_lane}
use Rattle.verdicts.specs.Firsts.{Passing, shows, all_named}

-- ---- whether a row has a member

pub first-end : (s : List ℕ) (v a : ℕ) → reached s a none ≡ true → true ≡ any_next v (reached s a)
unfolding any_next
first-end s v a e = sym (ap (λ (u : Bool). u || any_below v (λ b. reached s a (some b))) e)

pub first_rest : (s : List ℕ) (v a : ℕ) → reached s a none ≡ false → any_below v (λ b. reached s a (some b)) ≡ any_next v (reached s a)
unfolding any_next
first_rest s v a e = sym (ap (λ (u : Bool). u || any_below v (λ b. reached s a (some b))) e)

-- the lanes of its words, those below v, show whether it has one
module _ (s : List ℕ) (v w a x mask : ℕ) (wide : Wide v w) (lx : (i : ℕ) → i < 64 → bit i x ≡ any_below w (λ j. reached s a (some (64 * j + i))))
    (lm : (i : ℕ) → i < 64 → bit i mask ≡ ltb (64 * 0 + i) v) where
  abbrev member : ℕ → Bool
  member b = reached s a (some b)

  within : (i j : ℕ) → i < 64 → i < v → j < w → 64 * j + i < v
  within i j h l g = go (dec_lt 1 w)
    where
      go : Dec (1 < w) → 64 * j + i < v
      go (yes d) = omega (arith, wide.full d)
      go (no d) = omega arith

  some_lane : any_below 64 (λ i. bit i (bit_and x mask)) ≡ true → any_below v member ≡ true
  some_lane e =
      let z = any_some 64 (λ i. bit i (bit_and x mask)) e in
      let i : ℕ = z.0 in
      let h : i < 64 = z.1 in
      let k = and_split (bit i x) (bit i mask) (sym (bit-and i x mask) ∙ z.2) in
      let l : 64 * 0 + i < v = ltb-true (64 * 0 + i) v (sym (lm i h) ∙ k.1) in
      let y = any_some w (λ j. member (64 * j + i)) (sym (lx i h) ∙ k.0) in
      some_any v member (64 * y.0 + i) (within i y.0 h (omega arith) y.1) y.2

  lane_of : any_below v member ≡ true → any_below 64 (λ i. bit i (bit_and x mask)) ≡ true
  lane_of e =
      let z = any_some v member e in
      let b : ℕ = z.0 in
      let g : b < v = z.1 in
      let h : b % 64 < 64 = omega arith in
      let q : 64 * (b / 64) + b % 64 ≡ b = omega arith in
      let l : b / 64 < w = omega (arith, wide.under) in
      some_any 64 (λ i. bit i (bit_and x mask)) (b % 64) h
      (bit-and (b % 64) x mask
      ∙ ap₂ ◌&&◌ (lx (b % 64) h ∙ some_any w (λ j. member (64 * j + b % 64)) (b / 64) l (ap member q ∙ z.2)) (lm (b % 64) h ∙ lt-ltb (64 * 0 + b % 64) v (omega arith)))

  pub row_member : x < 2 ^ 64 → mask < 2 ^ 64 → not (eqb (bit_and x mask) 0) ≡ any_below v member
  row_member hx hm = sym (any_word 64 (bit_and x mask) (and_lt 64 x mask hx hm)) ∙ iff (any_below 64 (λ i. bit i (bit_and x mask))) (any_below v member) some_lane lane_of

-- ---- the lanes of a word, one after the other

-- one lane is looked at: it is set in the word where v is true
pub lane_set : (k x i : ℕ) (v : Bool) → i < 64 → v ≡ true → bit k (bit_or x (1 * 2 ^ i % 2 ^ 64)) ≡ (bit k x || (eqb k i && v))
lane_set k x i v h e =
    bit-or k x (1 * 2 ^ i % 2 ^ 64)
    ∙ ap (λ (u : Bool). bit k x || u) (bit-shl k i h ∙ sym (ap (λ (u : Bool). eqb k i && u) e ∙ and-true (eqb k i)))

pub lane_kept : (k x i : ℕ) (v : Bool) → v ≡ false → bit k x ≡ (bit k x || (eqb k i && v))
lane_kept k x i v e = sym (ap (λ (u : Bool). bit k x || u) (ap (λ (u : Bool). eqb k i && u) e ∙ and-false (eqb k i)) ∙ or-false (bit k x))

-- the lanes of `all` have g where it is looked at; the rest of them is still to be looked at
pub record Looking (g : ℕ → Bool) (all word rest : ℕ) : Type 0 where
  pub fits : rest < 2 ^ 64
  pub lanes : (k : ℕ) → k < 64 → (bit k word || (bit k rest && g k)) ≡ (bit k all && g k)

pub looking_start : (g : ℕ → Bool) (all : ℕ) → all < 2 ^ 64 → Looking g all 0 all
looking_start g all l = record { fits = l; lanes = λ k h. ap (λ (u : Bool). u || (bit k all && g k)) (bit-none k) }

pub looking_more : (g : ℕ → Bool) (all word rest i word' : ℕ) (v : Bool) → i < 64 → bit i rest ≡ true → v ≡ g i → ((k : ℕ) → bit k word' ≡ (bit k word || (eqb k i && v))) → Looking g all word rest
    → Looking g all word' (without rest i)
looking_more g all word rest i word' v l o e f p = record {
  fits = omega (arith, p.fits, lane_less rest i l o);
  lanes = λ k h. ap₂ (λ (y z : Bool). y || (z && g k)) (f k) (lane_off k rest i h l) ∙ at k (ℕ_discrete k i) ∙ p.lanes k h;
}
  where
    taken : (y z u t : Bool) → z ≡ true → u ≡ t → ((y || u) || ((z && false) && t)) ≡ (y || (z && t))
    taken true z u t a b = refl
    taken false true u t a b = or-false u ∙ b
    taken false false u t a b = absurd (true≢false cc)

    left : (y z t : Bool) → ((y || false) || ((z && true) && t)) ≡ (y || (z && t))
    left y z t = ap₂ (λ (a b : Bool). a || (b && t)) (or-false y) (and-true z)

    at : (k : ℕ) → Dec (k ≡ i) → ((bit k word || (eqb k i && v)) || ((bit k rest && not (eqb k i)) && g k)) ≡ (bit k word || (bit k rest && g k))
    at k (yes d) = rw (eq-eqb k i d) (taken (bit k word) (bit k rest) v (g k) (ap (λ (j : ℕ). bit j rest) d ∙ o) (e ∙ ap g (sym d)))
    at k (no n) = rw (ne_eqb k i n) (left (bit k word) (bit k rest) (g k))

-- the next lane to look at
pub looking_done : (g : ℕ → Bool) (all word rest : ℕ) → rest ≡ 0 → Looking g all word rest → (k : ℕ) → k < 64 → bit k word ≡ (bit k all && g k)
looking_done g all word rest e p k h =
    sym (ap (λ (u : Bool). bit k word || (u && g k)) (ap (bit k) e ∙ bit-none k) ∙ or-false (bit k word)) ∙ p.lanes k h

-- the lanes that stand for valuations below v and were heard
pub heard-below : (j v letters mask : ℕ) → ((i : ℕ) → i < 64 → bit i mask ≡ ltb (64 * j + i) v) → (i : ℕ) → i < 64 → bit i (bit_and mask letters) ≡ (ltb (64 * j + i) v && among letters (64 * j + i))
heard-below j v letters mask f i h = bit-and i mask letters ∙ ap₂ ◌&&◌ (f i h) (heard_lane letters j i h)

-- the lanes below i have g, and no others are set
pub record Counted (g : ℕ → Bool) (word i : ℕ) : Type 0 where
  pub lanes : (k : ℕ) → k < 64 → bit k word ≡ (ltb k i && g k)

module _ (g : ℕ → Bool) where
  pub counted_none : Counted g 0 0
  counted_none = record { lanes = λ k h. bit-none k ∙ sym (below_none k (g k)) }

  pub counted_more : (word i word' : ℕ) (v : Bool) → v ≡ g i → ((k : ℕ) → bit k word' ≡ (bit k word || (eqb k i && v))) → Counted g word i → Counted g word' (i + 1)
  counted_more word i word' v e f p = record {
    lanes = λ k h. f k ∙ ap (λ (u : Bool). u || (eqb k i && v)) (p.lanes k h) ∙ one_more_below k i (g k) v (λ d. e ∙ ap g (sym d));
  }

-- lanes of valuations below v lie among the first n
pub first_lane : (g : ℕ → Bool) (v n j low word : ℕ) → n ≡ min v 64 → ((i : ℕ) → i < 64 → bit i low ≡ ltb (64 * j + i) v) → ((i : ℕ) → i < 64 → bit i word ≡ (ltb i n && g i)) → (i : ℕ) → i < 64
    → bit i (bit_and low word) ≡ (bit i low && g i)
first_lane g v n j low word e f h i l = bit-and i low word ∙ rw (f i l, h i l) (at (dec_lt (64 * j + i) v))
  where
    at : Dec (64 * j + i < v) → (ltb (64 * j + i) v && (ltb i n && g i)) ≡ (ltb (64 * j + i) v && g i)
    at (yes d) = rw (lt-ltb i n (omega (arith, d, l, e))) refl
    at (no d) = rw (le-ltb (64 * j + i) v (omega arith)) refl

-- with the lanes that the end mark follows, those that a valuation follows are the first parts
pub every_lane : (s : List ℕ) (v j e low word : ℕ) → EndsWord (reached s) j e → ((i : ℕ) → i < 64 → bit i low ≡ ltb (64 * j + i) v)
    → ((i : ℕ) → i < 64 → bit i word ≡ (bit i low && any_below v (λ b. reached s (64 * j + i) (some b)))) → (i : ℕ) → i < 64
    → bit i (bit_or (bit_and e low) word) ≡ (ltb (64 * j + i) v && any_next v (reached s (64 * j + i)))
unfolding any_next
every_lane s v j e low word f g h i l =
    let ends = reached s (64 * j + i) none in
    let some_next = any_below v (λ b. reached s (64 * j + i) (some b)) in
    bit-or i (bit_and e low) word ∙ ap₂ ◌||◌ (bit-and i e low ∙ ap₂ ◌&&◌ (f i l) (g i l)) (h i l ∙ ap (λ (u : Bool). u && some_next) (g i l))
    ∙ joined (ltb (64 * j + i) v) ends some_next
  where
    joined : (a e g : Bool) → ((e && a) || (a && g)) ≡ (a && (e || g))
    joined true true g = refl
    joined true false g = refl
    joined false true g = refl
    joined false false g = refl

-- ---- the ends

-- a word of the end row
pub ends_lane : (s : List ℕ) (j v mask word : ℕ) → EndsWord (reached s) j word → ((i : ℕ) → i < 64 → bit i mask ≡ ltb (64 * j + i) v) → (i : ℕ) → i < 64
    → bit i (bit_and word mask) ≡ (ltb (64 * j + i) v && reached s (64 * j + i) none)
ends_lane s j v mask word e f i h =
    bit-and i word mask ∙ ap₂ ◌&&◌ (e i h) (f i h) ∙ and_comm (reached s (64 * j + i) none) (ltb (64 * j + i) v)

-- ---- whether the test gives v for some valuation, word by word

module _ (f : List ℕ) (g : ℕ → Bool) (v : Bool) where
  unfoldable pub shownIn : ℕ → Bool
  shownIn j = any_below 64 (λ i. row_bit f 0 (j * 64 + i) && beq (g (j * 64 + i)) v)

  pub shows-words : (w : ℕ) → shows w f g v ≡ any_below w shownIn
  unfolding shows shownIn
  shows-words w = let e : 64 * w ≡ w * 64 = omega arith in ap (λ (k : ℕ). any_below k (λ b. row_bit f 0 b && beq (g b) v)) e ∙ any_groups w 64 (λ b. row_bit f 0 b && beq (g b) v)

  pub shown-word : (j p : ℕ) → get_or f j 0 < 2 ^ 64 → p < 2 ^ 64 → ((i : ℕ) → i < 64 → bit i p ≡ beq (g (64 * j + i)) v) → shownIn j ≡ not (eqb (bit_and (get_or f j 0) p) 0)
  unfolding shownIn
  shown-word j p hw hp h =
      any_cong 64 (λ i. row_bit f 0 (j * 64 + i) && beq (g (j * 64 + i)) v) (λ i. bit i (bit_and (get_or f j 0) p))
      (λ i l.
      let e : j * 64 + i ≡ 64 * j + i = omega arith in
      ap₂ ◌&&◌ (ap (row_bit f 0) e ∙ row_lane f j i l) (ap (λ (k : ℕ). beq (g k) v) e ∙ sym (h i l)) ∙ sym (bit-and i (get_or f j 0) p))
      ∙ any_word 64 (bit_and (get_or f j 0) p) (and_lt 64 (get_or f j 0) p hw hp)

-- a row of words stands for every test that it has the valuations of
pub shows-test : (w : ℕ) (f t : List ℕ) (g : ℕ → Bool) (v : Bool) → RowOf w t g → shows w f (row_bit t 0) v ≡ shows w f g v
unfolding shows
shows-test w f t g v x = any_cong (64 * w) _ _ (λ b h. ap (λ (u : Bool). row_bit f 0 b && beq u v) (x b h))

-- ---- verdicts

-- what was found of the row's test, of every test that it stands for
pub verdict-of : (w : ℕ) (f t : List ℕ) (y n u v : Bool) → y ≡ shows w f (row_bit t 0) true → n ≡ shows w f (row_bit t 0) false → y ≡ u → n ≡ v
    → (g : ℕ → Bool) → RowOf w t g → verdict_of u v ≡ verdict_of (shows w f g true) (shows w f g false)
verdict-of w f t y n u v a b e₁ e₂ g x = ap₂ verdict_of (sym e₁ ∙ a ∙ shows-test w f t g true x) (sym e₂ ∙ b ∙ shows-test w f t g false x)

-- the numbers below w of a wider search
any_below_lem : (w n : ℕ) (p : ℕ → Bool) → w ≤ n → any_below n (λ b. ltb b w && p b) ≡ any_below w p
any_below_lem w n p h =
    let e : n ≡ w + (n - w) = omega arith in
    ap (λ (k : ℕ). any_below k (λ b. ltb b w && p b)) e ∙ any_add w (n - w) (λ b. ltb b w && p b)
    ∙ ap₂ ◌||◌ (none_any (n - w) (λ i. ltb (w + i) w && p (w + i)) (λ i l. ap (λ (u : Bool). u && p (w + i)) (le-ltb (w + i) w (omega arith))))
    (any_cong w (λ b. ltb b w && p b) p (λ b l. ap (λ (u : Bool). u && p b) (lt-ltb b w l)))

module _ (w : ℕ) (f : List ℕ) (v : ℕ) (g P : ℕ → Bool) (hv : v ≤ 64 * w) (words : RowOf w f (λ b. ltb b v && P b)) where
  shows-is : (u : Bool) → shows w f g u ≡ any_below v (λ b. P b && beq (g b) u)
  unfolding shows
  shows-is u =
      any_cong (64 * w) _ (λ b. ltb b v && (P b && beq (g b) u)) (λ b h. ap (λ (t : Bool). t && beq (g b) u) (words b h) ∙ and_assoc (ltb b v) (P b) (beq (g b) u))
      ∙ any_below_lem v (64 * w) (λ b. P b && beq (g b) u) hv

  shows-true : shows w f g true ≡ any_below v (λ b. P b && g b)
  shows-true = shows-is true ∙ any_cong v _ _ (λ b h. ap (λ (u : Bool). P b && u) (sym (beq_true (g b))))

  shows-false : shows w f g false ≡ any_below v (λ b. P b && not (g b))
  shows-false = shows-is false ∙ any_cong v _ _ (λ b h. ap (λ (u : Bool). P b && u) (sym (beq_false (g b))))

next-and : (w : ℕ) (f : Option ℕ → Bool) (k : Bool) → (any_next w f && k) ≡ any_next w (λ c. f c && k)
unfolding any_next
next-and w f true =
    and-true (f none || any_below w (λ b. f (some b)))
    ∙ ap₂ ◌||◌ (sym (and-true (f none))) (any_cong w _ _ (λ b h. sym (and-true (f (some b)))))
next-and w f false =
    and-false (f none || any_below w (λ b. f (some b)))
    ∙ sym (ap₂ ◌||◌ (and-false (f none)) (none_any w _ (λ b h. and-false (f (some b)))))

-- where only what was heard is a first part, nothing else needs to be looked at
all_firsts : (w : ℕ) (f : List ℕ) (v : ℕ) (r : ℕ → Bool) (S : Pairs) → Passing v r S → RowOf w f (λ b. (ltb b v && r b) && any_next v (S b)) → RowOf w f (λ b. ltb b v && any_next v (S b))
unfolding any_next
all_firsts w f v r S p h b l = h b l ∙ at b (dec_lt b v) (r b) refl
  where
    none-at : (b : ℕ) → b < v → r b ≡ false → any_next v (S b) ≡ false
    none-at b l e = ap₂ ◌||◌ (p b none l tt e) (none_any v (λ c. S b (some c)) (λ c g. p b (some c) l g e))

    at : (b : ℕ) → Dec (b < v) → (u : Bool) → r b ≡ u → ((ltb b v && r b) && any_next v (S b)) ≡ (ltb b v && any_next v (S b))
    at b (yes l) true e = ap (λ (u : Bool). u && any_next v (S b)) (ap (λ (u : Bool). ltb b v && u) e ∙ and-true (ltb b v))
    at b (yes l) false e = ap (λ (u : Bool). (ltb b v && r b) && u) (none-at b l e) ∙ and-false (ltb b v && r b) ∙ sym (ap (λ (u : Bool). ltb b v && u) (none-at b l e) ∙ and-false (ltb b v))
    at b (no n) u e = let g : v ≤ b = omega arith in rw (le-ltb b v g)

pub every_verdict : (w : ℕ) (f : List ℕ) (v v' : ℕ) (g : ℕ → Bool) (S : Pairs) → v ≡ v' → v ≤ 64 * w → RowOf w f (λ b. ltb b v && any_next v (S b))
    → verdict_of (shows w f g true) (shows w f g false) ≡ pairs_verdict v' S g
unfolding pairs_verdict any_pair
every_verdict w f v v' g S e hv h =
    ap₂ verdict_of
    (shows-true w f v g (λ b. any_next v (S b)) hv h ∙ any_cong v _ _ (λ b l. next-and v (S b) (g b)))
    (shows-false w f v g (λ b. any_next v (S b)) hv h ∙ any_cong v _ _ (λ b l. next-and v (S b) (not (g b))))
    ∙ ap (λ (k : ℕ). pairs_verdict k S g) e

pub firsts_verdict : (w : ℕ) (f : List ℕ) (v v' : ℕ) (g r : ℕ → Bool) (S : Pairs) → v ≡ v' → v ≤ 64 * w → Passing v' r S → RowOf w f (λ b. (ltb b v && r b) && any_next v (S b))
    → verdict_of (shows w f g true) (shows w f g false) ≡ pairs_verdict v' S g
firsts_verdict w f v v' g r S e hv p h = every_verdict w f v v' g S e hv (all_firsts w f v r S (subst (λ (k : ℕ). Passing k r S) (sym e) p) h)

pub ends-verdict : (w : ℕ) (f : List ℕ) (v v' : ℕ) (g : ℕ → Bool) (S : Pairs) → v ≡ v' → v ≤ 64 * w → RowOf w f (λ b. ltb b v && S b none)
    → verdict_of (shows w f g true) (shows w f g false) ≡ ends_verdict v' S g
unfolding ends_verdict
ends-verdict w f v v' g S e hv h =
    ap₂ verdict_of (shows-true w f v g (λ b. S b none) hv h) (shows-false w f v g (λ b. S b none) hv h) ∙ ap (λ (k : ℕ). ends_verdict k S g) e

-- ---- a set of outputs, one after the other

-- the outputs of the set below k are true in the lanes of the word
pub record Narrowed (m n set j word k : ℕ) : Type 0 where
  pub within : k ≤ n
  pub lanes : (i : ℕ) → i < 64 → bit i word ≡ all_named m k set (64 * j + i)

-- one output more: it has to be true if the set names it
in_set : (m k set v : ℕ) → bit k set ≡ true → (all_named m k set v && bit (m + k) v) ≡ all_named m (k + 1) set v
unfolding all_named bit digit
in_set m k set v e =
    let f : ℕ → Bool = λ i. named set i && not (bit (m + i) v) in
    both (named set k) (bit (m + k) v) (any_below k f) e ∙ sym (ap not (any_one k f))
  where
    both : (u x r : Bool) → u ≡ true → (not r && x) ≡ not ((u && not x) || r)
    both true true true q = refl
    both true true false q = refl
    both true false true q = refl
    both true false false q = refl
    both false x r q = absurd (true≢false (sym q))

out_of_set : (m k set v : ℕ) → bit k set ≡ false → all_named m k set v ≡ all_named m (k + 1) set v
unfolding all_named bit digit
out_of_set m k set v e =
    let f : ℕ → Bool = λ i. named set i && not (bit (m + i) v) in
    sym (ap not (any_one k f ∙ ap (λ (u : Bool). (u && not (bit (m + k) v)) || any_below k f) e))

module _ (m n set j : ℕ) where
  pub narrowed_none : (word : ℕ) → ((i : ℕ) → i < 64 → bit i word ≡ true) → Narrowed m n set j word 0
  unfolding all_named any_below
  narrowed_none word e = record { within = omega arith; lanes = e }

  module _ (word word' k : ℕ) (h : k < n) (p : Narrowed m n set j word k) where
    pub narrowed-more : bit k set ≡ true → ((i : ℕ) → i < 64 → bit i word' ≡ (bit i word && bit (m + k) (64 * j + i))) → Narrowed m n set j word' (k + 1)
    narrowed-more e f = record {
      within = omega arith;
      lanes = λ i l. f i l ∙ ap (λ (u : Bool). u && bit (m + k) (64 * j + i)) (p.lanes i l) ∙ in_set m k set (64 * j + i) e;
    }

    pub narrowed-same : bit k set ≡ false → word' ≡ word → Narrowed m n set j word' (k + 1)
    narrowed-same e q = record { within = omega arith; lanes = λ i l. ap (bit i) q ∙ p.lanes i l ∙ out_of_set m k set (64 * j + i) e }

  pub narrowed-all : (word k : ℕ) → n ≤ k → Narrowed m n set j word k → (i : ℕ) → i < 64 → bit i word ≡ all_named m n set (64 * j + i)
  narrowed-all word k h p i l =
      let e : k ≡ n = omega (arith, p.within) in
      p.lanes i l ∙ ap (λ (c : ℕ). all_named m c set (64 * j + i)) e

-- ---- the outputs, one after the other

pub record Telling (n : ℕ) (f : ℕ → Verdict) (vs : List Verdict) (k : ℕ) : Type 0 where
  pub within : k ≤ n
  pub size : length vs ≡ 7
  pub each : (j : ℕ) → j < k → told_at vs j ≡ f j
  pub beyond : (j : ℕ) → k ≤ j → told_at vs j ≡ False

untold-at : (n k : ℕ) → told_at (replicate n untold) k ≡ False
untold-at zero k = refl
untold-at (suc n) zero = refl
untold-at (suc n) (suc k) = untold-at n k

pub telling_none : (n : ℕ) (f : ℕ → Verdict) (vs : List Verdict) → vs ≡ replicate 7 untold → Telling n f vs 0
telling_none n f vs e = rw e (record { within = omega arith; size = refl; each = λ j h. absurd (omega arith); beyond = λ j h. untold-at 7 j })

pub telling_more : (n : ℕ) (f : ℕ → Verdict) (vs : List Verdict) (k : ℕ) (t : Verdict) → k < n → n ≤ 7 → Telling n f vs k → t ≡ f k → Telling n f (set vs k t) (k + 1)
telling_more n f vs k t h l p e = record {
  within = omega arith;
  size = length-set vs k t ∙ p.size;
  each = below_more (λ (j : ℕ). told_at (set vs k t) j ≡ f j) k (λ j g. other j (omega arith) ∙ p.each j g) (get_or-set_same vs k t untold (omega (arith, p.size)) ∙ e);
  beyond = λ j g. other j (omega arith) ∙ p.beyond j (omega arith);
}
  where
    other : (j : ℕ) → (j ≡ k → ⊥) → told_at (set vs k t) j ≡ told_at vs j
    other j q = get_or-set_other vs k j t untold q

pub telling_all : (n : ℕ) (f : ℕ → Verdict) (vs : List Verdict) (k : ℕ) → n ≤ k → Telling n f vs k → Verdicts n f vs
telling_all n f vs k h p = record { size = p.size; each = λ j g. p.each j (omega arith); beyond = λ j g. p.beyond j (omega (arith, p.within)) }

pub verdicts_as : (n : ℕ) (f g : ℕ → Verdict) (vs : List Verdict) → ((k : ℕ) → k < n → f k ≡ g k) → Verdicts n f vs → Verdicts n g vs
verdicts_as n f g vs e t = record { size = t.size; each = λ k h. t.each k h ∙ e k h; beyond = t.beyond }
