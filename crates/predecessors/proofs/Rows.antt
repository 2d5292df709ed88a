-- Rows of words: their lanes, written one word after the other.
use mathlib.Core.Path.{◌≡◌, refl, sym, ap, ap₂, ◌∙◌}
use mathlib.Core.Bool.{Bool, true, false, not, ◌&&◌, ◌||◌, and-true}
use mathlib.Core.List.{List, []}
use Prim.Native.Nat.{ℕ, ◌+◌, ◌*◌, ◌/◌, ◌%◌, ◌^◌, ◌≤◌, ◌<◌}
use native.Mathlib.Omega.{arith}
use native.Mathlib.Decide.{ℕ_discrete}
use lib.Bits.{bit_and}
use lib.Dec.{ltb}
use lib.ListN.{length, get_or, set, length-set}
use lib.Seq.{get_or-set_other}
use Rattle.words.specs.Bits.{bit}
use Rattle.words.proofs.BitLaws.{bit-and}
use Rattle.words.proofs.ListLaws.{set_more}
use Rattle.sheet.specs.RuleSheet.{required_of}
use Rattle.sheet.specs.declared.OutputNo.{OutputNo}
use Rattle.sheet.specs.Parts.{Assumed}
use Rattle.std.specs.Prelude.{None, Some}
use Rattle.sheet.proofs.Sheets.{length-trees}
use Rattle.completions.specs.Live.{allowed, all_true}
use Rattle.pairs.specs.Changes.{row_bit}
use Rattle.pairs.proofs.RowWords.{row_lane}
use Rattle.lanes.specs.Coded.{sheet_of}
use Rattle.predecessors.specs.Rows.{United}

-- ---- allowed valuations, by the bits that the code looks at

module _ (m n : ℕ) (code len : List ℕ) where
  streams-are : (ks : List ℕ) → m + length (sheet_of m n code len ks).expressions ≡ m + n
  streams-are ks = ap (λ (k : ℕ). m + k) (length-trees (m + n) code len n)

  pub streams-low : (ks : List ℕ) (k : ℕ) → 2 ^ (m + n) ≤ k → 2 ^ (m + length (sheet_of m n code len ks).expressions) ≤ k
  streams-low ks k h = rw (streams-are ks) h

  allowed-free : (a : ℕ) → ltb a (2 ^ (m + n)) ≡ allowed (sheet_of m n code len (required_of None)) a
  unfolding allowed all_true
  allowed-free a = sym (and-true (ltb a (2 ^ (m + length (sheet_of m n code len []).expressions))) ∙ ap (λ (k : ℕ). ltb a (2 ^ k)) (streams-are []))

  allowed-output : (k : OutputNo) (a : ℕ) → (ltb a (2 ^ (m + n)) && bit (m + k.0) a) ≡ allowed (sheet_of m n code len (required_of (Some k))) a
  unfolding allowed all_true
  allowed-output k a =
      sym (ap₂ (λ (i : ℕ) (u : Bool). ltb a (2 ^ i) && u) (streams-are (required_of (Some k))) (and-true (bit (m + k.0) a)))

  -- by the assumption that the code has, the number of valuations v and the stream q
  pub allowed-nothing : (x : Assumed) (v a : ℕ) → x ≡ None → v ≡ 2 ^ (m + n) → ltb a v ≡ allowed (sheet_of m n code len (required_of x)) a
  allowed-nothing x v a e f = ap (ltb a) f ∙ allowed-free a ∙ ap (λ (y : Assumed). allowed (sheet_of m n code len (required_of y)) a) (sym e)

  pub allowed-by : (x : Assumed) (k : OutputNo) (v q a : ℕ) → x ≡ Some k → v ≡ 2 ^ (m + n) → q ≡ m + k.0 → (ltb a v && bit q a) ≡ allowed (sheet_of m n code len (required_of x)) a
  allowed-by x k v q a e f g =
      ap₂ (λ (i j : ℕ). ltb a i && bit j a) f g ∙ allowed-output k a ∙ ap (λ (y : Assumed). allowed (sheet_of m n code len (required_of y)) a) (sym e)

-- ---- a row written one word after the other: f takes the number of a lane and what was there

pub record LanesTo (old new : List ℕ) (f : ℕ → Bool → Bool) (j : ℕ) : Type 0 where
  pub same_length : length new ≡ length old
  pub done : (k i : ℕ) → k < j → i < 64 → bit i (get_or new k 0) ≡ f (64 * k + i) (bit i (get_or old k 0))
  pub kept : (k : ℕ) → j ≤ k → get_or new k 0 ≡ get_or old k 0

module _ (old : List ℕ) (f : ℕ → Bool → Bool) where
  pub lanes-none : LanesTo old old f 0
  lanes-none = record { same_length = refl; done = λ k i h l. absurd (omega arith); kept = λ k h. refl }

  pub lanes-more : (new : List ℕ) (j x : ℕ) → j < length old → LanesTo old new f j
      → ((i : ℕ) → i < 64 → bit i x ≡ f (64 * j + i) (bit i (get_or new j 0))) → LanesTo old (set new j x) f (j + 1)
  lanes-more new j x h p e = record {
    same_length = length-set new j x ∙ p.same_length;
    done = λ k i g. set_more (λ k v. (i : ℕ) → i < 64 → bit i v ≡ f (64 * k + i) (bit i (get_or old k 0))) new j x (omega (arith, p.same_length))
        (λ i l. e i l ∙ ap (λ (u : ℕ). f (64 * j + i) (bit i u)) (p.kept j (omega arith))) (λ k g i. p.done k i g) k g i;
    kept = λ k g. get_or-set_other new j k x 0 (omega arith) ∙ p.kept k (omega arith);
  }

  pub lanes_all : (new : List ℕ) (j w a : ℕ) → w ≤ j → LanesTo old new f j → a < 64 * w → row_bit new 0 a ≡ f a (row_bit old 0 a)
  unfolding row_bit
  lanes_all new j w a l p h =
      let e : 0 + a / 64 ≡ a / 64 = omega arith in
      let q : 64 * (a / 64) + a % 64 ≡ a = omega arith in
      ap (λ (k : ℕ). bit (a % 64) (get_or new k 0)) e ∙ p.done (a / 64) (a % 64) (omega arith) (omega arith)
      ∙ ap₂ (λ (i k : ℕ). f i (bit (a % 64) (get_or old k 0))) q (sym e)

-- ---- a row that covers another

covered_word : (x y i : ℕ) → bit_and x y ≡ x → (bit i x && not (bit i y)) ≡ false
covered_word x y i e = go (bit i x) (bit i y) (sym (bit-and i x y) ∙ ap (bit i) e)
  where
    go : (u v : Bool) → (u && v) ≡ u → (u && not v) ≡ false
    go false v f = refl
    go true true f = refl
    go true false f = sym f

abbrev pub Covering : List ℕ → List ℕ → ℕ → Type 0
Covering row ok j = (k i : ℕ) → k < j → i < 64 → (bit i (get_or ok k 0) && not (bit i (get_or row k 0))) ≡ false

pub covering_more : (row ok : List ℕ) (j : ℕ) → Covering row ok j → bit_and (get_or ok j 0) (get_or row j 0) ≡ get_or ok j 0 → Covering row ok (j + 1)
covering_more row ok j p e k i h l = go (ℕ_discrete k j)
  where
    go : Dec (k ≡ j) → (bit i (get_or ok k 0) && not (bit i (get_or row k 0))) ≡ false
    go (yes d) = ap (λ (u : ℕ). bit i (get_or ok u 0) && not (bit i (get_or row u 0))) d ∙ covered_word (get_or ok j 0) (get_or row j 0) i e
    go (no d) = p k i (omega arith) l

pub covered : (row ok : List ℕ) (j w a : ℕ) → w ≤ j → Covering row ok j → a < 64 * w → row_bit ok 0 a ≡ true → row_bit row 0 a ≡ true
unfolding row_bit
covered row ok j w a l p h e =
    let q : 0 + a / 64 ≡ a / 64 = omega arith in
    go (bit (a % 64) (get_or ok (0 + a / 64) 0)) (bit (a % 64) (get_or row (0 + a / 64) 0)) e
    (ap (λ (k : ℕ). bit (a % 64) (get_or ok k 0) && not (bit (a % 64) (get_or row k 0))) q ∙ p (a / 64) (a % 64) (omega arith) (omega arith))
  where
    go : (u v : Bool) → u ≡ true → (u && not v) ≡ false → v ≡ true
    go u true f g = refl
    go u false f g = sym g ∙ and-true u ∙ f

-- ---- a row that gains, word by word, the lanes of another in which h holds

module _ (old ok : List ℕ) (h : ℕ → Bool) where
  pub gains-none : LanesTo old old (λ a u. u || (row_bit ok 0 a && h a)) 0
  gains-none = lanes-none old (λ a u. u || (row_bit ok 0 a && h a))

  pub gains-more : (new : List ℕ) (j x : ℕ) → j < length old → LanesTo old new (λ a u. u || (row_bit ok 0 a && h a)) j
      → ((i : ℕ) → i < 64 → bit i x ≡ (bit i (get_or new j 0) || (bit i (get_or ok j 0) && h (64 * j + i)))) → LanesTo old (set new j x) (λ a u. u || (row_bit ok 0 a && h a)) (j + 1)
  gains-more new j x l p e =
      lanes-more old (λ a u. u || (row_bit ok 0 a && h a)) new j x l p
      (λ i g. e i g ∙ ap (λ (u : Bool). bit i (get_or new j 0) || (u && h (64 * j + i))) (sym (row_lane ok j i g)))

  pub gains-all : (new : List ℕ) (j w : ℕ) → w ≤ j → LanesTo old new (λ a u. u || (row_bit ok 0 a && h a)) j → United w old new (λ a. row_bit ok 0 a && h a)
  gains-all new j w l p a g = lanes_all old (λ a u. u || (row_bit ok 0 a && h a)) new j w a l p g
