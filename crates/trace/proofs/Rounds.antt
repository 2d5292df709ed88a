-- The reads of a round in one word.
use mathlib.Core.Path.{◌≡◌, refl, ap, ◌∙◌}
use mathlib.Core.Bool.{Bool, true, false, cond, ◌&&◌, and-false}
use mathlib.Core.List.{List, []}
use Prim.Native.Nat.{ℕ, suc, ◌+◌, ◌-◌, ◌*◌, ◌%◌, ◌^◌, ◌≤◌, ◌<◌}
use native.Mathlib.Omega.{arith}
use native.Mathlib.Nat.{mul-le-mul, mul_comm, mod-eq_of_lt}
use native.Mathlib.Decide.{dec_lt}
use lib.Dec.{leb, ltb}
use lib.ListN.{length, get_or}
use lib.Pow.{pow_mono}
use borrow.Author.Tests.{lt-ltb, le-ltb, le-leb, lt-leb}
use Rattle.words.specs.Bits.{bit}
use Rattle.words.proofs.BitLaws.{bit-none, bit-all}
use Rattle.words.proofs.JoinLaws.{bit-low, bit-above, bit-high-part, join_lt}
use Rattle.sheet.specs.Expression.{Expr, newest, tree, parse}
use Rattle.sheet.specs.Parts.{code_at}
use Rattle.sheet.specs.declared.Grammar.{Grammar}
use Rattle.sheet.specs.declared.Offset.{Offset}
use Rattle.sheet.specs.declared.Offset.TheVariants.{Earlier, Now, Later}
use Rattle.lola.specs.Value.{value}
use Rattle.lola.specs.Slots.{read_no, slots}
use Rattle.lola.proofs.ValueLaws.{value-of-bytes}
use Rattle.circular.specs.Places.{joint, look_at, right}
use Rattle.trace.specs.Passes.{values_of, seen, tree_in, sides, RoundBytes, SeenRound, Environment}
use Rattle.sheet.specs.declared.Sheet.{Sheet}
use Rattle.sheet.proofs.Sheets.{usable}

-- the bits of a round's valuation
stream_of_round : (m : ℕ) (letters buf : List ℕ) (at q : ℕ) → 2 ≤ at → get_or letters (at - 2) 0 < 2 ^ m
    → bit q (get_or letters (at - 2) 0 + 2 ^ m * get_or buf (at - 2) 0) ≡ joint m (values_of letters) (values_of buf) q (at - 1)
unfolding joint values_of
stream_of_round m letters buf at q h b =
    let i : at - 1 - 1 ≡ at - 2 = omega arith in
    rw i (go (dec_lt q m))
  where
    go : Dec (q < m) → bit q (get_or letters (at - 2) 0 + 2 ^ m * get_or buf (at - 2) 0) ≡ cond (ltb q m) (bit q (get_or letters (at - 2) 0)) (bit (q - m) (get_or buf (at - 2) 0))
    go (yes l) = rw (lt-ltb q m l) (bit-low m q (get_or letters (at - 2) 0) (get_or buf (at - 2) 0) l b)
    go (no l) = rw (le-ltb q m (omega arith)) (bit-high-part m q (get_or letters (at - 2) 0) (get_or buf (at - 2) 0) (omega arith) b)

module _ (letters : List ℕ) (at : ℕ) where
  pub before-first : at < 2 → (leb 2 at && leb at (suc (length letters))) ≡ false
  before-first h = simp (lt-leb 2 at h)

  pub after_last : length letters + 1 < at → (leb 2 at && leb at (suc (length letters))) ≡ false
  after_last h = simp (lt-leb at (suc (length letters)) (omega arith), and-false)

  inside : 2 ≤ at → at ≤ length letters + 1 → (leb 2 at && leb at (suc (length letters))) ≡ true
  inside h g = simp (le-leb 2 at h, le-leb at (suc (length letters)) (omega arith))

-- no such round
pub round-twice-none : (m : ℕ) (letters buf : List ℕ) (at : ℕ) → (leb 2 at && leb at (suc (length letters))) ≡ false → SeenRound m letters buf at 0xff00
unfolding seen
round-twice-none m letters buf at e =
    record {
      small = omega arith;
      low = λ q h. rw e (bit-low 8 q 0 255 h (omega arith) ∙ bit-none q);
      high = λ q h. rw e (bit-above 8 q 0 255 (omega arith) ∙ bit-all 8 q h);
    }

-- the round's valuation
module _ (x : Sheet) (letters buf : List ℕ) (at : ℕ) (filled : RoundBytes x letters buf) (lo : 2 ≤ at) (hi : at ≤ length letters + 1) (v : ℕ)
    (e : v ≡ get_or letters (at - 2) 0 + 2 ^ x.inputs * get_or buf (at - 2) 0) where
  below : get_or letters (at - 2) 0 < 2 ^ x.inputs
  below = filled.letters_below (at - 2) (omega arith)

  pub valuation-small : v < 256
  valuation-small =
      let g : 2 ^ (x.inputs + x.outputs) ≤ 2 ^ 8 = pow_mono {i = x.inputs + x.outputs} {j = 8} x.ranges.streams in
      omega (arith, join_lt x.inputs x.outputs (get_or letters (at - 2) 0) (get_or buf (at - 2) 0) below (filled.bytes_below (at - 2) (omega (arith, filled.same))))

  pub round-twice-some : SeenRound x.inputs letters buf at (v + 256 * v)
  unfolding seen
  round-twice-some =
      record {
        small = omega (arith, valuation-small);
        low = λ q k. rw (inside letters at lo hi) (bit-low 8 q v v k valuation-small ∙ ap (bit q) e ∙ stream_of_round x.inputs letters buf at q lo below);
        high = λ q k. rw (inside letters at lo hi) (bit-above 8 q v v valuation-small ∙ ap (bit q) e ∙ stream_of_round x.inputs letters buf at q lo below);
      }

-- the three rounds in their order
module _ (c e l : ℕ) (cl : c < 2 ^ 16) (el : e < 2 ^ 16) where
  abbrev word : ℕ
  word = c + 65536 * (e + 65536 * l)

  first : (q : ℕ) → q < 16 → bit q word ≡ bit q c
  first q h = bit-low 16 q c (e + 65536 * l) h cl

  second : (q k : ℕ) → q ≡ 16 + k → k < 16 → bit q word ≡ bit k e
  second q k p h = ap (λ (z : ℕ). bit z word) p ∙ bit-above 16 k c (e + 65536 * l) cl ∙ bit-low 16 k e l h el

  third : (q k : ℕ) → q ≡ 16 + (16 + k) → bit q word ≡ bit k l
  third q k p = ap (λ (z : ℕ). bit z word) p ∙ bit-above 16 (16 + k) c (e + 65536 * l) cl ∙ bit-above 16 k e l el

pub environment_of : (m : ℕ) (letters buf : List ℕ) (t c e l : ℕ) → 1 ≤ t → t ≤ length letters
    → SeenRound m letters buf (t + 1) c → SeenRound m letters buf t e → SeenRound m letters buf (t + 2) l
    → Environment m letters buf t (c + 65536 * (e + 65536 * l))
unfolding slots read_no look_at seen
environment_of m letters buf t c e l h g bc be bl =
    record { reads = at }
  where
    here : (leb 2 (t + 1) && leb (t + 1) (suc (length letters))) ≡ true
    here = inside letters (t + 1) (omega arith) (omega arith)

    now-any : (q : ℕ) (d : Bool) → seen m letters buf (t + 1) q false ≡ seen m letters buf (t + 1) q d
    now-any q d = rw here

    none-added : (q : ℕ) (d : Bool) → seen m letters buf t q d ≡ seen m letters buf (t + 0) q d
    none-added q d = let e : t ≡ t + 0 = omega arith in ap (λ (z : ℕ). seen m letters buf z q d) e

    at : (q : ℕ) (o : Offset) (d : Bool) → q < 8 → slots (c + 65536 * (e + 65536 * l)) q o d ≡ look_at m (length letters) (values_of letters) (values_of buf) t q o d
    at q Now d k = first c e l bc.small be.small q (omega arith) ∙ bc.low q k ∙ now-any q d
    at q Earlier false k = second c e l bc.small be.small (16 + q) q refl (omega arith) ∙ be.low q k ∙ none-added q false
    at q Earlier true k = second c e l bc.small be.small (24 + q) (8 + q) (omega arith) (omega arith) ∙ be.high q k ∙ none-added q true
    at q Later false k = third c e l bc.small be.small (32 + q) q (omega arith) ∙ bl.low q k
    at q Later true k = third c e l bc.small be.small (40 + q) (8 + q) (omega arith) ∙ bl.high q k

-- a byte shifted above the letter
pub shifted : (m : ℕ) → m ≤ 8 → (o : ℕ) → o < 256 → o * 2 ^ m % 2 ^ 64 ≡ 2 ^ m * o
shifted m h o b =
    let p : 2 ^ m ≤ 2 ^ 8 = pow_mono {i = m} {j = 8} h in
    let small : 2 ^ m * o ≤ 65280 = mul-le-mul {n₁ = 2 ^ m} {m₁ = o} {n₂ = 256} {m₂ = 255} p (omega arith) in
    ap (λ (z : ℕ). z % 2 ^ 64) (mul_comm o (2 ^ m)) ∙ mod-eq_of_lt (omega arith)

-- ---- the right side of one place

pub place-value : (x : Sheet) (letters buf : List ℕ) (s t env : ℕ) (v : Bool) → s < x.outputs → Environment x.inputs letters buf t env
    → ((w : Grammar) (e : Expr) → parse w [] (code_at x.code x.len s) ≡ tree e → v ≡ value (slots env) e)
    → v ≡ sides x letters (values_of buf) s t
unfolding sides right
place-value x letters buf s t env v h e f =
    let streams = x.inputs + x.outputs in
    let p = ((usable x).parts s h).parses in
    f (newest streams) (tree_in streams x.code x.len s) p
    ∙ value-of-bytes (slots env) (look_at x.inputs (length letters) (values_of letters) (values_of buf) t) e.reads (newest streams) (code_at x.code x.len s) (tree_in streams x.code x.len s) p
