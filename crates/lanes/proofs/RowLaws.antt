-- The words of a row, written one after the other.
use mathlib.Core.Path.{◌≡◌, ap, ◌∙◌}
use mathlib.Core.Bool.{Bool, true, false, cond}
use mathlib.Core.List.{List}
use Prim.Native.Nat.{ℕ, suc, ◌+◌, ◌-◌, ◌*◌, ◌≤◌, ◌<◌}
use native.Mathlib.Nat.{mul-le-mul_left, mul-suc}
use native.Mathlib.Omega.{arith}
use native.Mathlib.Decide.{dec_le}
use lib.ListN.{length, get_or, set, length-set, replicate, take, drop}
use Rattle.std.proofs.lemmas.List.{get_or-replicate, get_or-take, get_or-drop}
use lib.Seq.{get_or-set_other}
use Rattle.std.specs.List.{list_all}
use Rattle.std.proofs.lemmas.Bool.{eqb-true}
use Rattle.std.proofs.lemmas.List.Elements.{All-get_or}
use Rattle.std.proofs.lemmas.List.Sums.{AllPass-from_list_all}
use Rattle.words.proofs.BitLaws.{bit-none}
use lib.Dec.{eqb}
use Rattle.words.specs.Bits.{bit}
use borrow.Author.Tests.{le-leb, lt-leb}
use Rattle.words.proofs.ListLaws.{set_more}
use Rattle.lanes.specs.Around.{Filled, stack_words}

-- a row of w words is written: the first n words fit, and the others are those of row
pub record Writing (w : ℕ) (Fit : ℕ → ℕ → Type 0) (row row' : List ℕ) (n : ℕ) : Type 0 where
  pub size : length row' ≡ w
  pub fit : (j : ℕ) → j < n → Fit j (get_or row' j 0)
  pub rest : (j : ℕ) → n ≤ j → get_or row' j 0 ≡ get_or row j 0

module _ (w : ℕ) (Fit : ℕ → ℕ → Type 0) (row : List ℕ) where
  pub writing_more : (row' : List ℕ) (n x : ℕ) → Writing w Fit row row' n → n < w → Fit n x → Writing w Fit row (set row' n x) (n + 1)
  writing_more row' n x h l f = record {
    size = length-set row' n x ∙ h.size;
    fit = set_more Fit row' n x (omega (arith, h.size)) f h.fit;
    rest = λ j g. get_or-set_other row' n j x 0 (omega arith) ∙ h.rest j (omega arith);
  }

-- every word of a row is x
pub filled : (row : List ℕ) (n w x : ℕ) → row ≡ replicate n x → w ≤ n → Filled w (λ j. x) row
filled row n w x e l j h = ap (λ (r : List ℕ). get_or r j 0) e ∙ get_or-replicate n j x 0 (omega arith)

-- no lane of a row is set where each of its words is 0
pub none_set : (row : List ℕ) (w : ℕ) → length row ≡ w → list_all (λ x. eqb x 0) row ≡ true → (j i : ℕ) → j < w → bit i (get_or row j 0) ≡ false
none_set row w l e j i h =
    ap (bit i) (eqb-true _ 0 (All-get_or (λ (x : ℕ). eqb x 0 ≡ true) row j 0 (omega arith) (AllPass-from_list_all (λ x. eqb x 0) row e))) ∙ bit-none i

-- row k of w words of the stack: its first n words are those of the row
pub record Storing (w k : ℕ) (row t t' : List ℕ) (n : ℕ) : Type 0 where
  pub within : n ≤ w
  pub size : length t' ≡ length t
  pub words : (j : ℕ) → j < n → get_or t' (w * k + j) 0 ≡ get_or row j 0
  pub others : (i : ℕ) → i < w * k → get_or t' i 0 ≡ get_or t i 0

-- the row of w words under row k of the stack
abbrev pub under : ℕ → ℕ → List ℕ → List ℕ
under w k t = take (w * k - w * (k - 1)) (drop (w * (k - 1)) t)

pub word-under : (w k : ℕ) (t : List ℕ) → (k ≡ 0 → ⊥) → (j : ℕ) → j < w → get_or (under w k t) j 0 ≡ get_or t (w * (k - 1) + j) 0
word-under w k t n j h =
    let p : k ≡ suc (k - 1) = omega arith in
    let e : w * k ≡ w * (k - 1) + w = ap (λ (z : ℕ). w * z) p ∙ mul-suc w (k - 1) in
    let g : get_or (under w k t) j 0 ≡ get_or (drop (w * (k - 1)) t) j 0 = get_or-take _ _ j 0 (omega arith) in
    g ∙ get_or-drop _ t j 0

-- a word before row n of w words
pub inside : (w k n j : ℕ) → k < n → j < w → w * k + j < w * n
inside w k n j h g = let b : suc k ≤ n = omega arith in omega (arith, mul-le-mul_left w b)

-- the room for rows of two words, and of four
pub stack_two : (w : ℕ) → w ≤ 2 → stack_words w ≡ 128
unfolding stack_words
stack_two w h = ap (λ (u : Bool). cond u 128 256) (le-leb w 2 h)

pub stack_four : (w : ℕ) → 2 < w → stack_words w ≡ 256
unfolding stack_words
stack_four w h = ap (λ (u : Bool). cond u 128 256) (lt-leb w 2 h)

pub stack-most : (w : ℕ) → stack_words w ≤ 256
stack-most w = go (dec_le w 2)
  where
    go : Dec (w ≤ 2) → stack_words w ≤ 256
    go (yes h) = omega (arith, stack_two w h)
    go (no h) = let g : 2 < w = omega arith in omega (arith, stack_four w g)
