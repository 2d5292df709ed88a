-- Laws of the expressions of a coded sheet and of its equations.
use mathlib.Core.Path.{◌≡◌, refl, sym, ap, ap₂, ◌∙◌}
use mathlib.Core.Bool.{Bool, true, false, ◌&&◌, beq, and_assoc, and-true}
use mathlib.Core.List.{List, [], ◌∷◌, ◌++◌}
use mathlib.Core.Option.{Option}
use Prim.Native.Nat.{ℕ, zero, suc, ◌+◌, ◌-◌, ◌≤◌, ◌<◌}
use native.Mathlib.Nat.{add-suc}
use native.Mathlib.Numerals.{add-one}
use native.Mathlib.Omega.{arith}
use lib.ListN.{length}
use Rattle.words.specs.Bits.{bit}
use Rattle.sheet.specs.Expression.{Expr, newest, parse, tree}
use Rattle.sheet.specs.Parts.{code_at}
use Rattle.sheet.specs.Reading.{tree_of, trees_of}
use Rattle.sheet.specs.declared.Offset.{Offset}
use Rattle.sheet.proofs.Sheets.{length-trees, parses-of}
use Rattle.lola.specs.Value.{Look, value, neighbours}
use Rattle.lola.specs.Equations.{equations, holds}
use Rattle.lola.proofs.ValueLaws.{value-of-bytes}
use Rattle.lanes.specs.Coded.{Coded, sheet_of, agreed}

-- ---- one equation more

beq_comm : (u v : Bool) → beq u v ≡ beq v u
beq_comm true true = refl
beq_comm true false = refl
beq_comm false true = refl
beq_comm false false = refl

agreed_snoc : (look : Look) (es : List Expr) (e : Expr) (q v : ℕ) → agreed look (es ++ (e ∷ [])) q v ≡ (agreed look es q v && beq (bit (q + length es) v) (value look e))
unfolding agreed
agreed_snoc look [] e q v = and-true _ ∙ ap (λ (r : ℕ). beq (bit r v) (value look e)) (omega arith)
agreed_snoc look (d ∷ es) e q v =
    ap (λ (u : Bool). beq (bit q v) (value look d) && u)
    (agreed_snoc look es e (suc q) v ∙ ap (λ (r : ℕ). agreed look es (suc q) v && beq (bit r v) (value look e)) (omega arith))
    ∙ sym (and_assoc (beq (bit q v) (value look d)) (agreed look es (suc q) v) _)

module _ (look : Look) (s : ℕ) (code len : List ℕ) (q v : ℕ) where
  -- the first k equations
  abbrev pub firstAgreed : ℕ → Bool
  firstAgreed k = agreed look (trees_of s code len k) q v

  pub agreed-none : firstAgreed 0 ≡ true
  unfolding trees_of agreed
  agreed-none = refl

  agreed-suc : (k : ℕ) → firstAgreed (suc k) ≡ (firstAgreed k && beq (bit (q + k) v) (value look (tree_of (parse (newest s) [] (code_at code len k)))))
  unfolding trees_of
  agreed-suc k =
      agreed_snoc look (trees_of s code len k) (tree_of (parse (newest s) [] (code_at code len k))) q v
      ∙ ap (λ (r : ℕ). firstAgreed k && beq (bit (q + r) v) (value look (tree_of (parse (newest s) [] (code_at code len k))))) (length-trees s code len k)

  pub agreed-more : (k : ℕ) (u w : Bool) → u ≡ firstAgreed k → w ≡ beq (value look (tree_of (parse (newest s) [] (code_at code len k)))) (bit (q + k) v)
      → (u && w) ≡ firstAgreed (k + 1)
  agreed-more k u w e f =
      ap₂ ◌&&◌ e (f ∙ beq_comm (value look (tree_of (parse (newest s) [] (code_at code len k)))) (bit (q + k) v)) ∙ sym (agreed-suc k) ∙ ap firstAgreed (sym (add-one k))

  -- an equation that fails is enough
  agreed-fails : (k d : ℕ) → firstAgreed k ≡ false → firstAgreed (k + d) ≡ false
  agreed-fails k zero e = ap firstAgreed (omega arith) ∙ e
  agreed-fails k (suc d) e =
      ap firstAgreed (add-suc k d) ∙ agreed-suc (k + d) ∙ ap (λ (u : Bool). u && beq (bit (q + (k + d)) v) (value look (tree_of (parse (newest s) [] (code_at code len (k + d)))))) (agreed-fails k d e)

  pub agreed-stop : (k n : ℕ) → k ≤ n → firstAgreed k ≡ false → false ≡ firstAgreed n
  agreed-stop k n h e = let z : k + (n - k) ≡ n = omega arith in sym (ap firstAgreed (sym z) ∙ agreed-fails k (n - k) e)

  pub agreed-all : (k n : ℕ) (u : Bool) → k ≤ n → n ≤ k → u ≡ firstAgreed k → u ≡ firstAgreed n
  agreed-all k n u h g e = let z : k ≡ n = omega arith in e ∙ ap firstAgreed z

-- ---- the equations of the sheet

-- the equations agree where the values of the expressions do
pub agreed-same : (look look' : Look) (s : ℕ) (code len : List ℕ) (q v k : ℕ)
    → ((j : ℕ) → j < k → value look (tree_of (parse (newest s) [] (code_at code len j))) ≡ value look' (tree_of (parse (newest s) [] (code_at code len j))))
    → agreed look (trees_of s code len k) q v ≡ agreed look' (trees_of s code len k) q v
agreed-same look look' s code len q v zero f = agreed-none look s code len q v ∙ sym (agreed-none look' s code len q v)
agreed-same look look' s code len q v (suc k) f =
    agreed-suc look s code len q v k
    ∙ ap₂ (λ (u : Bool) (w : Bool). u && beq (bit (q + k) v) w) (agreed-same look look' s code len q v k (λ j h. f j (omega arith))) (f k (omega arith))
    ∙ sym (agreed-suc look' s code len q v k)

agreed-equations : (es : List Expr) (q : ℕ) (p : Option ℕ) (v : ℕ) (n : Option ℕ) → agreed (neighbours p v n) es q v ≡ equations es q p v n
unfolding agreed equations
agreed-equations [] q p v n = refl
agreed-equations (e ∷ es) q p v n = ap (λ (u : Bool). beq (bit q v) (value (neighbours p v n) e) && u) (agreed-equations es (suc q) p v n)

module _ (m n : ℕ) (code len : List ℕ) (c : Coded m n code len) where
  pub agreed-holds : (ks : List ℕ) (p : Option ℕ) (v : ℕ) (x : Option ℕ) → agreed (neighbours p v x) (trees_of (m + n) code len n) m v ≡ holds (sheet_of m n code len ks) p v x
  unfolding holds
  agreed-holds ks p v x = agreed-equations (trees_of (m + n) code len n) m p v x

  -- what the evaluator finds with reads that are those of a round are the equations of that round
  pub look-holds : (look : Look) (p : Option ℕ) (v : ℕ) (x : Option ℕ) → ((q : ℕ) (o : Offset) (d : Bool) → q < 8 → look q o d ≡ neighbours p v x q o d)
      → (ks : List ℕ) → agreed look (trees_of (m + n) code len n) m v ≡ holds (sheet_of m n code len ks) p v x
  look-holds look p v x f ks =
      agreed-same look (neighbours p v x) (m + n) code len m v n
      (λ j l. value-of-bytes look (neighbours p v x) f (newest (m + n)) (code_at code len j) _ (parses-of _ _ (c.parts j l)).parses)
      ∙ agreed-holds ks p v x

-- the expression of output k parses
pub part-parses : (m n : ℕ) (code len : List ℕ) → Coded m n code len → (k : ℕ) → k < n → (bytes : List ℕ) → bytes ≡ code_at code len k
    → parse (newest (m + n)) [] bytes ≡ tree (tree_of (parse (newest (m + n)) [] (code_at code len k)))
part-parses m n code len c k h bytes e = ap (parse (newest (m + n)) []) e ∙ (parses-of (m + n) (code_at code len k) (c.parts k h)).parses
