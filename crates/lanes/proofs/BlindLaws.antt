-- The equations see of the round before only the streams that some expression reads there.
use mathlib.Core.Path.{◌≡◌, refl, sym, ap, ap₂, ◌∙◌}
use mathlib.Core.Bool.{Bool, true, false, not, ◌&&◌, ◌||◌, beq}
use mathlib.Core.List.{List, []}
use mathlib.Core.Option.{Option, some}
use Prim.Native.Nat.{ℕ, ◌+◌, ◌≤◌, ◌<◌}
use native.Mathlib.Omega.{arith}
use lib.Bits.{bit_and, bit_or}
use borrow.Author.Count.{below_more}
use borrow.Author.Tests.{eq-eqb}
use Rattle.words.specs.Bits.{bit}
use Rattle.words.proofs.BitLaws.{bit-and}
use Rattle.words.proofs.Bools.{or-first, or-second}
use Rattle.sheet.specs.Expression.{Expr, constant, negation, conjunction, disjunction, equality, read, newest, parse}
use Rattle.sheet.specs.Parts.{code_at}
use Rattle.sheet.specs.Reading.{tree_of}
use Rattle.sheet.specs.declared.Offset.TheVariants.{Earlier, Now, Later}
use Rattle.lola.specs.Value.{value, near, neighbours}
use Rattle.lola.specs.Reads.{has_read}
use Rattle.lola.specs.Equations.{holds}
use Rattle.lola.specs.ByteReads.{read_in, ReadsOf}
use Rattle.lola.proofs.TreeReads.{read-or}
use Rattle.lanes.specs.Coded.{Coded, sheet_of}
use Rattle.lanes.proofs.CodeLaws.{agreed-same, agreed-holds, part-parses}

-- ---- the outputs

-- the word w has every read of the round before that an expression below k has
pub record Covers (s : ℕ) (code len : List ℕ) (w k : ℕ) : Type 0 where
  pub has : (j : ℕ) → j < k → (q : ℕ) → has_read (tree_of (parse (newest s) [] (code_at code len j))) q 0 ≡ true → read_in w q 0 ≡ true

pub covers_none : (s : ℕ) (code len : List ℕ) (w : ℕ) → Covers s code len w 0
covers_none s code len w = record { has = λ j h. absurd (omega arith) }

-- x has the reads of the expression of output k
pub covers_more : (m n : ℕ) (code len : List ℕ) (w k x : ℕ) (bytes : List ℕ) → Coded m n code len → k < n → bytes ≡ code_at code len k
    → Covers (m + n) code len w k → ReadsOf bytes x → Covers (m + n) code len (bit_or w x) (k + 1)
covers_more m n code len w k x bytes c l e f g =
    record {
      has = below_more (λ j. (q : ℕ) → has_read (tree_of (parse (newest (m + n)) [] (code_at code len j))) q 0 ≡ true → read_in (bit_or w x) q 0 ≡ true) k
          (λ j h q r. read-or w x q 0 ∙ or-first (read_in w q 0) (read_in x q 0) (f.has j h q r))
          (λ q r. read-or w x q 0 ∙ or-second (read_in w q 0) (read_in x q 0) (g.reads _ _ (part-parses m n code len c k l bytes e) q 0 ∙ r));
    }

pub covers_all : (s : ℕ) (code len : List ℕ) (w k n : ℕ) → n ≤ k → Covers s code len w k → Covers s code len w n
covers_all s code len w k n h f = record { has = λ j l. f.has j (omega arith) }

-- ---- a value does not depend on other streams of the round before

value_blind : (a a' b : ℕ) (c : Option ℕ) (x : Expr) → ((q : ℕ) → has_read x q 0 ≡ true → bit q a ≡ bit q a') → value (neighbours (some a) b c) x ≡ value (neighbours (some a') b c) x
unfolding value has_read near
value_blind a a' b c (constant v) f = refl
value_blind a a' b c (negation x) f = ap not (value_blind a a' b c x f)
value_blind a a' b c (conjunction x y) f =
    ap₂ ◌&&◌ (value_blind a a' b c x (λ q e. f q (or-first (has_read x q 0) (has_read y q 0) e))) (value_blind a a' b c y (λ q e. f q (or-second (has_read x q 0) (has_read y q 0) e)))
value_blind a a' b c (disjunction x y) f =
    ap₂ ◌||◌ (value_blind a a' b c x (λ q e. f q (or-first (has_read x q 0) (has_read y q 0) e))) (value_blind a a' b c y (λ q e. f q (or-second (has_read x q 0) (has_read y q 0) e)))
value_blind a a' b c (equality x y) f =
    ap₂ beq (value_blind a a' b c x (λ q e. f q (or-first (has_read x q 0) (has_read y q 0) e))) (value_blind a a' b c y (λ q e. f q (or-second (has_read x q 0) (has_read y q 0) e)))
value_blind a a' b c (read q Earlier d) f = f q (ap (λ (u : Bool). u && true) (eq-eqb q q refl))
value_blind a a' b c (read q Now d) f = refl
value_blind a a' b c (read q Later d) f = refl

and_is : (u v : Bool) → v ≡ true → u ≡ (u && v)
and_is true v e = sym e
and_is false v e = refl

pub blind : (m n : ℕ) (code len : List ℕ) → Coded m n code len → (w x : ℕ) → Covers (m + n) code len w n → ((q : ℕ) → bit q x ≡ read_in w q 0)
    → (ks : List ℕ) (a b : ℕ) (c : Option ℕ)
    → holds (sheet_of m n code len ks) (some a) b c ≡ holds (sheet_of m n code len ks) (some (bit_and a x)) b c
blind m n code len k w x f g ks a b c =
    sym (agreed-holds m n code len k ks (some a) b c)
    ∙ agreed-same (neighbours (some a) b c) (neighbours (some (bit_and a x)) b c) (m + n) code len m b n
    (λ j h. value_blind a (bit_and a x) b c _ (λ q e. and_is (bit q a) (bit q x) (g q ∙ f.has j h q e) ∙ sym (bit-and q a x)))
    ∙ agreed-holds m n code len k ks (some (bit_and a x)) b c
