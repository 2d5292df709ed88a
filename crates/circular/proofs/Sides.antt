-- The right sides of a sheet depend only on the values that are read.
use mathlib.Core.Path.{◌≡◌, refl, ap, ap₂}
use mathlib.Core.Bool.{Bool, true, false, cond, not, ◌&&◌, ◌||◌, beq}
use Prim.Native.Nat.{ℕ, suc, ◌+◌, ◌-◌, ◌*◌, ◌≤◌, ◌<◌}
use native.Mathlib.Omega.{arith}
use lib.ListN.{get_or}
use lib.Dec.{leb, ltb, eqb}
use borrow.Author.Tests.{ltb-false, leb-true, eq-eqb}
use Rattle.words.proofs.Bools.{and_split, and_join, or-first, or-second}
use Rattle.sheet.specs.Expression.{Expr, constant, negation, conjunction, disjunction, equality, read, newest}
use Rattle.sheet.specs.Postfix.{InSheet}
use Rattle.sheet.specs.RuleSheet.{RuleSheet, outputs}
use Rattle.sheet.specs.declared.Offset.{Offset}
use Rattle.sheet.specs.declared.Offset.TheVariants.{Earlier, Now, Later}
use Rattle.sheet.proofs.Formed.{Formed}
use Rattle.lola.specs.Value.{Look, value}
use Rattle.lola.specs.Reads.{offset_no, has_read}
use Rattle.circular.specs.Circular.{CircularSheet, edges}
use Rattle.circular.specs.Places.{Assignment, joint, look_at, right, Place, Reads, Solves}
use Rattle.circular.proofs.Unique.{run, unique, solution}

-- the expression of output s
abbrev pub expression_of : RuleSheet → ℕ → Expr
expression_of x s = get_or x.expressions s (constant false)

-- the right sides of a sheet, in a trace of N rounds with the inputs xs
abbrev pub right_of : RuleSheet → ℕ → Assignment → Assignment → ℕ → ℕ → Bool
right_of x N xs = right x.inputs (expression_of x) N xs

-- looks that are the same give the same values
pub value_same : (f g : Look) → ((q : ℕ) (o : Offset) (d : Bool) → f q o d ≡ g q o d) → (e : Expr) → value f e ≡ value g e
unfolding value
value_same f g h (constant c) = refl
value_same f g h (negation e) = ap not (value_same f g h e)
value_same f g h (conjunction a b) = ap₂ ◌&&◌ (value_same f g h a) (value_same f g h b)
value_same f g h (disjunction a b) = ap₂ ◌||◌ (value_same f g h a) (value_same f g h b)
value_same f g h (equality a b) = ap₂ beq (value_same f g h a) (value_same f g h b)
value_same f g h (read q o d) = h q o d

offset_le : (o : Offset) → offset_no o ≤ 2
offset_le Earlier = omega arith
offset_le Now = omega arith
offset_le Later = omega arith

module _ (m n N t : ℕ) (xs v w : Assignment) where
  -- v and w agree where the expression reads an output
  abbrev Agree : Expr → Type 0
  Agree e = (q u o : ℕ) → has_read e (m + q) o ≡ true → q < n → o ≤ 2 → u + 1 ≡ t + o → 1 ≤ u → u ≤ N → v q u ≡ w q u

  value-only : (e : Expr) → InSheet (newest (m + n)) e → Agree e → value (look_at m N xs v t) e ≡ value (look_at m N xs w t) e
  unfolding value has_read look_at joint InSheet
  value-only (constant c) h a = refl
  value-only (negation e) h a = ap not (value-only e h a)
  value-only (conjunction e f) h a =
      ap₂ ◌&&◌
      (value-only e h.0 (λ q u o r. a q u o (or-first (has_read e (m + q) o) (has_read f (m + q) o) r)))
      (value-only f h.1 (λ q u o r. a q u o (or-second (has_read e (m + q) o) (has_read f (m + q) o) r)))
  value-only (disjunction e f) h a =
      ap₂ ◌||◌
      (value-only e h.0 (λ q u o r. a q u o (or-first (has_read e (m + q) o) (has_read f (m + q) o) r)))
      (value-only f h.1 (λ q u o r. a q u o (or-second (has_read e (m + q) o) (has_read f (m + q) o) r)))
  value-only (equality e f) h a =
      ap₂ beq
      (value-only e h.1 (λ q u o r. a q u o (or-first (has_read e (m + q) o) (has_read f (m + q) o) r)))
      (value-only f h.2 (λ q u o r. a q u o (or-second (has_read e (m + q) o) (has_read f (m + q) o) r)))
  value-only (read q f d) h a = inside (leb 2 (t + o) && leb (t + o) (suc N)) refl
    where
      o : ℕ
      o = offset_no f

      stream : 2 ≤ t + o → t + o ≤ suc N → (b : Bool) → ltb q m ≡ b → cond b (xs q (t + o - 1)) (v (q - m) (t + o - 1)) ≡ cond b (xs q (t + o - 1)) (w (q - m) (t + o - 1))
      stream lo hi true e = refl
      stream lo hi false e =
          let b = ltb-false q m e in
          a (q - m) (t + o - 1) o
          (and_join (eqb q (m + (q - m))) (eqb (offset_no f) o) (eq-eqb q (m + (q - m)) (omega arith)) (eq-eqb (offset_no f) o refl))
          (omega (arith, h.0)) (offset_le f) (omega arith) (omega arith) (omega arith)

      inside : (b : Bool) → leb 2 (t + o) && leb (t + o) (suc N) ≡ b → cond b (joint m xs v q (t + o - 1)) d ≡ cond b (joint m xs w q (t + o - 1)) d
      inside true e =
          stream (leb-true 2 (t + o) (and_split (leb 2 (t + o)) (leb (t + o) (suc N)) e).0) (leb-true (t + o) (suc N) (and_split (leb 2 (t + o)) (leb (t + o) (suc N)) e).1) (ltb q m) refl
      inside false e = refl

module _ (x : RuleSheet) (formed : Formed x) (N : ℕ) (xs : Assignment) where
  pub right-reads : Reads (outputs x) (edges x) N (right_of x N xs)
  unfolding right edges
  right-reads =
      record {
        only = λ v w s t pl a.
            value-only x.inputs (outputs x) N t xs v w (expression_of x s) (formed.each s pl.s_lt)
            (λ q u o r hq ho sh lo hi.
            a q u
            (record {
              o = o;
              edge = record { from = pl.s_lt; to = hq; off = ho; is = r };
              shift = sh;
              t_low = pl.t_low;
              t_high = pl.t_high;
              u_low = lo;
              u_high = hi;
            }));
      }

  module _ (level : CircularSheet x → ⊥) where
    -- values that solve all equations
    pub a-solution : Solves (outputs x) N (right_of x N xs) (run (right_of x N xs) (outputs x * N))
    a-solution = solution (outputs x) (edges x) N (right_of x N xs) right-reads level

    -- and there are no others
    pub one_solution : (v w : Assignment) → Solves (outputs x) N (right_of x N xs) v → Solves (outputs x) N (right_of x N xs) w → (s t : ℕ) → Place (outputs x) N s t → v s t ≡ w s t
    one_solution v w = unique (outputs x) (edges x) N (right_of x N xs) right-reads level v w
