-- The trees of a sheet: those of its outputs, and what is left of one where 05 is read.
use mathlib.Core.Path.{◌≡◌, refl, sym, ap, ◌∙◌}
use mathlib.Core.List.{List, [], ◌∷◌, ◌++◌}
use mathlib.Core.Bool.{Bool, true, false, ◌&&◌, true≢false}
use Prim.Native.Nat.{ℕ, zero, suc, ◌+◌, ◌≤◌, ◌<◌}
use native.Mathlib.Omega.{arith}
use native.Mathlib.Numerals.{add-one}
use native.Mathlib.Decide.{ℕ_discrete}
use lib.ListN.{length, get_or, get_or-append, length-append}
use lib.Seq.{get_or_at}
use lib.Dec.{leb}
use borrow.Author.Tests.{leb-true, le-leb}
use Rattle.outcomes.specs.declared.Refusal.{Refusal}
use Rattle.outcomes.specs.declared.Refusal.TheVariants.{Byte, Values}
use Rattle.sheet.specs.Expression.{Expr, equality, has_equal, newest, Parsed, tree, broken, apply_op, go_on, parse}
use Rattle.sheet.specs.RuleSheet.{outputs}
use Rattle.sheet.specs.Parts.{code_at, is_tree, parses}
use Rattle.words.proofs.Bools.{and_split}
use Rattle.sheet.specs.Reading.{Parses, Usable, tree_of, trees_of, rule_sheet}
use Rattle.sheet.specs.declared.Grammar.{Grammar}
use Rattle.std.specs.Prelude.{Ok}
use Rattle.sheet.specs.declared.Op.TheVariants.{Equal}
use Rattle.sheet.specs.declared.Sheet.{Sheet}

-- a broken expression is no tree
pub no_tree : (r : Refusal) (t : Expr) → broken r ≡ tree t → ⊥
no_tree r t h = true≢false cc

-- where the byte 05 is read on, the version has it, and it stands behind two values
module _ (s : Grammar) (f : List Expr → Parsed) (t : Expr) (P : List Expr → Type 0)
    (two : 2 ≤ s.version → (y x : Expr) (st : List Expr) → f (equality x y ∷ st) ≡ tree t → P (y ∷ (x ∷ st))) where
  pub at-equal : (st : List Expr) → go_on (apply_op s (Ok Equal) st) f ≡ tree t → P st
  unfolding apply_op
  at-equal st h = go st (has_equal s) refl h
    where
      go : (st : List Expr) (u : Bool) → has_equal s ≡ u → go_on (apply_op s (Ok Equal) st) f ≡ tree t → P st
      go [] true e k = absurd (no_tree Values t (rw e at k))
      go (y ∷ []) true e k = absurd (no_tree Values t (rw e at k))
      go (y ∷ (x ∷ st)) true e k = two (leb-true 2 s.version e) y x st (rw e at k)
      go [] false e k = absurd (no_tree Byte t (rw e at k))
      go (y ∷ []) false e k = absurd (no_tree Byte t (rw e at k))
      go (y ∷ (x ∷ st)) false e k = absurd (no_tree Byte t (rw e at k))

pub length-trees : (s : ℕ) (code len : List ℕ) (n : ℕ) → length (trees_of s code len n) ≡ n
unfolding trees_of
length-trees s code len zero = refl
length-trees s code len (suc n) =
    length-append (trees_of s code len n) _ ∙ add-one (length (trees_of s code len n)) ∙ ap suc (length-trees s code len n)

-- the sheet that the code's sheet stands for has as many outputs
pub sheet-outputs : (x : Sheet) → outputs (rule_sheet x) ≡ x.outputs
sheet-outputs x = length-trees (x.inputs + x.outputs) x.code x.len x.outputs

-- the expression of output k of the sheet that the code holds
pub tree-at : (s : ℕ) (code len : List ℕ) (n k : ℕ) (d : Expr) → k < n → get_or (trees_of s code len n) k d ≡ tree_of (parse (newest s) [] (code_at code len k))
unfolding trees_of
tree-at s code len zero k d h = absurd (omega arith)
tree-at s code len (suc n) k d h = go (ℕ_discrete k n) (tree-at s code len n k d)
  where
    f : List Expr
    f = trees_of s code len n

    t : ℕ → Expr
    t j = tree_of (parse (newest s) [] (code_at code len j))

    go : Dec (k ≡ n) → (k < n → get_or f k d ≡ t k) → get_or (f ++ (t n ∷ [])) k d ≡ t k
    go (yes e) rec = rw e (get_or_at f (t n) [] d n (length-trees s code len n))
    go (no e) rec = get_or-append f _ d k (omega (arith, length-trees s code len n)) ∙ rec (omega arith)

-- what the type of a sheet says of it
pub parses-of : (s : ℕ) (e : List ℕ) → parses s e ≡ true → Parses s e
unfolding parses
parses-of s e h =
    let a = and_split (leb 1 (length e)) (leb (length e) 64 && is_tree (parse (newest s) [] e)) h in
    let b = and_split (leb (length e) 64) (is_tree (parse (newest s) [] e)) a.1 in
    record { some = leb-true 1 (length e) a.0; short = leb-true (length e) 64 b.0; parses = go (parse (newest s) [] e) b.1 }
  where
    go : (p : Parsed) → is_tree p ≡ true → p ≡ tree (tree_of p)
    go (tree t) k = refl
    go (broken r) k = absurd (true≢false (sym k))

pub of-parses : (s : ℕ) (e : List ℕ) → Parses s e → parses s e ≡ true
unfolding parses
of-parses s e h = simp (le-leb 1 (length e) h.some, le-leb (length e) 64 h.short) (ap is_tree h.parses)

pub usable : (x : Sheet) → Usable x
usable x = record {
  ranges = x.ranges;
  below = x.below;
  code_size = x.code_size;
  sizes = x.sizes;
  small = x.small;
  parts = λ k h. parses-of (x.inputs + x.outputs) (code_at x.code x.len k) (x.parts k h);
}
