-- The count that the code keeps is the length of the stack of trees.
use Rattle.std.specs.Prelude.{Result, Ok, Err}
use mathlib.Core.Path.{◌≡◌, refl, sym, ap, ◌∙◌, subst}
use mathlib.Core.Bool.{Bool, true, false, cond, true≢false}
use mathlib.Core.List.{List, [], ◌∷◌}
use Prim.Native.Nat.{ℕ, suc, ◌+◌, ◌≤◌, ◌<◌}
use native.Mathlib.Omega.{arith}
use native.Mathlib.Numerals.{add-one}
use lib.ListN.{length, drop, get_or}
use lib.Seq.{drop-cons, drop-length}
use lib.Dec.{ltb}
use borrow.Author.Tests.{le-ltb}
use Rattle.outcomes.specs.declared.Refusal.{Refusal}
use Rattle.outcomes.specs.declared.Refusal.TheVariants.{Byte, Values}
use Rattle.sheet.specs.Bytes.{op_of, Decoded}
use Rattle.sheet.specs.Expression.{Expr, equality, read, has_equal, Next, stack, breaks, tree, broken, apply_op, final, go_on, parse}
use Rattle.sheet.specs.Depth.{depth_after}
use Rattle.sheet.specs.declared.Grammar.{Grammar}
use Rattle.sheet.specs.declared.Op.TheVariants.{Const, Not, And, Or, Equal, Read}

abbrev depth_of : Next → Result ℕ Refusal
depth_of (stack st) = Ok (length st)
depth_of (breaks r) = Err r

-- where the grammar decides whether the operation may stand
if_it_may : (t : Bool) (d : Result ℕ Refusal) (n : Next) → d ≡ depth_of n → cond t d (Err Byte) ≡ depth_of (cond t n (breaks Byte))
if_it_may true d n e = e
if_it_may false d n e = refl

pub agrees : (s : Grammar) (op : Decoded) (st : List Expr) → depth_after s op (length st) ≡ depth_of (apply_op s op st)
unfolding depth_after apply_op
agrees s (Ok (Const v)) st = ap Ok (add-one (length st))
agrees s (Ok Not) [] = refl
agrees s (Ok Not) (a ∷ st) = simp (le-ltb (suc (length st)) 1 (omega arith))
agrees s (Ok And) [] = refl
agrees s (Ok And) (b ∷ []) = refl
agrees s (Ok And) (b ∷ (a ∷ st)) = simp (le-ltb (suc (suc (length st))) 2 (omega arith)) (ap Ok (omega arith))
agrees s (Ok Or) [] = refl
agrees s (Ok Or) (b ∷ []) = refl
agrees s (Ok Or) (b ∷ (a ∷ st)) = simp (le-ltb (suc (suc (length st))) 2 (omega arith)) (ap Ok (omega arith))
agrees s (Ok Equal) [] = if_it_may (has_equal s) _ (breaks Values) refl
agrees s (Ok Equal) (b ∷ []) = if_it_may (has_equal s) _ (breaks Values) refl
agrees s (Ok Equal) (b ∷ (a ∷ st)) =
    if_it_may (has_equal s) _ (stack (equality a b ∷ st)) (simp (le-ltb (suc (suc (length st))) 2 (omega arith)) (ap Ok (omega arith)))
agrees s (Ok (Read q o d)) st = if_it_may (ltb q.0 s.streams) _ (stack (read q.0 o d ∷ st)) (ap Ok (add-one (length st)))
agrees s (Err r) st = refl

-- one byte more: the stack goes on, as long as the code's count says
taken_on : (s : Grammar) (st : List Expr) (b : ℕ) (bs : List ℕ) (d k : ℕ) → length st ≡ d → depth_after s (op_of b) d ≡ Ok k → (st' : List Expr) × (length st' ≡ k) × (parse s st (b ∷ bs) ≡ parse s st' bs)
unfolding parse
taken_on s st b bs d k e h = go (apply_op s (op_of b) st) refl
  where
    at : depth_of (apply_op s (op_of b) st) ≡ Ok k
    at = sym (agrees s (op_of b) st) ∙ (rw e h)

    go : (n : Next) → apply_op s (op_of b) st ≡ n → (st' : List Expr) × (length st' ≡ k) × (go_on (apply_op s (op_of b) st) (λ st''. parse s st'' bs) ≡ parse s st' bs)
    go (stack st') q = (st', (let z : depth_of (stack st') ≡ Ok k = ap depth_of (sym q) ∙ at in cc), rw q refl)
    go (breaks r) q = absurd (let z : depth_of (breaks r) ≡ Ok k = ap depth_of (sym q) ∙ at in true≢false cc)

-- one byte more: the rule that the code finds broken is the one that the reading breaks
pub stopped : (s : Grammar) (st : List Expr) (b : ℕ) (bs : List ℕ) (d : ℕ) (r : Refusal) → length st ≡ d → depth_after s (op_of b) d ≡ Err r → parse s st (b ∷ bs) ≡ broken r
unfolding parse
stopped s st b bs d r e h = go (apply_op s (op_of b) st) refl
  where
    at : depth_of (apply_op s (op_of b) st) ≡ Err r
    at = sym (agrees s (op_of b) st) ∙ (rw e h)

    go : (n : Next) → apply_op s (op_of b) st ≡ n → go_on (apply_op s (op_of b) st) (λ st''. parse s st'' bs) ≡ broken r
    go (stack st') q = absurd (let z : depth_of (stack st') ≡ Err r = ap depth_of (sym q) ∙ at in true≢false cc)
    go (breaks p) q = rw q (let z : depth_of (breaks p) ≡ Err r = ap depth_of (sym q) ∙ at in cc)

-- the end: one value, or rule 8
pub ended : (s : Grammar) (st : List Expr) → (length st ≡ 1 → (t : Expr) × (parse s st [] ≡ tree t)) × ((length st ≡ 1 → ⊥) → parse s st [] ≡ broken Values)
unfolding parse final
ended s [] = ((λ e. absurd (omega arith)), λ n. refl)
ended s (t ∷ []) = ((λ e. (t, refl)), λ n. absurd (n refl))
ended s (t ∷ (u ∷ st)) = ((λ e. absurd (omega arith)), λ n. refl)

abbrev count : Result ℕ Refusal → ℕ
count (Ok k) = k
count (Err r) = 0

pick_bound : (t : Bool) (d : ℕ) (x y : Result ℕ Refusal) → count x ≤ d → count y ≤ d → count (cond t x y) ≤ d
pick_bound true d x y h k = h
pick_bound false d x y h k = k

count-bound : (s : Grammar) (op : Decoded) (d : ℕ) → count (depth_after s op d) ≤ d + 1
unfolding depth_after
count-bound s (Ok (Const v)) d = omega arith
count-bound s (Ok Not) d = pick_bound (ltb d 1) (d + 1) _ _ (omega arith) (omega arith)
count-bound s (Ok And) d = pick_bound (ltb d 2) (d + 1) _ _ (omega arith) (omega arith)
count-bound s (Ok Or) d = pick_bound (ltb d 2) (d + 1) _ _ (omega arith) (omega arith)
count-bound s (Ok Equal) d = pick_bound (has_equal s) (d + 1) _ _ (pick_bound (ltb d 2) (d + 1) _ _ (omega arith) (omega arith)) (omega arith)
count-bound s (Ok (Read q o v)) d = pick_bound (ltb q.0 s.streams) (d + 1) _ _ (omega arith) (omega arith)
count-bound s (Err r) d = omega arith

pub grows : (s : Grammar) (op : Decoded) (d k : ℕ) → depth_after s op d ≡ Ok k → k ≤ d + 1
grows s op d k h = subst (λ (x : Result ℕ Refusal). count x ≤ d + 1) h (count-bound s op d)

-- the reading of the whole is the reading of the rest, from a stack as long as the count says
abbrev pub DepthTo : Grammar → List ℕ → ℕ → ℕ → Type 0
DepthTo s e d i = (st : List Expr) × (length st ≡ d) × (parse s [] e ≡ parse s st (drop i e))

module _ (s : Grammar) (e : List ℕ) (i d : ℕ) (h : i < length e) (kept : DepthTo s e d i) where
  split : parse s [] e ≡ parse s kept.0 (get_or e i 0 ∷ drop (suc i) e)
  split = kept.2 ∙ ap (parse s kept.0) (drop-cons e i 0 h)

  pub turn : (k : ℕ) → depth_after s (op_of (get_or e i 0)) d ≡ Ok k → DepthTo s e k (i + 1)
  turn k q =
      let r = taken_on s kept.0 (get_or e i 0) (drop (suc i) e) d k kept.1 q in
      (r.0, r.1, split ∙ r.2 ∙ ap (λ (n : ℕ). parse s r.0 (drop n e)) (sym (add-one i)))

  pub stop : (r : Refusal) → depth_after s (op_of (get_or e i 0)) d ≡ Err r → parse s [] e ≡ broken r
  stop r q = split ∙ stopped s kept.0 (get_or e i 0) (drop (suc i) e) d r kept.1 q

module _ (s : Grammar) (e : List ℕ) (i d : ℕ) (h : i ≡ length e) (kept : DepthTo s e d i) where
  at-end : parse s [] e ≡ parse s kept.0 []
  at-end = kept.2 ∙ ap (parse s kept.0) (ap (λ (n : ℕ). drop n e) h ∙ drop-length e)

  pub one_left : d ≡ 1 → (t : Expr) × (parse s [] e ≡ tree t)
  one_left q =
      let r = (ended s kept.0).0 (kept.1 ∙ q) in
      (r.0, at-end ∙ r.1)

  pub not-one-left : (d ≡ 1 → ⊥) → parse s [] e ≡ broken Values
  not-one-left n = at-end ∙ (ended s kept.0).1 (λ q. n (sym kept.1 ∙ q))
