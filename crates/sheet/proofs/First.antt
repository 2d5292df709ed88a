-- A sheet is refused by the first check that is broken, and accepted where none is.
use mathlib.Core.Path.{◌≡◌, refl, sym, ap, ◌∙◌, subst}
use mathlib.Core.Logic.{inl, inr}
use mathlib.Core.Bool.{Bool, true, false, cond, not, ◌&&◌, ◌||◌, false≢true}
use mathlib.Core.List.{List, [], ◌∷◌, ◌++◌, append_assoc}
use Prim.Native.Nat.{ℕ, zero, suc, ◌+◌, ◌-◌, ◌≤◌, ◌<◌}
use native.Mathlib.Omega.{arith}
use native.Mathlib.Numerals.{add-one}
use lib.ListN.{length, take, drop, get_or, length-drop, drop_of_length-le}
use lib.Seq.{drop-cons, drop-drop, take-suc, length-take-le, drop-length, take-length}
use lib.Dec.{leb, ltb, eqb}
use borrow.Author.Tests.{le-ltb, lt-ltb, le-leb, lt-leb, ne_eqb, ltb-true, ltb-false, leb-true, leb-false}
use Rattle.outcomes.specs.Decided.{Check, test, Decided}
use Rattle.outcomes.specs.declared.Refusal.{Refusal}
use Rattle.outcomes.specs.declared.Refusal.TheVariants.{Short, Mark, Version, Counts, Assumption, Byte, Values, Length, Leftover}
use Rattle.outcomes.specs.Outcome.{Outcome, unbroken}
use Rattle.std.specs.Prelude.{Option, Some, None, Ok, Err}
use Rattle.outcomes.proofs.Decisions.{test_decides}
use Rattle.words.proofs.Bools.{and_split}
use Rattle.sheet.specs.Bytes.{op_of, Decoded}
use Rattle.sheet.specs.Expression.{Expr, has_equal, stack, Parsed, tree, broken, apply_op, final, parse}
use Rattle.sheet.specs.Expression
use Rattle.sheet.specs.Header.{header, mark_ok, version_of, version_ok, counts_ok, assumed_at, fields_of, header_of}
use Rattle.sheet.specs.RuleSheet.{Outputs, trees, breaks, length_ok, after, and_then, read_outputs, with_outputs, with_header, read_sheet}
use Rattle.sheet.specs.ReadingChecks.{inputs_of, outputs_of, grammar_of, output_at, length_at, expression_of, known, needs, height_from, bad_length, op_at, bad_byte, bad_values, bad_end, left_over, byte_checks, output_checks, reading_checks}
use Rattle.sheet.specs.Decided.{reading_outcome, ReadingDecided}
use Rattle.sheet.specs.declared.Grammar.{Grammar}
use Rattle.sheet.specs.declared.Op.TheVariants.{Const, Not, And, Or, Equal, Read}
use Rattle.sheet.specs.declared.OutputNo.{OutputNo}
use Rattle.sheet.proofs.Ops.{OnlyByte, only_byte}

-- what one operation does: it is unknown, or lacks a value, or goes on
data Does (s : Grammar) (op : Decoded) (st : List Expr) : Type 0 where
  unknown : known s op ≡ false → apply_op s op st ≡ Expression.breaks Byte → Does s op st
  lacks : known s op ≡ true → length st < needs op → apply_op s op st ≡ Expression.breaks Values → Does s op st
  goes : known s op ≡ true → needs op ≤ length st → (st' : List Expr) → apply_op s op st ≡ stack st' → length st' ≡ length st + 1 - needs op → Does s op st

does_equal : (s : Grammar) (st : List Expr) (t : Bool) → has_equal s ≡ t → Does s (Ok Equal) st
unfolding known needs apply_op
does_equal s [] true e = lacks e (omega arith) (rw e)
does_equal s (b ∷ []) true e = lacks e (omega arith) (rw e)
does_equal s (b ∷ (a ∷ st)) true e = goes e (omega arith) (Expression.equality a b ∷ st) (rw e) (omega arith)
does_equal s [] false e = unknown e (rw e)
does_equal s (b ∷ []) false e = unknown e (rw e)
does_equal s (b ∷ (a ∷ st)) false e = unknown e (rw e)

does : (s : Grammar) (op : Decoded) (st : List Expr) → OnlyByte op → Does s op st
unfolding known needs apply_op
does s (Ok (Const v)) st ok = goes refl (omega arith) _ refl (omega arith)
does s (Ok Not) [] ok = lacks refl (omega arith) refl
does s (Ok Not) (a ∷ st) ok = goes refl (omega arith) _ refl (omega arith)
does s (Ok And) [] ok = lacks refl (omega arith) refl
does s (Ok And) (b ∷ []) ok = lacks refl (omega arith) refl
does s (Ok And) (b ∷ (a ∷ st)) ok = goes refl (omega arith) _ refl (omega arith)
does s (Ok Or) [] ok = lacks refl (omega arith) refl
does s (Ok Or) (b ∷ []) ok = lacks refl (omega arith) refl
does s (Ok Or) (b ∷ (a ∷ st)) ok = goes refl (omega arith) _ refl (omega arith)
does s (Ok Equal) st ok = does_equal s st (has_equal s) refl
does s (Ok (Read q o v)) st ok = go (ltb q.0 s.streams) refl
  where
    go : (t : Bool) → ltb q.0 s.streams ≡ t → Does s (Ok (Read q o v)) st
    go true e = goes e (omega arith) (Expression.read q.0 o v ∷ st) (rw e) (omega arith)
    go false e = unknown e (rw e)
does s (Err r) st ok = unknown refl (ap Expression.breaks ok)

-- a test in front of decided checks
by_test : (r : Refusal) (t : Bool) (cs : List Check) (x o : Outcome) → Decided cs x → cond t (Err r) x ≡ o → Decided (test r t ∷ cs) o
by_test r t cs x o d e = subst (Decided (test r t ∷ cs)) e (test_decides r t cs x d)

off : {t : Bool} → t ≡ false → t ≡ true → ⊥
off f e = false≢true (sym f ∙ e)

-- the law of an expression

abbrev after_parse : Parsed → Outcome → Outcome
after_parse (tree t) x = x
after_parse (broken r) x = Err r

end_law : (st : List Expr) (h : ℕ) (x : Outcome) → length st ≡ h → cond (not (eqb h 1)) (Err Values) x ≡ after_parse (final st) x
unfolding final
end_law [] h x e = rw (← e)
end_law (t ∷ []) h x e = rw (← e)
end_law (t ∷ (u ∷ st)) h x e = rw (← e) (simp (ne_eqb (suc (suc (length st))) 1 (λ q. omega arith)))

height_more : (d : ℕ) (xs : List ℕ) (b : ℕ) → height_from d (xs ++ (b ∷ [])) ≡ height_from d xs + 1 - needs (op_of b)
unfolding height_from
height_more d [] b = refl
height_more d (x ∷ xs) b = height_more (d + 1 - needs (op_of x)) xs b

module _ (bs : List ℕ) (k : ℕ) where
  abbrev e : List ℕ
  e = expression_of bs k

  byte-law : (i : ℕ) (st : List Expr) (more : List Check) (x : Outcome) → length st ≡ height_from 0 (take i e)
      → ((st' : List Expr) → length st' ≡ height_from 0 (take i e) + 1 - needs (op_at bs k i) → Decided more (after_parse (parse (grammar_of bs) st' (drop (suc i) e)) x))
      → Does (grammar_of bs) (op_at bs k i) st
      → Decided (test Byte (bad_byte bs k i) ∷ (test Values (bad_values bs k i) ∷ more)) (after_parse (parse (grammar_of bs) st (get_or e i 0 ∷ drop (suc i) e)) x)
  unfolding parse
  byte-law i st more x l rec (unknown q p) = inl (ap not q, rw p)
  byte-law i st more x l rec (lacks q n p) = inr (off (ap not q), inl (lt-ltb (height_from 0 (take i e)) (needs (op_at bs k i)) (rw l at n), rw p))
  byte-law i st more x l rec (goes q n st' p m) =
      inr (off (ap not q), inr (off (le-ltb (height_from 0 (take i e)) (needs (op_at bs k i)) (rw l at n)), rw p (rec st' (rw l at m))))

  expr-law : (rest : List Check) (x : Outcome) → Decided rest x → (r i : ℕ) (st : List Expr) → i + r ≡ length e → length st ≡ height_from 0 (take i e)
      → Decided (byte_checks bs k i r ++ (test Values (bad_end bs k) ∷ rest)) (after_parse (parse (grammar_of bs) st (drop i e)) x)
  unfolding byte_checks parse
  expr-law rest x h zero i st g l =
      let a : i ≡ length e = omega arith in
      let d : drop i e ≡ [] = ap (λ (n : ℕ). drop n e) a ∙ drop-length e in
      let t : take i e ≡ e = ap (λ (n : ℕ). take n e) a ∙ take-length e in
      by_test Values (bad_end bs k) rest x _ h (rw d (end_law st (height_from 0 e) x (l ∙ ap (height_from 0) t)))
  expr-law rest x h (suc r) i st g l =
      let lt : i < length e = omega arith in
      rw (drop-cons e i 0 lt)
      (byte-law i st (byte_checks bs k (suc i) r ++ (test Values (bad_end bs k) ∷ rest)) x l
      (λ st' m. expr-law rest x h r (suc i) st' (omega arith) (m ∙ sym (ap (height_from 0) (take-suc e i 0 lt) ∙ height_more 0 (take i e) (get_or e i 0))))
      (does (grammar_of bs) (op_at bs k i) st (only_byte (get_or e i 0))))

-- the law of the outputs

abbrev outputs_no : Outputs → Outcome
outputs_no (trees ts) = unbroken
outputs_no (breaks r) = Err r

after_no : (ts : List Expr) (o : Outputs) → outputs_no (after ts o) ≡ outputs_no o
after_no ts (trees us) = refl
after_no ts (breaks r) = refl

and_then_no : (p : Parsed) (o : Outputs) → outputs_no (and_then p o) ≡ after_parse p (outputs_no o)
and_then_no (tree t) o = after_no (t ∷ []) o
and_then_no (broken r) o = refl

leb_same : (a b c d : ℕ) → (a ≤ b → c ≤ d) → (b < a → d < c) → leb a b ≡ leb c d
leb_same a b c d f g = go (leb a b) refl
  where
    go : (t : Bool) → leb a b ≡ t → t ≡ leb c d
    go true e = sym (le-leb c d (f (leb-true a b e)))
    go false e = sym (lt-leb c d (g (leb-false a b e)))

module _ (bs : List ℕ) where
  -- the checks of the outputs from k on, r of them, and of the end
  abbrev from : ℕ → ℕ → List Check
  from k r = output_checks bs k r ++ (test Leftover (left_over bs) ∷ [])

  -- what their reading gives
  abbrev reads : ℕ → ℕ → Outcome
  reads k r = outputs_no (read_outputs (grammar_of bs) r (drop (output_at bs k) bs))

  -- the length rule, as the reading tests it
  size_same : (k : ℕ) → output_at bs k < length bs → bad_length bs k ≡ not (length_ok (length_at bs k) (drop (output_at bs k + 1) bs))
  size_same k h =
      simp (
        lt-ltb (output_at bs k) (length bs) h,
        leb_same (output_at bs k + 1 + length_at bs k) (length bs) (length_at bs k) (length (drop (output_at bs k + 1) bs))
            (λ q. omega (arith, length-drop (output_at bs k + 1) bs))
            (λ q. omega (arith, length-drop (output_at bs k + 1) bs)),
      )

  one-law : (k r : ℕ) → Decided (from (suc k) r) (reads (suc k) r) → output_at bs k < length bs → (t : Bool) → length_ok (length_at bs k) (drop (output_at bs k + 1) bs) ≡ t
      → Decided (test Length (bad_length bs k) ∷ (byte_checks bs k 0 (length_at bs k) ++ (test Values (bad_end bs k) ∷ from (suc k) r)))
      (outputs_no (cond t (and_then (parse (grammar_of bs) [] (expression_of bs k)) (read_outputs (grammar_of bs) r (drop (length_at bs k) (drop (output_at bs k + 1) bs)))) (breaks Length)))
  unfolding output_at height_from
  one-law k r rec h false q = inl (size_same k h ∙ ap not q, refl)
  one-law k r rec h true q =
      let n = length_at bs k in
      let ys = drop (output_at bs k + 1) bs in
      let a = and_split (leb 1 n) (leb n 64 && leb n (length ys)) q in
      let b = and_split (leb n 64) (leb n (length ys)) a.1 in
      let fits : n ≤ length ys = leb-true n (length ys) b.1 in
      inr (
        off (size_same k h ∙ ap not q),
        subst (Decided (byte_checks bs k 0 n ++ (test Values (bad_end bs k) ∷ from (suc k) r)))
            (ap (λ (z : List ℕ). after_parse (parse (grammar_of bs) [] (expression_of bs k)) (outputs_no (read_outputs (grammar_of bs) r z))) (sym (drop-drop n (output_at bs k + 1) bs))
            ∙ sym (and_then_no (parse (grammar_of bs) [] (expression_of bs k)) (read_outputs (grammar_of bs) r (drop n ys))))
            (expr-law bs k (from (suc k) r) (reads (suc k) r) rec n 0 [] (omega (arith, length-take-le n ys fits)) refl),
      )

  size-missing : (k : ℕ) → length bs ≤ output_at bs k → bad_length bs k ≡ true
  size-missing k h = simp (le-ltb (output_at bs k) (length bs) h)

  last-law : (k : ℕ) → k ≡ outputs_of bs → cond (left_over bs) (Err Leftover) unbroken ≡ reads k 0
  unfolding read_outputs
  last-law k h =
      ap (λ (z : ℕ). cond {A = Outcome} (ltb (output_at bs z) (length bs)) (Err Leftover) unbroken) (sym h) ∙ go (ltb (output_at bs k) (length bs)) refl
    where
      go : (t : Bool) → ltb (output_at bs k) (length bs) ≡ t → cond t (Err Leftover) unbroken ≡ outputs_no (read_outputs (grammar_of bs) 0 (drop (output_at bs k) bs))
      go true q = rw (drop-cons bs (output_at bs k) 0 (ltb-true _ _ q))
      go false q = rw (drop_of_length-le bs (ltb-false _ _ q))

  lined : (k r : ℕ) → from k (suc r) ≡ test Length (bad_length bs k) ∷ (byte_checks bs k 0 (length_at bs k) ++ (test Values (bad_end bs k) ∷ from (suc k) r))
  unfolding output_checks
  lined k r = ap (λ (z : List Check). test Length (bad_length bs k) ∷ z) (append_assoc (byte_checks bs k 0 (length_at bs k)) (test Values (bad_end bs k) ∷ output_checks bs (suc k) r) (test Leftover (left_over bs) ∷ []))

  next-law : (k r : ℕ) → Decided (from (suc k) r) (reads (suc k) r) → (t : Bool) → ltb (output_at bs k) (length bs) ≡ t
      → Decided (test Length (bad_length bs k) ∷ (byte_checks bs k 0 (length_at bs k) ++ (test Values (bad_end bs k) ∷ from (suc k) r))) (reads k (suc r))
  unfolding read_outputs
  next-law k r rec true q =
      let lt : output_at bs k < length bs = ltb-true _ _ q in
      let cut : drop (output_at bs k) bs ≡ length_at bs k ∷ drop (output_at bs k + 1) bs = drop-cons bs (output_at bs k) 0 lt ∙ ap (λ (n : ℕ). length_at bs k ∷ drop n bs) (sym (add-one (output_at bs k))) in
      rw cut (one-law k r rec lt (length_ok (length_at bs k) (drop (output_at bs k + 1) bs)) refl)
  next-law k r rec false q =
      inl (size-missing k (ltb-false (output_at bs k) (length bs) q), rw (drop_of_length-le bs (ltb-false (output_at bs k) (length bs) q)))

  outputs-law : (r k : ℕ) → k + r ≡ outputs_of bs → Decided (from k r) (reads k r)
  unfolding output_checks
  outputs-law zero k h = by_test Leftover (left_over bs) [] unbroken _ refl (last-law k (omega arith))
  outputs-law (suc r) k h =
      subst (λ (cs : List Check). Decided cs (reads k (suc r))) (sym (lined k r))
      (next-law k r (outputs-law r (suc k) (omega arith)) (ltb (output_at bs k) (length bs)) refl)

-- the whole sheet

with_no : (m n : ℕ) (a : Option OutputNo) (o : Outputs) → reading_outcome (with_outputs m n a o) ≡ outputs_no o
with_no m n a (trees ts) = refl
with_no m n a (breaks r) = refl

header_law : (bs : List ℕ) (cs : List Check) (t u v w y z : Bool)
    → ((a : Option OutputNo) → Decided cs (reading_outcome (with_header bs (header (inputs_of bs) (outputs_of bs) a))))
    → Decided (test Short t ∷ (test Mark (not u) ∷ (test Version (not v) ∷ (test Counts (not w) ∷ (test Assumption (not (y || z)) ∷ cs)))))
    (reading_outcome
    (with_header bs
    (cond t (Err Short)
    (cond u
    (cond v
    (cond w
    (fields_of (inputs_of bs) (outputs_of bs) (cond y (Ok None) (cond z (Ok (Some (record { 0 = get_or bs 7 0 }))) (Err Assumption))))
    (Err Counts))
    (Err Version))
    (Err Mark)))))
header_law bs cs true u v w y z f = inl (refl, refl)
header_law bs cs false false v w y z f = inr (false≢true, inl (refl, refl))
header_law bs cs false true false w y z f = inr (false≢true, inr (false≢true, inl (refl, refl)))
header_law bs cs false true true false y z f = inr (false≢true, inr (false≢true, inr (false≢true, inl (refl, refl))))
header_law bs cs false true true true true z f = inr (false≢true, inr (false≢true, inr (false≢true, inr (false≢true, inr (false≢true, f None)))))
header_law bs cs false true true true false true f = inr (false≢true, inr (false≢true, inr (false≢true, inr (false≢true, inr (false≢true, f (Some (record { 0 = get_or bs 7 0 })))))))
header_law bs cs false true true true false false f = inr (false≢true, inr (false≢true, inr (false≢true, inr (false≢true, inl (refl, refl)))))

-- A sheet is refused by the first broken check in the order of the rules, and accepted where none is broken.
pub reading_decided : ReadingDecided
unfolding read_sheet header_of assumed_at reading_checks output_at
reading_decided bs =
    header_law bs (from bs 0 (outputs_of bs))
    (ltb (length bs) 8) (mark_ok bs) (version_ok (version_of bs)) (counts_ok (inputs_of bs) (outputs_of bs)) (eqb (get_or bs 7 0) 255) (ltb (get_or bs 7 0) (outputs_of bs))
    (λ a. subst (Decided (from bs 0 (outputs_of bs))) (sym (with_no (inputs_of bs) (outputs_of bs) a (read_outputs (grammar_of bs) (outputs_of bs) (drop 8 bs)))) (outputs-law bs (outputs_of bs) 0 (omega arith)))
