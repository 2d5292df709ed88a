-- The outputs of a sheet, one after the other.
use mathlib.Core.Path.{◌≡◌, refl, sym, ap, ap₂, ◌∙◌, subst}
use mathlib.Core.Bool.{Bool, true, false, cond, ◌&&◌, true≢false}
use mathlib.Core.List.{List, [], ◌∷◌, ◌++◌, append_assoc, append-nil}
use Prim.Native.Nat.{ℕ, zero, suc, ◌+◌, ◌*◌, ◌-◌, ◌≤◌, ◌<◌}
use native.Mathlib.Omega.{arith}
use native.Mathlib.Numerals.{add-one}
use lib.ListN.{length, take, drop, set, length-drop, length-set, drop_of_length-le}
use lib.Seq.{drop-cons, drop-drop, length-take-le}
use lib.Dec.{leb}
use borrow.Author.Tests.{leb-true}
use borrow.Author.Count.{below_more}
use Rattle.outcomes.specs.declared.Refusal.{Refusal}
use Rattle.outcomes.specs.declared.Refusal.TheVariants.{Length, Leftover}
use Rattle.outcomes.specs.Outcome.{Outcome, unbroken}
use Rattle.std.specs.Prelude.{Ok, Err}
use Rattle.words.proofs.Bools.{and_split}
use Rattle.words.proofs.ListLaws.{set_more}
use Rattle.sheet.specs.Expression.{Expr, newest, Parsed, tree, broken, parse}
use Rattle.sheet.specs.RuleSheet.{Outputs, trees, breaks, length_ok, after, and_then, read_outputs}
use Rattle.sheet.specs.Parts.{code_at}
use Rattle.sheet.specs.Reading.{tree_of, trees_of, Parses}
use Rattle.sheet.specs.declared.Grammar.{Grammar}
use Rattle.sheet.proofs.Versions.{parse-newest}
use Rattle.reader.specs.Answer.{output_at, output_of, outputs_by, Put, PackedOutputs}
use Rattle.reader.proofs.Packing.{copied, not-touched}

-- an output that reads well, at the front of xs, with r outputs more after it
pub record Step (s : Grammar) (r : ℕ) (xs : List ℕ) (l : ℕ) : Type 0 where
  pub rest : List ℕ
  pub split : xs ≡ l ∷ rest
  pub some : 1 ≤ l
  pub short : l ≤ 64
  pub inside : l ≤ length rest
  pub expr : Expr
  pub parsed : parse s [] (take l rest) ≡ tree expr
  pub reads : read_outputs s (suc r) xs ≡ after (expr ∷ []) (read_outputs s r (drop l rest))

read_step : (s : Grammar) (r : ℕ) (xs : List ℕ) (l : ℕ) → output_at s xs ≡ Ok l → Step s r xs l
unfolding output_at read_outputs
read_step s r [] l h = absurd (true≢false cc)
read_step s r (x ∷ ys) l h = go (length_ok x ys) refl (parse s [] (take x ys)) refl h
  where
    go : (b : Bool) → length_ok x ys ≡ b → (p : Parsed) → parse s [] (take x ys) ≡ p → cond b (output_of x p) (Err Length) ≡ Ok l → Step s r (x ∷ ys) l
    go true e (tree t) q k =
        let a = and_split (leb 1 x) (leb x 64 && leb x (length ys)) e in
        let b = and_split (leb x 64) (leb x (length ys)) a.1 in
        let same : x ≡ l = cc in
        subst (λ (z : ℕ). Step s r (x ∷ ys) z) same
        (record {
          rest = ys;
          split = refl;
          some = leb-true 1 x a.0;
          short = leb-true x 64 b.0;
          inside = leb-true x (length ys) b.1;
          expr = t;
          parsed = q;
          reads = rw (e, q);
        })
    go true e (broken p) q k = absurd (true≢false cc)
    go false e p q k = absurd (true≢false cc)

read-stop : (s : Grammar) (k : ℕ) (xs : List ℕ) (r : Refusal) → output_at s xs ≡ Err r → read_outputs s (suc k) xs ≡ breaks r
unfolding output_at read_outputs
read-stop s k [] r h = cc
read-stop s k (x ∷ ys) r h = go (length_ok x ys) (parse s [] (take x ys)) h
  where
    go : (b : Bool) (p : Parsed) → cond b (output_of x p) (Err Length) ≡ Err r → cond b (and_then p (read_outputs s k (drop x ys))) (breaks Length) ≡ breaks r
    go true (tree t) h = absurd (true≢false cc)
    go true (broken p) h = cc
    go false p h = cc

after-after : (ts us : List Expr) (o : Outputs) → after ts (after us o) ≡ after (ts ++ us) o
after-after ts us (trees vs) = ap trees (sym (append_assoc ts us vs))
after-after ts us (breaks r) = refl

-- the trees of the first k outputs depend on their bytes alone
trees-same : (s : ℕ) (code len code' len' : List ℕ) (k : ℕ) → ((j : ℕ) → j < k → code_at code' len' j ≡ code_at code len j) → trees_of s code' len' k ≡ trees_of s code len k
unfolding trees_of
trees-same s code len code' len' zero h = refl
trees-same s code len code' len' (suc k) h =
    ap₂ (λ (ts : List Expr) (e : List ℕ). ts ++ (tree_of (parse (newest s) [] e) ∷ [])) (trees-same s code len code' len' k (λ j i. h j (omega arith))) (h k (omega arith))

one_more : (s : ℕ) (code len code' len' e : List ℕ) (k : ℕ) → ((j : ℕ) → j < k → code_at code' len' j ≡ code_at code len j) → code_at code' len' k ≡ e
    → trees_of s code' len' (k + 1) ≡ trees_of s code len k ++ (tree_of (parse (newest s) [] e) ∷ [])
unfolding trees_of
one_more s code len code' len' e k h g =
    rw (add-one k) (ap₂ (λ (ts : List Expr) (x : List ℕ). ts ++ (tree_of (parse (newest s) [] x) ∷ [])) (trees-same s code len code' len' k h) g)

-- what the loop keeps: k outputs were read, and the next one is at `at`
pub record OutputsTo (bs : List ℕ) (s : Grammar) (n : ℕ) (len code : List ℕ) (at k : ℕ) : Type 0 where
  pub count : k ≤ n
  pub inside : at ≤ length bs
  pub held : PackedOutputs s.streams k len code
  pub rest : read_outputs s n (drop 8 bs) ≡ after (trees_of s.streams code len k) (read_outputs s (n - k) (drop at bs))

module _ (bs : List ℕ) (s : Grammar) (n : ℕ) (len code : List ℕ) (at k : ℕ) (kept : OutputsTo bs s n len code at k) where
  -- the expression of the next output lies in the sheet
  pub record Lies (l : ℕ) : Type 0 where
    pub short : l ≤ 64
    pub inside : at + 1 + l ≤ length bs
    pub size : length (take l (drop (at + 1) bs)) ≡ l

  pub lies : (l : ℕ) → output_at s (drop at bs) ≡ Ok l → Lies l
  lies l h =
      let r : Step s 0 (drop at bs) l = read_step s 0 (drop at bs) l h in
      let i : at + 1 + l ≤ length bs = omega (arith, ap length r.split, length-drop at bs, r.inside) in
      record { short = r.short; inside = i; size = length-take-le l (drop (at + 1) bs) (omega (arith, length-drop (at + 1) bs)) }

  pub next : k < n → n ≤ 7 → (l : ℕ) → output_at s (drop at bs) ≡ Ok l → (new : List ℕ) → Put (64 * k) (take l (drop (at + 1) bs)) code new
      → OutputsTo bs s n (set len k l) new (at + 1 + l) (k + 1)
  next lt seven l h new put =
      let r : Step s (n - (k + 1)) (drop at bs) l = read_step s (n - (k + 1)) (drop at bs) l h in
      let i = lies l h in
      let x = take l (drop (at + 1) bs) in
      let tail : r.rest ≡ drop (at + 1) bs = sym (ap (drop 1) r.split) ∙ drop-drop 1 at bs in
      let e : parse (newest s.streams) [] x ≡ tree r.expr = parse-newest s x r.expr (rw tail at r.parsed) in
      let t : tree_of (parse (newest s.streams) [] x) ≡ r.expr = ap tree_of e in
      let f = trees_of s.streams code len k in
      let z = kept.held in
      let here : code_at new (set len k l) k ≡ x = copied len code k l x new i.size i.short z.sizes z.code_size (omega arith) z.small put in
      let same : (j : ℕ) → j < k → code_at new (set len k l) j ≡ code_at code len j = not-touched len code k l x new i.size i.short z.sizes z.code_size (omega arith) z.small put in
      record {
        count = omega arith;
        inside = i.inside;
        held =
            record {
              sizes = length-set len k l ∙ z.sizes;
              code_size = put.same_length ∙ z.code_size;
              small = set_more (λ j v. v ≤ 64) len k l (omega (arith, z.sizes)) i.short z.small;
              parts =
                  below_more (λ (j : ℕ). Parses s.streams (code_at new (set len k l) j)) k
                  (λ j b. rw (same j b) (z.parts j b))
                  (rw here (record { some = omega (arith, i.size, r.some); short = omega (arith, i.size, r.short); parses = e ∙ ap tree (sym t) }));
            };
        rest =
            kept.rest
            ∙ ap (λ (m : ℕ). after f (read_outputs s m (drop at bs))) (omega arith)
            ∙ ap (after f) r.reads
            ∙ after-after f (r.expr ∷ []) (read_outputs s (n - (k + 1)) (drop l r.rest))
            ∙ ap (λ (u : Expr). after (f ++ (u ∷ [])) (read_outputs s (n - (k + 1)) (drop l r.rest))) (sym t)
            ∙ ap (λ (u : List Expr). after u (read_outputs s (n - (k + 1)) (drop l r.rest))) (sym (one_more s.streams code len new (set len k l) x k same here))
            ∙ ap (λ (u : List ℕ). after (trees_of s.streams new (set len k l) (k + 1)) (read_outputs s (n - (k + 1)) u)) (ap (drop l) tail ∙ drop-drop l (at + 1) bs);
      }

  pub stopped : k < n → (r : Refusal) → output_at s (drop at bs) ≡ Err r → read_outputs s n (drop 8 bs) ≡ breaks r
  stopped lt r h =
      kept.rest
      ∙ ap (λ (z : ℕ). after (trees_of s.streams code len k) (read_outputs s z (drop at bs))) (omega arith)
      ∙ ap (after (trees_of s.streams code len k)) (read-stop s (n - (k + 1)) (drop at bs) r h)

  all_read : n ≤ k → read_outputs s n (drop 8 bs) ≡ after (trees_of s.streams code len k) (read_outputs s 0 (drop at bs))
  all_read h = kept.rest ∙ ap (λ (z : ℕ). after (trees_of s.streams code len k) (read_outputs s z (drop at bs))) (omega arith)

  pub left_over : n ≤ k → at < length bs → read_outputs s n (drop 8 bs) ≡ breaks Leftover
  unfolding read_outputs
  left_over h i = all_read h ∙ rw (drop-cons bs at 0 i)

  pub nothing_left : n ≤ k → length bs ≤ at → read_outputs s n (drop 8 bs) ≡ trees (trees_of s.streams code len n)
  unfolding read_outputs
  nothing_left h i =
      all_read h ∙ rw (drop_of_length-le bs i) (ap trees (append-nil _ ∙ ap (trees_of s.streams code len) (omega arith)))

  pub all_held : n ≤ k → PackedOutputs s.streams n len code
  all_held h =
      let z = kept.held in
      record { sizes = z.sizes; code_size = z.code_size; small = λ j b. z.small j (omega arith); parts = λ j b. z.parts j (omega arith) }

after_none : (o : Outputs) → after [] o ≡ o
after_none (trees ts) = refl
after_none (breaks r) = refl

pub begins : (bs : List ℕ) (s : Grammar) (n : ℕ) (len code : List ℕ) → 8 ≤ length bs → length len ≡ 7 → length code ≡ 448 → OutputsTo bs s n len code 8 0
unfolding trees_of
begins bs s n len code h i j =
    record {
      count = omega arith;
      inside = h;
      held = record { sizes = i; code_size = j; small = λ k b. absurd (omega arith); parts = λ k b. absurd (omega arith) };
      rest = ap (λ (z : ℕ). read_outputs s z (drop 8 bs)) (omega arith) ∙ sym (after_none (read_outputs s (n - 0) (drop 8 bs)));
    }

-- an answer on all outputs: their trees, or the rule that it breaks
pub all-trees : (r : Outcome) (ts : List Expr) (o : Outputs) → outputs_by r ts ≡ o → r ≡ unbroken → o ≡ trees ts
all-trees (Ok _) ts o e h = sym e
all-trees (Err r) ts o e h = absurd (true≢false cc)

pub all-broken : (r : Outcome) (q : Refusal) (ts : List Expr) (o : Outputs) → outputs_by r ts ≡ o → r ≡ Err q → o ≡ breaks q
all-broken (Ok _) q ts o e h = absurd (true≢false cc)
all-broken (Err r) q ts o e h = let z : r ≡ q = cc in sym e ∙ ap breaks z
