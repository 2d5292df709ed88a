-- Bytes are read as a tree exactly if they are the tree's writing, and its reads are of the sheet's streams.
use Rattle.std.specs.Prelude.{Ok, Err}
use mathlib.Core.Path.{◌≡◌, refl, sym, ap, ◌∙◌, subst}
use mathlib.Core.Bool.{Bool, true, false, cond}
use mathlib.Core.List.{List, [], ◌∷◌, ◌++◌, append_assoc, append-nil}
use Prim.Native.Nat.{ℕ, ◌+◌, ◌<◌}
use native.Mathlib.Omega.{arith}
use native.Mathlib.Nat.{add-sub_cancel_left}
use lib.Dec.{ltb}
use borrow.Author.Tests.{lt-ltb, ltb-true, le-leb}
use Rattle.outcomes.specs.declared.Refusal.TheVariants.{Byte, Values}
use Rattle.sheet.specs.Bytes.{op_of, read_of, Decoded}
use Rattle.sheet.specs.Expression.{Expr, constant, negation, conjunction, disjunction, equality, read, stack, breaks, Parsed, tree, apply_op, final, go_on, parse}
use Rattle.sheet.specs.Postfix.{read_byte, written, DefaultFits, InSheet, TreeExactly}
use Rattle.sheet.specs.declared.Grammar.{Grammar}
use Rattle.sheet.specs.declared.StreamNo.{StreamNo}
use Rattle.sheet.specs.declared.Offset.{Offset}
use Rattle.sheet.specs.declared.Offset.TheVariants.{Earlier, Now, Later}
use Rattle.sheet.specs.declared.Op.TheVariants.{Const, Not, And, Or, Equal, Read}
use Rattle.sheet.proofs.Ops.{is_now, is_earlier_false, is_earlier_true, is_later_false, is_later_true, op-cases}
use Rattle.sheet.proofs.Sheets.{no_tree, at-equal}

-- what is written is read

abbrev stream_no : ℕ → StreamNo
stream_no q = record { 0 = q }

shifted : (base q : ℕ) (o : Offset) (v : Bool) → read_of base (base + q) o v ≡ Ok (Read (stream_no q) o v)
shifted base q o v = ap (λ (n : ℕ). Ok (Read (stream_no n) o v)) (add-sub_cancel_left base q)

op_of-read : (q : ℕ) (o : Offset) (v : Bool) → q < 8 → DefaultFits o v → op_of (read_byte q o v) ≡ Ok (Read (stream_no q) o v)
unfolding read_byte
op_of-read q Now v h k = is_now (0x40 + q) (omega arith) (omega arith) ∙ shifted 0x40 q Now false ∙ ap (λ (u : Bool). Ok (Read (stream_no q) Now u)) (sym k)
op_of-read q Earlier false h k = is_earlier_false (0x50 + q) (omega arith) (omega arith) ∙ shifted 0x50 q Earlier false
op_of-read q Earlier true h k = is_earlier_true (0x58 + q) (omega arith) (omega arith) ∙ shifted 0x58 q Earlier true
op_of-read q Later false h k = is_later_false (0x60 + q) (omega arith) (omega arith) ∙ shifted 0x60 q Later false
op_of-read q Later true h k = is_later_true (0x68 + q) (omega arith) (omega arith) ∙ shifted 0x68 q Later true

read-read : (s : Grammar) (q : ℕ) (o : Offset) (v : Bool) → q < s.streams → q < 8 → DefaultFits o v → (st : List Expr) (f : List Expr → Parsed) → go_on (apply_op s (op_of (read_byte q o v)) st) f ≡ f (read q o v ∷ st)
unfolding apply_op
read-read s q o v h i k st f = rw (op_of-read q o v i k) (simp (lt-ltb q s.streams h))

reads-written : (s : Grammar) (t : Expr) → InSheet s t → (st : List Expr) (bs : List ℕ) → parse s st (written t ++ bs) ≡ parse s (t ∷ st) bs
unfolding written InSheet parse op_of apply_op
reads-written s (constant false) h st bs = refl
reads-written s (constant true) h st bs = refl
reads-written s (negation a) h st bs = rw (append_assoc (written a) (0x02 ∷ []) bs) (reads-written s a h st (0x02 ∷ bs))
reads-written s (conjunction a b) h st bs =
    rw (append_assoc (written a) (written b ++ (0x03 ∷ [])) bs)
    (reads-written s a h.0 st ((written b ++ (0x03 ∷ [])) ++ bs)
    ∙ rw (append_assoc (written b) (0x03 ∷ []) bs) (reads-written s b h.1 (a ∷ st) (0x03 ∷ bs)))
reads-written s (disjunction a b) h st bs =
    rw (append_assoc (written a) (written b ++ (0x04 ∷ [])) bs)
    (reads-written s a h.0 st ((written b ++ (0x04 ∷ [])) ++ bs)
    ∙ rw (append_assoc (written b) (0x04 ∷ []) bs) (reads-written s b h.1 (a ∷ st) (0x04 ∷ bs)))
reads-written s (equality a b) h st bs =
    rw (append_assoc (written a) (written b ++ (0x05 ∷ [])) bs)
    (reads-written s a h.1 st ((written b ++ (0x05 ∷ [])) ++ bs)
    ∙ rw (append_assoc (written b) (0x05 ∷ []) bs) (reads-written s b h.2 (a ∷ st) (0x05 ∷ bs) ∙ simp (le-leb 2 s.version h.0)))
reads-written s (read q o v) h st bs = read-read s q o v h.0 h.1 h.2 st (λ st'. parse s st' bs)

-- what is read was written

abbrev Means : ℕ → Decoded → Type 0
Means b (Ok (Const false)) = b ≡ 0x00
Means b (Ok (Const true)) = b ≡ 0x01
Means b (Ok Not) = b ≡ 0x02
Means b (Ok And) = b ≡ 0x03
Means b (Ok Or) = b ≡ 0x04
Means b (Ok Equal) = b ≡ 0x05
Means b (Ok (Read q o v)) = (b ≡ read_byte q.0 o v) × (q.0 < 8) × DefaultFits o v
Means b (Err r) = Unit {0}

op_means : (b : ℕ) → Means b (op_of b)
unfolding read_byte
op_means b =
    op-cases (Means b) b (λ e. e) (λ e. e) (λ e. e) (λ e. e) (λ e. e) (λ e. e)
    (λ l h. (omega arith, omega arith, refl))
    (λ l h. (omega arith, omega arith, tt))
    (λ l h. (omega arith, omega arith, tt))
    (λ l h. (omega arith, omega arith, tt))
    (λ l h. (omega arith, omega arith, tt))
    tt

-- the bytes of a stack, its bottom first
abbrev pile : List Expr → List ℕ
pile [] = []
pile (x ∷ st) = pile st ++ written x

AllIn : Grammar → List Expr → Type 0
AllIn s [] = Unit {0}
AllIn s (x ∷ st) = InSheet s x × AllIn s st

abbrev Was : Grammar → List Expr → List ℕ → Expr → Type 0
Was s st bs t = (pile st ++ bs ≡ written t) × InSheet s t

-- the pile with one more tree, whose writing ends in b
grown : (p w : List ℕ) (b c : ℕ) (bs : List ℕ) (r : List ℕ) → b ≡ c → (p ++ (w ++ (c ∷ []))) ++ bs ≡ r → (p ++ w) ++ (b ∷ bs) ≡ r
grown p w b c bs r e h = rw e (simp append_assoc (simp append_assoc at h))

grown₂ : (p w x : List ℕ) (b c : ℕ) (bs : List ℕ) (r : List ℕ) → b ≡ c → (p ++ (w ++ (x ++ (c ∷ [])))) ++ bs ≡ r → ((p ++ w) ++ x) ++ (b ∷ bs) ≡ r
grown₂ p w x b c bs r e h = rw e (simp append_assoc (simp append_assoc at h))

grown₀ : (p : List ℕ) (b c : ℕ) (bs : List ℕ) (r : List ℕ) → b ≡ c → (p ++ (c ∷ [])) ++ bs ≡ r → p ++ (b ∷ bs) ≡ r
grown₀ p b c bs r e h = rw e (simp append_assoc at h)

one_byte : (s : Grammar) (b : ℕ) (bs : List ℕ) (t : Expr) (op : Decoded) → Means b op → (st : List Expr) → AllIn s st
    → ((st' : List Expr) → AllIn s st' → parse s st' bs ≡ tree t → Was s st' bs t)
    → go_on (apply_op s op st) (λ st'. parse s st' bs) ≡ tree t → Was s st (b ∷ bs) t
unfolding apply_op AllIn InSheet written
one_byte s b bs t (Ok (Const false)) m st all rec h =
    let r = rec (constant false ∷ st) (tt, all) h in (grown₀ (pile st) b 0x00 bs (written t) m r.0, r.1)
one_byte s b bs t (Ok (Const true)) m st all rec h =
    let r = rec (constant true ∷ st) (tt, all) h in (grown₀ (pile st) b 0x01 bs (written t) m r.0, r.1)
one_byte s b bs t (Ok Not) m [] all rec h = absurd (no_tree Values t h)
one_byte s b bs t (Ok Not) m (x ∷ st) all rec h =
    let r = rec (negation x ∷ st) all h in (grown (pile st) (written x) b 0x02 bs (written t) m r.0, r.1)
one_byte s b bs t (Ok And) m [] all rec h = absurd (no_tree Values t h)
one_byte s b bs t (Ok And) m (y ∷ []) all rec h = absurd (no_tree Values t h)
one_byte s b bs t (Ok And) m (y ∷ (x ∷ st)) all rec h =
    let r = rec (conjunction x y ∷ st) ((all.1.0, all.0), all.1.1) h in
    (grown₂ (pile st) (written x) (written y) b 0x03 bs (written t) m r.0, r.1)
one_byte s b bs t (Ok Or) m [] all rec h = absurd (no_tree Values t h)
one_byte s b bs t (Ok Or) m (y ∷ []) all rec h = absurd (no_tree Values t h)
one_byte s b bs t (Ok Or) m (y ∷ (x ∷ st)) all rec h =
    let r = rec (disjunction x y ∷ st) ((all.1.0, all.0), all.1.1) h in
    (grown₂ (pile st) (written x) (written y) b 0x04 bs (written t) m r.0, r.1)
one_byte s b bs t (Ok Equal) m st all rec h =
    at-equal s (λ st'. parse s st' bs) t (λ st'. AllIn s st' → Was s st' (b ∷ bs) t)
    (λ v y x st' k all'.
    let r = rec (equality x y ∷ st') ((v, all'.1.0, all'.0), all'.1.1) k in
    (grown₂ (pile st') (written x) (written y) b 0x05 bs (written t) m r.0, r.1))
    st h all
one_byte s b bs t (Ok (Read q o v)) m st all rec h = go (ltb q.0 s.streams) refl h
  where
    go : (u : Bool) → ltb q.0 s.streams ≡ u → go_on (cond u (stack (read q.0 o v ∷ st)) (breaks Byte)) (λ st'. parse s st' bs) ≡ tree t → Was s st (b ∷ bs) t
    go true e k =
        let r = rec (read q.0 o v ∷ st) ((ltb-true q.0 s.streams e, m.1, m.2), all) k in
        (grown₀ (pile st) b (read_byte q.0 o v) bs (written t) m.0 r.0, r.1)
    go false e k = absurd (no_tree Byte t k)
one_byte s b bs t (Err r) m st all rec h = absurd (no_tree r t h)

was_written : (s : Grammar) (t : Expr) (bs : List ℕ) (st : List Expr) → AllIn s st → parse s st bs ≡ tree t → Was s st bs t
unfolding parse final AllIn
was_written s t [] [] all h = absurd (no_tree Values t h)
was_written s t [] (x ∷ []) all h =
    let e : x ≡ t = cc in
    (append-nil (written x) ∙ ap written e, subst (InSheet s) e all.0)
was_written s t [] (x ∷ (y ∷ st)) all h = absurd (no_tree Values t h)
was_written s t (b ∷ bs) st all h = one_byte s b bs t (op_of b) (op_means b) st all (λ st' a k. was_written s t bs st' a k) h

-- An expression's bytes are read as the tree t exactly if they are its writing and its reads are of the sheet's streams.
pub tree_exactly : TreeExactly
unfolding AllIn parse final
tree_exactly s bs t = (
  (λ h. was_written s t bs [] tt h),
  λ h. ap (parse s []) (h.0 ∙ sym (append-nil (written t))) ∙ reads-written s t h.1 [] [],
)
