-- In each lane the stack of truth values follows the stack of trees.
use Rattle.std.specs.Prelude.{Ok, Err}
use mathlib.Core.Path.{◌≡◌, refl, sym, ap, ◌∙◌}
use mathlib.Core.Bool.{Bool, true, false, cond}
use mathlib.Core.List.{List, [], ◌∷◌}
use Prim.Native.Nat.{ℕ, suc, ◌+◌, ◌-◌, ◌*◌, ◌%◌, ◌≤◌, ◌<◌}
use native.Mathlib.Numerals.{add-one}
use native.Mathlib.Omega.{arith}
use lib.Dec.{ltb, eqb}
use lib.ListN.{length, drop, get_or, drop_of_length-le}
use lib.Seq.{drop-cons}
use Rattle.outcomes.specs.declared.Refusal.TheVariants.{Byte, Values}
use Rattle.words.specs.Bits.{bit}
use Rattle.sheet.specs.Bytes.{op_of, read_of, Decoded}
use Rattle.sheet.specs.Expression.{Expr, constant, negation, conjunction, disjunction, equality, read, stack, breaks, tree, apply_op, final, go_on, parse}
use Rattle.sheet.specs.declared.Grammar.{Grammar}
use Rattle.sheet.specs.declared.Offset.{Offset}
use Rattle.sheet.specs.declared.Offset.TheVariants.{Earlier, Now, Later}
use Rattle.sheet.specs.declared.Op.TheVariants.{Const, Not, And, Or, Equal, Read}
use Rattle.sheet.proofs.Ops.{op-cases}
use Rattle.sheet.proofs.Sheets.{no_tree, at-equal}
use Rattle.lola.specs.Value.{Look, value}
use Rattle.lola.specs.Slots.{read_no}
use Rattle.lanes.specs.Machine.{neg_top, and_top, or_top, equal_top, stepped}
use Rattle.lanes.specs.Around.{read_at, lane_look, down_from, lane_stack, Stepped}
use Rattle.lanes.proofs.StackLaws.{byte-read, byte-const, byte-not, byte-and, byte_or, byte-equal}

-- the values of a stack of trees, which lie on r
unfoldable pub values : Look → List Bool → List Expr → List Bool
values look r [] = r
values look r (x ∷ st) = value look x ∷ values look r st

-- the reads of an environment of read bytes
abbrev reads : (ℕ → Bool) → Look
reads env q o d = env (read_no q o d)

-- ---- what a byte's operation does to the stack of values

abbrev Means : (ℕ → Bool) → ℕ → Decoded → Type 0
Means env b (Ok (Const v)) = (s : List Bool) → v ∷ s ≡ stepped env b s
Means env b (Ok Not) = (s : List Bool) → neg_top s ≡ stepped env b s
Means env b (Ok And) = (s : List Bool) → and_top s ≡ stepped env b s
Means env b (Ok Or) = (s : List Bool) → or_top s ≡ stepped env b s
Means env b (Ok Equal) = (s : List Bool) → equal_top s ≡ stepped env b s
Means env b (Ok (Read q o d)) = (s : List Bool) → env (read_no q.0 o d) ∷ s ≡ stepped env b s
Means env b (Err r) = Unit {0}

-- a read of one of the five families, whose byte is lo + q, has the word k + q, where k = lo - 0x40
family : (env : ℕ → Bool) (lo hi k b : ℕ) (o : Offset) (d : Bool) → ((q : ℕ) → read_no q o d ≡ k + q) → lo ≡ 0x40 + k → hi ≤ 0x6F → lo ≤ b → b ≤ hi
    → Means env b (read_of lo b o d)
family env lo hi k b o d f e h l u s =
    let z : k + (b - lo) ≡ b % 64 = omega arith in
    ap (λ (j : ℕ). env j ∷ s) (f (b - lo) ∙ z) ∙ byte-read env b s (omega arith)

const-is : (env : ℕ → Bool) (b : ℕ) (s : List Bool) (k : ℕ) (v : Bool) → b ≡ k → k < 2 → eqb k 1 ≡ v → v ∷ s ≡ stepped env b s
const-is env b s k v e l f = ap (λ (u : Bool). u ∷ s) (sym (ap (λ (j : ℕ). eqb j 1) e ∙ f)) ∙ byte-const env b s (omega arith)

pub op_means : (env : ℕ → Bool) (b : ℕ) → Means env b (op_of b)
unfolding read_no
op_means env b =
    op-cases (Means env b) b
    (λ e s. const-is env b s 0 false e (omega arith) refl)
    (λ e s. const-is env b s 1 true e (omega arith) refl)
    (λ e s. byte-not env b s e)
    (λ e s. byte-and env b s e)
    (λ e s. byte_or env b s e)
    (λ e s. byte-equal env b s (omega arith) (omega arith))
    (family env 0x40 0x47 0 b Now false (λ q. omega arith) refl (omega arith))
    (family env 0x50 0x57 16 b Earlier false (λ q. refl) refl (omega arith))
    (family env 0x58 0x5F 24 b Earlier true (λ q. refl) refl (omega arith))
    (family env 0x60 0x67 32 b Later false (λ q. refl) refl (omega arith))
    (family env 0x68 0x6F 40 b Later true (λ q. refl) refl (omega arith))
    tt

-- ---- one byte

-- the rest of the bytes, from a stack of trees with the values vs, which lie on r
pub record Stacked (look : Look) (r : List Bool) (s : Grammar) (x : Expr) (rest : List ℕ) (vs : List Bool) : Type 0 where
  pub trees : List Expr
  pub left : parse s trees rest ≡ tree x
  pub same : vs ≡ values look r trees

module _ (env : ℕ → Bool) (r : List Bool) (s : Grammar) (x : Expr) (b : ℕ) (bs : List ℕ) (vs : List Bool) where
  by-op : (op : Decoded) → Means env b op → (st : List Expr) → vs ≡ values (reads env) r st → go_on (apply_op s op st) (λ st'. parse s st' bs) ≡ tree x
      → Stacked (reads env) r s x bs (stepped env b vs)
  unfolding apply_op values value neg_top and_top or_top equal_top
  by-op (Ok (Const v)) m st e h = record { trees = constant v ∷ st; left = h; same = sym (m vs) ∙ ap (λ (z : List Bool). v ∷ z) e }
  by-op (Ok Not) m [] e h = absurd (no_tree Values x h)
  by-op (Ok Not) m (y ∷ st) e h = record { trees = negation y ∷ st; left = h; same = sym (m vs) ∙ ap neg_top e }
  by-op (Ok And) m [] e h = absurd (no_tree Values x h)
  by-op (Ok And) m (y ∷ []) e h = absurd (no_tree Values x h)
  by-op (Ok And) m (y ∷ (z ∷ st)) e h = record { trees = conjunction z y ∷ st; left = h; same = sym (m vs) ∙ ap and_top e }
  by-op (Ok Or) m [] e h = absurd (no_tree Values x h)
  by-op (Ok Or) m (y ∷ []) e h = absurd (no_tree Values x h)
  by-op (Ok Or) m (y ∷ (z ∷ st)) e h = record { trees = disjunction z y ∷ st; left = h; same = sym (m vs) ∙ ap or_top e }
  by-op (Ok Equal) m st e h =
      at-equal s (λ st'. parse s st' bs) x (λ st'. vs ≡ values (reads env) r st' → Stacked (reads env) r s x bs (stepped env b vs))
      (λ v y z st' k e'. record { trees = equality z y ∷ st'; left = k; same = sym (m vs) ∙ ap equal_top e' }) st h e
  by-op (Ok (Read q o d)) m st e h = go (ltb q.0 s.streams) h
    where
      go : (u : Bool) → go_on (cond u (stack (read q.0 o d ∷ st)) (breaks Byte)) (λ st'. parse s st' bs) ≡ tree x
          → Stacked (reads env) r s x bs (stepped env b vs)
      go true k = record { trees = read q.0 o d ∷ st; left = k; same = sym (m vs) ∙ ap (λ (z : List Bool). env (read_no q.0 o d) ∷ z) e }
      go false k = absurd (no_tree Byte x k)
  by-op (Err f) m st e h = absurd (no_tree f x h)

  next : Stacked (reads env) r s x (b ∷ bs) vs → Stacked (reads env) r s x bs (stepped env b vs)
  unfolding parse
  next k = by-op (op_of b) (op_means env b) k.trees k.same k.left

last : (look : Look) (r : List Bool) (s : Grammar) (x : Expr) (vs : List Bool) → Stacked look r s x [] vs → vs ≡ value look x ∷ r
unfolding parse final values
last look r s x vs k = go k.trees k.left k.same
  where
    go : (st : List Expr) → final st ≡ tree x → vs ≡ values look r st → vs ≡ value look x ∷ r
    go [] h e = absurd (no_tree Values x h)
    go (y ∷ []) h e = let z : y ≡ x = cc in e ∙ ap (λ (w : Expr). value look w ∷ r) z
    go (y ∷ (z ∷ st)) h e = absurd (no_tree Values x h)

-- ---- the whole expression, in one lane

-- k bytes of e are done, on a stack that lies on r
abbrev pub LaneDone : (ℕ → Bool) → List Bool → List ℕ → ℕ → List Bool → Type 0
LaneDone env r e k vs = (s : Grammar) (x : Expr) → parse s [] e ≡ tree x → Stacked (reads env) r s x (drop k e) vs

lane_more : (env : ℕ → Bool) (r : List Bool) (e : List ℕ) (k : ℕ) (vs vs' : List Bool) → k < length e → LaneDone env r e k vs
    → vs' ≡ stepped env (get_or e k 0) vs → LaneDone env r e (k + 1) vs'
lane_more env r e k vs vs' h d w s x p =
    let f : Stacked (reads env) r s x (get_or e k 0 ∷ drop (suc k) e) vs = rw (drop-cons e k 0 h) at (d s x p) in
    rw (add-one k, w) (next env r s x (get_or e k 0) (drop (suc k) e) vs f)

lane_all : (env : ℕ → Bool) (r : List Bool) (e : List ℕ) (k : ℕ) (v : Bool) (vs : List Bool) → length e ≤ k → LaneDone env r e k (v ∷ vs)
    → (s : Grammar) (x : Expr) → parse s [] e ≡ tree x → v ≡ value (reads env) x
lane_all env r e k v vs l d s x p = ap head (last (reads env) r s x (v ∷ vs) (rw (drop_of_length-le e l) at (d s x p)))
  where
    head : List Bool → Bool
    head [] = false
    head (u ∷ us) = u

-- ---- in all lanes of w words, where the row r was there at first

pub record Done (w env own : ℕ) (e r st top : List ℕ) (used k : ℕ) : Type 0 where
  pub inside : k ≤ length e
  pub few : used ≤ k
  pub follows : (j i : ℕ) → j < w → i < 64
      → LaneDone (read_at env own (64 * j + i)) (bit i (get_or r j 0) ∷ []) e k (lane_stack (bit i (get_or top j 0)) (λ n. bit i (get_or st (w * n + j) 0)) used)

module _ (w env own : ℕ) (e r : List ℕ) where
  pub none_done : (st : List ℕ) → Done w env own e r st r 0 0
  unfolding values down_from
  none_done st = record { inside = omega arith; few = omega arith; follows = λ j i g l s x h. record { trees = []; left = h; same = refl } }

  pub one-done : (st top : List ℕ) (used k : ℕ) (st' top' : List ℕ) (used' : ℕ) → k < length e → Done w env own e r st top used k
      → Stepped w env own (get_or e k 0) st top used st' top' used' → Done w env own e r st' top' used' (k + 1)
  one-done st top used k st' top' used' h d z = record {
    inside = omega arith;
    few = omega (arith, z.grows, d.few);
    follows = λ j i g l. lane_more (read_at env own (64 * j + i)) (bit i (get_or r j 0) ∷ []) e k _ _ h (d.follows j i g l) (z.lanes j i g l);
  }

  pub all_done : (st top : List ℕ) (used k : ℕ) → Done w env own e r st top used k → length e ≤ k → (s : Grammar) (x : Expr) → parse s [] e ≡ tree x
      → (j i : ℕ) → j < w → i < 64 → bit i (get_or top j 0) ≡ value (lane_look env own (64 * j + i)) x
  all_done st top used k d l s x p j i g h =
      lane_all (read_at env own (64 * j + i)) (bit i (get_or r j 0) ∷ []) e k (bit i (get_or top j 0)) (down_from (λ n. bit i (get_or st (w * n + j) 0)) used) l
      (d.follows j i g h) s x p
