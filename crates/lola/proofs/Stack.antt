-- The stack of bits in one word follows the stack of trees.
use Rattle.std.specs.Prelude.{Ok, Err}
use mathlib.Core.Path.{◌≡◌, refl, ap, ◌∙◌}
use mathlib.Core.Bool.{Bool, true, false, cond, not, ◌&&◌, ◌||◌, beq}
use mathlib.Core.List.{List, [], ◌∷◌}
use Prim.Native.Nat.{ℕ, suc, ◌+◌, ◌-◌, ◌*◌, ◌/◌, ◌%◌, ◌^◌, ◌≤◌, ◌<◌}
use native.Mathlib.Numerals.{add-one}
use native.Mathlib.Omega.{arith}
use lib.Dec.{ltb, eqb}
use lib.ListN.{length, drop, get_or, drop_of_length-le}
use lib.Seq.{drop-cons}
use lib.Pow.{pow_mono}
use Rattle.outcomes.specs.declared.Refusal.TheVariants.{Byte, Values}
use Rattle.words.specs.Bits.{bit}
use Rattle.words.specs.Below.{one}
use Rattle.words.proofs.BitLaws.{digit-of}
use Rattle.sheet.specs.Bytes.{op_of, read_of, Decoded}
use Rattle.sheet.specs.Expression.{Expr, constant, negation, conjunction, disjunction, equality, read, stack, breaks, tree, apply_op, final, go_on, parse}
use Rattle.sheet.specs.declared.Grammar.{Grammar}
use Rattle.sheet.specs.declared.Offset.{Offset}
use Rattle.sheet.specs.declared.Offset.TheVariants.{Earlier, Now, Later}
use Rattle.sheet.specs.declared.Op.TheVariants.{Const, Not, And, Or, Equal, Read}
use Rattle.sheet.proofs.Ops.{op-cases}
use Rattle.sheet.proofs.Sheets.{no_tree, at-equal}
use Rattle.lola.specs.Value.{Look, value}
use Rattle.lola.specs.Slots.{read_no, slots, Works}

-- the number of a stack of trees: the value of the top is its lowest digit
unfoldable pub number : Look → List Expr → ℕ
number look [] = 0
number look (x ∷ st) = one (value look x) + 2 * number look st

-- ---- what a byte's operation says of the byte

abbrev Means : ℕ → ℕ → Decoded → Type 0
Means env b (Ok (Const v)) = (b < 2) × (b ≡ one v)
Means env b (Ok Not) = b ≡ 2
Means env b (Ok And) = b ≡ 3
Means env b (Ok Or) = b ≡ 4
Means env b (Ok Equal) = b ≡ 5
Means env b (Ok (Read q o d)) = (0x40 ≤ b) × (b < 0x70) × (slots env q.0 o d ≡ bit (b - 0x40) env)
Means env b (Err r) = Unit {0}

-- a read of one of the five families, whose byte is lo + q, is at the place k + q of the word, where k = lo - 0x40
family : (env lo hi k b : ℕ) (o : Offset) (d : Bool) → ((q : ℕ) → slots env q o d ≡ bit (k + q) env) → lo ≡ 0x40 + k → hi ≤ 0x6F → lo ≤ b → b ≤ hi
    → Means env b (read_of lo b o d)
family env lo hi k b o d f e h l u = (omega arith, omega arith, f (b - lo) ∙ ap (λ (z : ℕ). bit z env) (omega arith))

op_means : (env b : ℕ) → Means env b (op_of b)
unfolding slots read_no
op_means env b =
    op-cases (Means env b) b (λ e. (omega arith, e)) (λ e. (omega arith, e)) (λ e. e) (λ e. e) (λ e. e) (λ e. e)
    (family env 0x40 0x47 0 b Now false (λ q. ap (λ (z : ℕ). bit z env) (omega arith)) refl (omega arith))
    (family env 0x50 0x57 16 b Earlier false (λ q. refl) refl (omega arith))
    (family env 0x58 0x5F 24 b Earlier true (λ q. refl) refl (omega arith))
    (family env 0x60 0x67 32 b Later false (λ q. refl) refl (omega arith))
    (family env 0x68 0x6F 40 b Later true (λ q. refl) refl (omega arith))
    tt

-- ---- the operators on the lowest digits

not_low : (x : Bool) (n w r : ℕ) → w ≡ one x + 2 * n → r ≡ w + 1 - 2 * (w % 2) → r ≡ one (not x) + 2 * n
not_low true n w r h e = omega arith
not_low false n w r h e = omega arith

two_low : (w a b n : ℕ) → a < 2 → b < 2 → w ≡ a + 2 * (b + 2 * n) → (w % 2 ≡ a) × (w / 2 % 2 ≡ b) × (w / 4 ≡ n)
two_low w a b n h k e =
    let half : w / 2 ≡ b + 2 * n = omega arith in
    (omega arith, omega arith, omega arith)

and_low : (y x : Bool) (n w r : ℕ) → w ≡ one y + 2 * (one x + 2 * n) → r ≡ w / 4 * 2 + (w % 2 + w / 2 % 2) / 2 → r ≡ one (x && y) + 2 * n
and_low true true n w r h e = omega (arith, two_low w 1 1 n (omega arith) (omega arith) h)
and_low true false n w r h e = omega (arith, two_low w 1 0 n (omega arith) (omega arith) h)
and_low false true n w r h e = omega (arith, two_low w 0 1 n (omega arith) (omega arith) h)
and_low false false n w r h e = omega (arith, two_low w 0 0 n (omega arith) (omega arith) h)

or-low : (y x : Bool) (n w r : ℕ) → w ≡ one y + 2 * (one x + 2 * n) → r ≡ w / 4 * 2 + (w % 2 + w / 2 % 2 + 1) / 2 → r ≡ one (x || y) + 2 * n
or-low true true n w r h e = omega (arith, two_low w 1 1 n (omega arith) (omega arith) h)
or-low true false n w r h e = omega (arith, two_low w 1 0 n (omega arith) (omega arith) h)
or-low false true n w r h e = omega (arith, two_low w 0 1 n (omega arith) (omega arith) h)
or-low false false n w r h e = omega (arith, two_low w 0 0 n (omega arith) (omega arith) h)

equal-low : (y x : Bool) (n w r : ℕ) → w ≡ one y + 2 * (one x + 2 * n) → r ≡ w / 4 * 2 + (w % 2 + w / 2 % 2 + 1) % 2 → r ≡ one (beq x y) + 2 * n
equal-low true true n w r h e = let d = two_low w 1 1 n (omega arith) (omega arith) h in e ∙ rw (d.0, d.1, d.2) (omega arith)
equal-low true false n w r h e = let d = two_low w 1 0 n (omega arith) (omega arith) h in e ∙ rw (d.0, d.1, d.2) (omega arith)
equal-low false true n w r h e = let d = two_low w 0 1 n (omega arith) (omega arith) h in e ∙ rw (d.0, d.1, d.2) (omega arith)
equal-low false false n w r h e = let d = two_low w 0 0 n (omega arith) (omega arith) h in e ∙ rw (d.0, d.1, d.2) (omega arith)

-- ---- one byte

-- the rest of the bytes, from a stack of trees whose number is w
pub record Stacked (look : Look) (s : Grammar) (t : Expr) (rest : List ℕ) (w : ℕ) : Type 0 where
  pub trees : List Expr
  pub left : parse s trees rest ≡ tree t
  pub same : w ≡ number look trees

module _ (env : ℕ) (s : Grammar) (t : Expr) (b : ℕ) (bs : List ℕ) (w r : ℕ) (does : Works env w b r) where
  by-op : (op : Decoded) → Means env b op → (st : List Expr) → w ≡ number (slots env) st → go_on (apply_op s op st) (λ st'. parse s st' bs) ≡ tree t
      → Stacked (slots env) s t bs r
  unfolding apply_op number value
  by-op (Ok (Const v)) m st e h =
      record { trees = constant v ∷ st; left = h; same = omega (arith, does.const m.0, m.1) }
  by-op (Ok Not) m [] e h = absurd (no_tree Values t h)
  by-op (Ok Not) m (x ∷ st) e h =
      record { trees = negation x ∷ st; left = h; same = not_low (value (slots env) x) (number (slots env) st) w r e (does.not m) }
  by-op (Ok And) m [] e h = absurd (no_tree Values t h)
  by-op (Ok And) m (y ∷ []) e h = absurd (no_tree Values t h)
  by-op (Ok And) m (y ∷ (x ∷ st)) e h =
      record {
        trees = conjunction x y ∷ st;
        left = h;
        same = and_low (value (slots env) y) (value (slots env) x) (number (slots env) st) w r e (does.and m);
      }
  by-op (Ok Or) m [] e h = absurd (no_tree Values t h)
  by-op (Ok Or) m (y ∷ []) e h = absurd (no_tree Values t h)
  by-op (Ok Or) m (y ∷ (x ∷ st)) e h =
      record {
        trees = disjunction x y ∷ st;
        left = h;
        same = or-low (value (slots env) y) (value (slots env) x) (number (slots env) st) w r e (does.or m);
      }
  by-op (Ok Equal) m st e h =
      at-equal s (λ st'. parse s st' bs) t (λ st'. w ≡ number (slots env) st' → Stacked (slots env) s t bs r)
      (λ v y x st' k e'. record {
        trees = equality x y ∷ st';
        left = k;
        same = equal-low (value (slots env) y) (value (slots env) x) (number (slots env) st') w r e' (does.equal m);
      })
      st h e
  by-op (Ok (Read q o d)) m st e h = go (ltb q.0 s.streams) h
    where
      go : (u : Bool) → go_on (cond u (stack (read q.0 o d ∷ st)) (breaks Byte)) (λ st'. parse s st' bs) ≡ tree t → Stacked (slots env) s t bs r
      go true k =
          record {
            trees = read q.0 o d ∷ st;
            left = k;
            same = omega (arith, does.read m.0 m.1, digit-of (b - 0x40) env, ap one m.2);
          }
      go false k = absurd (no_tree Byte t k)
  by-op (Err f) m st e h = absurd (no_tree f t h)

  pub next : Stacked (slots env) s t (b ∷ bs) w → Stacked (slots env) s t bs r
  unfolding parse
  next x = by-op (op_of b) (op_means env b) x.trees x.same x.left

-- ---- the whole expression

-- i bytes are done
pub record Done (env : ℕ) (e : List ℕ) (w i : ℕ) : Type 0 where
  pub inside : i ≤ length e
  pub small : w < 2 ^ i
  pub follows : (s : Grammar) (t : Expr) → parse s [] e ≡ tree t → Stacked (slots env) s t (drop i e) w

pub none_done : (env : ℕ) (e : List ℕ) → Done env e 0 0
unfolding number
none_done env e =
    record { inside = omega arith; small = omega arith; follows = λ s t h. record { trees = []; left = h; same = refl } }

pub one-done : (env : ℕ) (e : List ℕ) (w i r : ℕ) → i < length e → Done env e w i → Works env w (get_or e i 0) r → Done env e r (i + 1)
one-done env e w i r h d does =
    record {
      inside = omega arith;
      small = rw (add-one i) (omega (arith, does.small, d.small));
      follows = λ s t p. rw (add-one i) (next env s t (get_or e i 0) (drop (suc i) e) w r does (rw (drop-cons e i 0 h) at (d.follows s t p)));
    }

pub fits : (w i : ℕ) → w < 2 ^ i → i < 64 → w < 2 ^ 63
fits w i h l = let g : 2 ^ i ≤ 2 ^ 63 = pow_mono {i = i} {j = 63} (omega arith) in omega arith

last : (look : Look) (s : Grammar) (t : Expr) (w : ℕ) → Stacked look s t [] w → eqb (w % 2) 1 ≡ value look t
unfolding parse final number
last look s t w x = go x.trees x.left x.same
  where
    low : (v : Bool) → w ≡ one v + 2 * 0 → eqb (w % 2) 1 ≡ v
    low true e = ap (λ (z : ℕ). eqb (z % 2) 1) e
    low false e = ap (λ (z : ℕ). eqb (z % 2) 1) e

    go : (st : List Expr) → final st ≡ tree t → w ≡ number look st → eqb (w % 2) 1 ≡ value look t
    go [] h e = absurd (no_tree Values t h)
    go (y ∷ []) h e = let z : y ≡ t = cc in low (value look y) e ∙ ap (value look) z
    go (y ∷ (z ∷ st)) h e = absurd (no_tree Values t h)

pub all_done : (env : ℕ) (e : List ℕ) (w i : ℕ) → length e ≤ i → Done env e w i → (s : Grammar) (t : Expr) → parse s [] e ≡ tree t → eqb (w % 2) 1 ≡ value (slots env) t
all_done env e w i h d s t p = last (slots env) s t w (rw (drop_of_length-le e h) at (d.follows s t p))
