-- The reads of a tree are those of the bytes that it was read from, and a word has them.
use mathlib.Core.Path.{◌≡◌, refl, sym, ap, ◌∙◌}
use mathlib.Core.Bool.{Bool, true, false, ◌&&◌, ◌||◌, and-false, or_assoc, or-false}
use mathlib.Core.List.{List, [], ◌∷◌, ◌++◌}
use Prim.Native.Nat.{ℕ, zero, suc, ◌+◌, ◌*◌, ◌/◌, ◌%◌, ◌^◌, ◌≤◌, ◌<◌}
use native.Mathlib.Numerals.{add-one}
use native.Mathlib.Omega.{arith}
use native.Mathlib.Decide.{ℕ_discrete, dec_lt}
use lib.Bits.{bit_or}
use lib.Dec.{eqb, ltb}
use lib.ListN.{length, get_or, drop, drop_of_length-le}
use lib.Seq.{drop-cons}
use borrow.Author.Tests.{lt-ltb, le-ltb, eq-eqb, ne_eqb}
use Rattle.words.specs.Bits.{bit}
use Rattle.words.proofs.BitLaws.{bit-or, bit-none, bit-shl, bit-shr, bit_high}
use Rattle.words.proofs.Bools.{or-second}
use Rattle.words.proofs.JoinLaws.{bit-of-low}
use Rattle.sheet.specs.Expression.{Expr, constant, negation, conjunction, disjunction, equality, read}
use Rattle.sheet.specs.Postfix.{read_byte, written, InSheet}
use Rattle.sheet.specs.declared.Grammar.{Grammar}
use Rattle.sheet.specs.declared.Offset.{Offset}
use Rattle.sheet.specs.declared.Offset.TheVariants.{Earlier, Now, Later}
use Rattle.sheet.proofs.Postfixes.{tree_exactly}
use Rattle.lola.specs.Reads.{offset_no, has_read}
use Rattle.lola.specs.ByteReads.{begins, read_in, ReadsOf}

-- ---- where reads begin

sixteens : (o : ℕ) → begins o % 16 ≡ 0
sixteens zero = refl
sixteens (suc zero) = refl
sixteens (suc (suc o)) = omega arith

begins_once : (n o : ℕ) → begins n ≡ begins o → n ≡ o
begins_once zero zero e = refl
begins_once zero (suc zero) e = omega arith
begins_once zero (suc (suc o)) e = omega arith
begins_once (suc zero) zero e = omega arith
begins_once (suc zero) (suc zero) e = refl
begins_once (suc zero) (suc (suc o)) e = omega arith
begins_once (suc (suc n)) zero e = omega arith
begins_once (suc (suc n)) (suc zero) e = omega arith
begins_once (suc (suc n)) (suc (suc o)) e = omega arith

begins-same : (n o : ℕ) → eqb (begins n) (begins o) ≡ eqb n o
begins-same n o = go (ℕ_discrete n o)
  where
    go : Dec (n ≡ o) → eqb (begins n) (begins o) ≡ eqb n o
    go (yes e) = rw (eq-eqb n o e) (eq-eqb (begins n) (begins o) (ap begins e))
    go (no h) = rw (ne_eqb n o h) (ne_eqb (begins n) (begins o) (λ e. h (begins_once n o e)))

-- ---- the bytes of a tree

-- a byte of the list passes the test
unfoldable pub any_byte : (ℕ → Bool) → List ℕ → Bool
any_byte p [] = false
any_byte p (b ∷ bs) = p b || any_byte p bs

any_append : (p : ℕ → Bool) (bs cs : List ℕ) → any_byte p (bs ++ cs) ≡ (any_byte p bs || any_byte p cs)
unfolding any_byte
any_append p [] cs = refl
any_append p (b ∷ bs) cs = ap (λ (u : Bool). p b || u) (any_append p bs cs) ∙ sym (or_assoc (p b) (any_byte p bs) (any_byte p cs))

-- the byte is a read of stream q at the offset number o
unfoldable pub byte_reads : ℕ → ℕ → ℕ → Bool
byte_reads q o b = eqb (b / 64 % 2) 1 && (eqb (b % 64 % 8) q && eqb (16 * (b % 64 / 16)) (begins o))

module _ (q o : ℕ) where
  abbrev any : List ℕ → Bool
  any = any_byte (byte_reads q o)

  begun : (b k n : ℕ) → b / 64 % 2 ≡ 1 → b % 64 % 8 ≡ k → 16 * (b % 64 / 16) ≡ begins n → byte_reads q o b ≡ (eqb k q && eqb n o)
  unfolding byte_reads
  begun b k n e g h = rw (e, g, h, begins-same n o)

  read_byte_lem : (k : ℕ) (p : Offset) (d : Bool) → k < 8 → byte_reads q o (read_byte k p d) ≡ (eqb k q && eqb (offset_no p) o)
  unfolding read_byte
  read_byte_lem k Now d l = begun (0x40 + k) k 1 (omega arith) (omega arith) (omega arith)
  read_byte_lem k Earlier false l = begun (0x50 + k) k 0 (omega arith) (omega arith) (omega arith)
  read_byte_lem k Earlier true l = begun (0x58 + k) k 0 (omega arith) (omega arith) (omega arith)
  read_byte_lem k Later false l = begun (0x60 + k) k 2 (omega arith) (omega arith) (omega arith)
  read_byte_lem k Later true l = begun (0x68 + k) k 2 (omega arith) (omega arith) (omega arith)

  -- two values and an operator behind them
  two : (b : ℕ) (xs ys : List ℕ) (u v : Bool) → byte_reads q o b ≡ false → any xs ≡ u → any ys ≡ v → any (xs ++ (ys ++ (b ∷ []))) ≡ (u || v)
  unfolding any_byte
  two b xs ys u v e f g = rw (any_append (byte_reads q o) xs (ys ++ (b ∷ [])), any_append (byte_reads q o) ys (b ∷ []), e, or-false (any ys), f, g)

  tree-bytes : (s : Grammar) (t : Expr) → InSheet s t → any (written t) ≡ has_read t q o
  unfolding any_byte byte_reads written InSheet has_read
  tree-bytes s (constant false) h = refl
  tree-bytes s (constant true) h = refl
  tree-bytes s (negation x) h = any_append _ (written x) _ ∙ or-false _ ∙ tree-bytes s x h
  tree-bytes s (conjunction x y) h = two 0x03 (written x) (written y) _ _ refl (tree-bytes s x h.0) (tree-bytes s y h.1)
  tree-bytes s (disjunction x y) h = two 0x04 (written x) (written y) _ _ refl (tree-bytes s x h.0) (tree-bytes s y h.1)
  tree-bytes s (equality x y) h = two 0x05 (written x) (written y) _ _ refl (tree-bytes s x h.1) (tree-bytes s y h.2)
  tree-bytes s (read k p d) h = or-false _ ∙ read_byte_lem k p d h.1

-- ---- the reads in a word

pub none_in : (q o : ℕ) → read_in 0 q o ≡ false
unfolding read_in
none_in q o = rw (bit-none (begins o + q), bit-none (8 + (begins o + q))) (and-false (ltb q 8))

both : (u a b c d : Bool) → (u && ((a || b) || (c || d))) ≡ ((u && (a || c)) || (u && (b || d)))
both false a b c d = refl
both true true b c d = refl
both true false true true d = refl
both true false true false d = refl
both true false false c d = refl

pub read-or : (w x q o : ℕ) → read_in (bit_or w x) q o ≡ (read_in w q o || read_in x q o)
unfolding read_in
read-or w x q o = rw (bit-or (begins o + q) w x, bit-or (8 + (begins o + q)) w x)
    (both (ltb q 8) (bit (begins o + q) w) (bit (begins o + q) x) (bit (8 + (begins o + q)) w) (bit (8 + (begins o + q)) x))

-- the streams at an offset
pub streams : (w k q o : ℕ) → begins o ≡ k → bit q (bit_or w (w / 2 ^ 8) / 2 ^ k % 2 ^ 8) ≡ read_in w q o
unfolding read_in
streams w k q o e = rw e (go (dec_lt q 8))
  where
    go : Dec (q < 8) → bit q (bit_or w (w / 2 ^ 8) / 2 ^ k % 2 ^ 8) ≡ (ltb q 8 && (bit (k + q) w || bit (8 + (k + q)) w))
    go (yes h) =
        rw (lt-ltb q 8 h)
        (bit-of-low 8 q _ h ∙ bit-shr q k _ ∙ bit-or (k + q) w (w / 2 ^ 8) ∙ ap (λ (u : Bool). bit (k + q) w || u) (bit-shr (k + q) 8 w))
    go (no h) = rw (le-ltb q 8 (omega arith)) (bit_high 8 q _ (omega arith) (omega arith))

-- ---- an expression, byte by byte

-- the bit of a byte
abbrev pub Bit : ℕ → ℕ → Type 0
Bit b x = (k : ℕ) → bit k x ≡ (eqb (b / 64 % 2) 1 && eqb k (b % 64))

pub bit_of_byte : (b : ℕ) → Bit b (b / 64 % 2 * 2 ^ (b % 64) % 2 ^ 64)
bit_of_byte b k = go (ℕ_discrete (b / 64 % 2) 1)
  where
    go : Dec (b / 64 % 2 ≡ 1) → bit k (b / 64 % 2 * 2 ^ (b % 64) % 2 ^ 64) ≡ (eqb (b / 64 % 2) 1 && eqb k (b % 64))
    go (yes e) = rw e (bit-shl k (b % 64) (omega arith))
    go (no n) = let e : b / 64 % 2 ≡ 0 = omega arith in rw e (ap (bit k) (omega arith) ∙ bit-none k)

-- one of the two bits of stream q from f on is bit k
two_bits : (q f k : ℕ) → f % 16 ≡ 0 → (ltb q 8 && (eqb (f + q) k || eqb (8 + (f + q)) k)) ≡ (eqb (k % 8) q && eqb (16 * (k / 16)) f)
two_bits q f k z = go (dec_lt q 8) (ℕ_discrete (k % 8) q) (ℕ_discrete (16 * (k / 16)) f)
  where
    go : Dec (q < 8) → Dec (k % 8 ≡ q) → Dec (16 * (k / 16) ≡ f) → (ltb q 8 && (eqb (f + q) k || eqb (8 + (f + q)) k)) ≡ (eqb (k % 8) q && eqb (16 * (k / 16)) f)
    go (no l) g h = rw (le-ltb q 8 (omega arith), ne_eqb (k % 8) q (λ e. omega arith))
    go (yes l) (no g) h = rw (lt-ltb q 8 l, ne_eqb (k % 8) q g, ne_eqb (f + q) k (λ e. g (omega arith)), ne_eqb (8 + (f + q)) k (λ e. g (omega arith)))
    go (yes l) (yes g) (no h) =
        rw (lt-ltb q 8 l, eq-eqb (k % 8) q g, ne_eqb (16 * (k / 16)) f h, ne_eqb (f + q) k (λ e. h (omega arith)), ne_eqb (8 + (f + q)) k (λ e. h (omega arith)))
    go (yes l) (yes g) (yes h) = rw (lt-ltb q 8 l, eq-eqb (k % 8) q g, eq-eqb (16 * (k / 16)) f h) (one (ℕ_discrete (f + q) k))
      where
        one : Dec (f + q ≡ k) → (eqb (f + q) k || eqb (8 + (f + q)) k) ≡ true
        one (yes e) = rw (eq-eqb (f + q) k e)
        one (no n) = or-second (eqb (f + q) k) _ (eq-eqb (8 + (f + q)) k (omega arith))

one-read : (b x : ℕ) → Bit b x → (q o : ℕ) → read_in x q o ≡ byte_reads q o b
unfolding read_in byte_reads
one-read b x has q o = rw (has (begins o + q), has (8 + (begins o + q))) (go (eqb (b / 64 % 2) 1))
  where
    go : (u : Bool) → (ltb q 8 && ((u && eqb (begins o + q) (b % 64)) || (u && eqb (8 + (begins o + q)) (b % 64)))) ≡ (u && (eqb (b % 64 % 8) q && eqb (16 * (b % 64 / 16)) (begins o)))
    go true = two_bits q (begins o) (b % 64) (sixteens o)
    go false = and-false (ltb q 8)

-- the bits so far, and the reads of the bytes that are left
abbrev pub Marked : List ℕ → ℕ → ℕ → Type 0
Marked e w i = (q o : ℕ) → (read_in w q o || any_byte (byte_reads q o) (drop i e)) ≡ any_byte (byte_reads q o) e

pub marked-none : (e : List ℕ) → Marked e 0 0
marked-none e q o = rw (none_in q o)

pub marked_more : (e : List ℕ) (w i x : ℕ) → i < length e → Marked e w i → Bit (get_or e i 0) x → Marked e (bit_or w x) (i + 1)
unfolding any_byte
marked_more e w i x h k f q o =
    rw (add-one i, read-or w x q o, one-read (get_or e i 0) x f q o)
    (or_assoc (read_in w q o) (byte_reads q o (get_or e i 0)) (any q o (drop (suc i) e)) ∙ rw (drop-cons e i 0 h) at (k q o))

pub marked_all : (e : List ℕ) (w i : ℕ) → length e ≤ i → Marked e w i → ReadsOf e w
unfolding any_byte
marked_all e w i h k =
    record {
      reads = λ s x p q o.
          let t = (tree_exactly s e x).0 p in
          sym (or-false (read_in w q o)) ∙ rw (drop_of_length-le e h) at (k q o) ∙ ap (any q o) t.0 ∙ tree-bytes q o s x t.1;
    }
