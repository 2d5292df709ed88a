-- Reading a line byte by byte.
use mathlib.Core.Path.{◌≡◌, refl, sym, ap, ap₂, ◌∙◌}
use mathlib.Core.Bool.{Bool, true, false, cond, ◌&&◌, and-false, true≢false}
use mathlib.Core.List.{List, [], ◌∷◌, ◌++◌, append_assoc}
use Prim.Native.Nat.{ℕ, ◌+◌, ◌*◌, ◌^◌, ◌≤◌, ◌<◌}
use native.Mathlib.Omega.{arith}
use lib.Bits.{bit_or}
use lib.Dec.{eqb, ltb}
use lib.ListN.{length, length-append}
use lib.Pow.{pow_pos}
use lib.Seq.{append_snoc}
use borrow.Author.Tests.{eq-eqb, ne_eqb}
use Rattle.words.specs.Bits.{from_bits}
use Rattle.words.proofs.Bools.{and_split}
use Rattle.words.proofs.BitLaws.{bit-none}
use Rattle.words.proofs.FromBits.{from_or, from_word}
use Rattle.letter_table.specs.Entry.{entry_of}
use Rattle.line_scan.specs.Lines.{is_mark, all_marks, alternatives_from, alternatives, whole, all_whole, fits, fits_one, is_dot, malformed, read_line}
use Rattle.line_scan.specs.Index.{mark_digit, index_of}
use Rattle.line_scan.specs.Scan.{no_marks, joined, Parted, Marked, Spoiled}
use Rattle.line_scan.specs.declared.kept.Alternatives.{Alternatives}
use Rattle.line_scan.proofs.Fitting.{one-more-fits}
use Rattle.line_scan.proofs.Indexing.{index-more, entry_of-marks}

-- ---- lines that are no dot

not_dot : (p : List ℕ) (b : ℕ) (rest : List ℕ) → (length p ≡ 0 → b ≡ 46 → ⊥) → is_dot (p ++ b ∷ rest) ≡ false
not_dot [] b [] h = ne_eqb b 46 (h refl)
not_dot [] b (d ∷ rest) h = refl
not_dot (a ∷ []) b rest h = refl
not_dot (a ∷ c ∷ p) b rest h = refl

long : (p : List ℕ) (b : ℕ) (rest : List ℕ) → length p < length (p ++ b ∷ rest)
long p b rest = omega (arith, length-append p (b ∷ rest))

-- ---- malformed lines

pub read_bad : (m : ℕ) (l : List ℕ) → 0 < length l → is_dot l ≡ false → all_whole m (alternatives l) ≡ false → read_line m l ≡ malformed
unfolding read_line
read_bad m [] h d e = absurd (omega arith)
read_bad m (b ∷ bs) h d e = simp (d, e)

-- one that isn't whole among them
pub bad_behind : (m : ℕ) (as' bs : List (List ℕ)) → all_whole m bs ≡ false → all_whole m (as' ++ bs) ≡ false
unfolding all_whole
bad_behind m [] bs e = e
bad_behind m (a ∷ as') bs e = rw (bad_behind m as' bs e) (and-false (whole m a))

no_marks_lem : (p : List ℕ) (b : ℕ) → is_mark b ≡ false → all_marks (p ++ b ∷ []) ≡ false
unfolding all_marks
no_marks_lem [] b h = rw h refl
no_marks_lem (a ∷ p) b h = rw (no_marks_lem p b h) (and-false (is_mark a))

still_none : (p : List ℕ) (b : ℕ) → all_marks p ≡ false → all_marks (p ++ b ∷ []) ≡ false
unfolding all_marks
still_none [] b h = absurd (true≢false h)
still_none (a ∷ p) b h = go (is_mark a) h (still_none p b)
  where
    go : (t : Bool) → (t && all_marks p) ≡ false → (all_marks p ≡ false → all_marks (p ++ b ∷ []) ≡ false) → (t && all_marks (p ++ b ∷ [])) ≡ false
    go true g f = f g
    go false g f = refl

-- an alternative that can't become whole, whatever comes
pub data Lost (m : ℕ) (p : List ℕ) : Type 0 where
  too_long : m < length p → Lost m p
  no_mark : all_marks p ≡ false → Lost m p

lost_more : (m : ℕ) (p : List ℕ) (b : ℕ) → Lost m p → Lost m (p ++ b ∷ [])
lost_more m p b (too_long h) = too_long (omega (arith, length-append p (b ∷ [])))
lost_more m p b (no_mark h) = no_mark (still_none p b h)

lost_bad : (m : ℕ) (p : List ℕ) → Lost m p → whole m p ≡ false
lost_bad m p (too_long h) = rw (ne_eqb (length p) m (λ e. omega arith)) refl
lost_bad m p (no_mark h) = rw h (and-false (eqb (length p) m))

lost_first : (m : ℕ) (p : List ℕ) (as' : List (List ℕ)) → whole m p ≡ false → all_whole m (p ∷ as') ≡ false
unfolding all_whole
lost_first m p as' e = rw e refl

lost : (m : ℕ) (p rest : List ℕ) → Lost m p → all_whole m (alternatives_from p rest) ≡ false
unfolding alternatives_from
lost m p [] h = lost_first m p [] (lost_bad m p h)
lost m p (b ∷ bs) h = go (eqb b 124) (lost m (p ++ b ∷ []) bs (lost_more m p b h))
  where
    go : (t : Bool) → all_whole m (alternatives_from (p ++ b ∷ []) bs) ≡ false → all_whole m (cond t (p ∷ alternatives_from [] bs) (alternatives_from (p ++ b ∷ []) bs)) ≡ false
    go true f = lost_first m p (alternatives_from [] bs) (lost_bad m p h)
    go false f = f

-- a dot among the marks
dot_lost : (m : ℕ) (rest : List ℕ) → all_whole m (alternatives_from [] (46 ∷ rest)) ≡ false
unfolding alternatives_from all_marks
dot_lost m rest = lost m (46 ∷ []) rest (no_mark refl)

-- how an alternative goes on: with a bar, and with any other byte
from_bar : (p rest : List ℕ) (b : ℕ) → b ≡ 124 → alternatives_from p (b ∷ rest) ≡ p ∷ alternatives_from [] rest
unfolding alternatives_from
from_bar p rest b e = rw (eq-eqb b 124 e) refl

from_other : (p rest : List ℕ) (b : ℕ) → (b ≡ 124 → ⊥) → alternatives_from p (b ∷ rest) ≡ alternatives_from (p ++ b ∷ []) rest
unfolding alternatives_from
from_other p rest b n = rw (ne_eqb b 124 n) refl

-- ---- whole alternatives

all_more : (p : List ℕ) (b : ℕ) → all_marks p ≡ true → is_mark b ≡ true → all_marks (p ++ b ∷ []) ≡ true
unfolding all_marks
all_more [] b h e = rw e refl
all_more (a ∷ p) b h e = let z = and_split (is_mark a) (all_marks p) h in ap₂ ◌&&◌ z.0 (all_more p b z.1 e)

pub all_whole_lem : (m : ℕ) (as' : List (List ℕ)) (a : List ℕ) → all_whole m as' ≡ true → length a ≡ m → all_marks a ≡ true → all_whole m (as' ++ a ∷ []) ≡ true
unfolding all_whole
all_whole_lem m [] a h e f = rw (eq-eqb (length a) m e, f) refl
all_whole_lem m (c ∷ as') a h e f = let z = and_split (whole m c) (all_whole m as') h in ap₂ ◌&&◌ z.0 (all_whole_lem m as' a z.1 e f)

-- none has come
no_letters : (m : ℕ) → 0 ≡ from_bits (2 ^ m) (fits_one [])
unfolding fits_one
no_letters m = from_word (2 ^ m) (2 ^ m) 0 (fits_one []) (omega arith) (pow_pos (2 ^ m)) (λ l h. bit-none l ∙ sym (and-false (ltb l (2 ^ m))))

-- no mark has come
none-marked : all_marks [] ≡ true
unfolding all_marks
none-marked = refl

pub none-parted : (m : ℕ) → Parted m [] (no_marks 0)
unfolding all_whole fits_one index_of
none-parted m = record {
  done = [];
  last = [];
  splits = λ rest. refl;
  whole = refl;
  marks = none-marked;
  few = omega arith;
  set = no_letters m;
  count = refl;
  index = refl;
}

-- the set of all of them, if the last is whole too
pub joined-set : (m : ℕ) (part : List ℕ) (q : Alternatives) (h : Parted m part q) → m ≤ 6 → q.count ≡ m → joined q ≡ from_bits (2 ^ m) (fits_one (h.done ++ h.last ∷ []))
joined-set m part q h low n =
    let size : length h.last ≡ m = sym h.count ∙ n in
    let entry : entry_of q.index ≡ from_bits (2 ^ m) (fits h.last) =
    ap entry_of h.index ∙ (entry_of-marks h.last (omega arith) h.marks).1 ∙ ap (λ (k : ℕ). from_bits (2 ^ k) (fits h.last)) size in
    ap₂ bit_or h.set entry ∙ from_or (2 ^ m) (fits_one h.done) (fits h.last) (fits_one (h.done ++ h.last ∷ [])) (one-more-fits h.done h.last)

-- ---- one byte more

module _ (m : ℕ) (part : List ℕ) (b : ℕ) where
  -- a byte after a malformed start
  pub still : Spoiled m part → Spoiled m (part ++ b ∷ [])
  still h rest = rw (append_snoc part b rest) (h (b ∷ rest))

  module _ (q : Alternatives) (dot : length part ≡ 0 → b ≡ 46 → ⊥) (h : Parted m part q) where
    spoil : ((rest : List ℕ) → all_whole m (alternatives_from h.last (b ∷ rest)) ≡ false) → Spoiled m (part ++ b ∷ [])
    spoil e rest =
        rw (append_snoc part b rest)
        (read_bad m (part ++ b ∷ rest) (omega (arith, long part b rest)) (not_dot part b rest dot)
        (rw (h.splits (b ∷ rest)) (bad_behind m h.done (alternatives_from h.last (b ∷ rest)) (e rest))))

    -- a bar behind too few marks
    pub early-bar : b ≡ 124 → (q.count ≡ m → ⊥) → Spoiled m (part ++ b ∷ [])
    early-bar e n =
        spoil (λ rest. rw (from_bar h.last rest b e) (lost_first m h.last (alternatives_from [] rest) (rw (ne_eqb (length h.last) m (λ z. n (h.count ∙ z))) refl)))

    -- one mark too many
    pub one_more : (b ≡ 124 → ⊥) → m ≤ q.count → Spoiled m (part ++ b ∷ [])
    one_more n l = spoil (λ rest. rw (from_other h.last rest b n) (lost m (h.last ++ b ∷ []) rest (too_long (omega (arith, h.count, length-append h.last (b ∷ []))))))

    -- a byte that is neither mark nor bar
    pub other_byte : (b ≡ 124 → ⊥) → is_mark b ≡ false → Spoiled m (part ++ b ∷ [])
    other_byte n e = spoil (λ rest. rw (from_other h.last rest b n) (lost m (h.last ++ b ∷ []) rest (no_mark (no_marks_lem h.last b e))))

    marked : (r : Alternatives) → Parted m (part ++ b ∷ []) r → Marked m (part ++ b ∷ []) r
    marked r p = record { some = omega (arith, long part b []); no_dot = not_dot part b [] dot; parted = p }

    -- a bar behind m marks
    pub bar : m ≤ 6 → b ≡ 124 → q.count ≡ m → Marked m (part ++ b ∷ []) (no_marks (joined q))
    unfolding index_of
    bar low e n = marked _ (record {
      done = h.done ++ h.last ∷ [];
      last = [];
      splits = λ rest.
          ap (alternatives_from []) (append_snoc part b rest) ∙ h.splits (b ∷ rest) ∙ ap (λ (z : List (List ℕ)). h.done ++ z) (from_bar h.last rest b e)
          ∙ sym (append_assoc h.done (h.last ∷ []) (alternatives_from [] rest));
      whole = all_whole_lem m h.done h.last h.whole (sym h.count ∙ n) h.marks;
      marks = none-marked;
      few = omega arith;
      set = joined-set m part q h low n;
      count = refl;
      index = refl;
    })

    -- a mark
    pub one-mark-more : (r : Alternatives) → (b ≡ 124 → ⊥) → q.count < m → is_mark b ≡ true → r.set ≡ q.set → r.count ≡ q.count + 1 → r.index ≡ q.index + mark_digit b * 3 ^ q.count
        → Marked m (part ++ b ∷ []) r
    one-mark-more r n low e same count index = marked r (record {
      done = h.done;
      last = h.last ++ b ∷ [];
      splits = λ rest. ap (alternatives_from []) (append_snoc part b rest) ∙ h.splits (b ∷ rest) ∙ ap (λ (z : List (List ℕ)). h.done ++ z) (from_other h.last rest b n);
      whole = h.whole;
      marks = all_more h.last b h.marks e;
      few = omega (arith, h.count, length-append h.last (b ∷ []));
      set = same ∙ h.set;
      count = omega (arith, count, h.count, length-append h.last (b ∷ []));
      index = index ∙ ap₂ (λ (i k : ℕ). i + mark_digit b * 3 ^ k) h.index h.count ∙ sym (index-more h.last b);
    })

-- ---- the first byte, and a dot

pub first_dot : (part : List ℕ) (b : ℕ) → part ≡ [] → b ≡ 46 → part ++ b ∷ [] ≡ 46 ∷ []
first_dot part b e d = rw (e, d) refl

pub past_dot : (m : ℕ) (part : List ℕ) (b : ℕ) → part ≡ 46 ∷ [] → Spoiled m (part ++ b ∷ [])
past_dot m part b e rest = rw (e) (after m b rest)
  where
    after : (m b : ℕ) (rest : List ℕ) → read_line m (46 ∷ b ∷ rest) ≡ malformed
    after m b rest = read_bad m (46 ∷ b ∷ rest) (omega arith) refl (dot_lost m (b ∷ rest))
