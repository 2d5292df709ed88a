-- What a line stands for, by what was kept of it.
use mathlib.Core.Path.{◌≡◌, refl, sym, ap, ap₂, ◌∙◌}
use mathlib.Core.Bool.{Bool, true, false, cond, ◌&&◌, true≢false}
use mathlib.Core.List.{List, [], ◌∷◌, ◌++◌, append-nil}
use Prim.Native.Nat.{ℕ, ◌^◌, ◌≤◌, ◌<◌}
use native.Mathlib.Omega.{arith}
use lib.ListN.{length}
use borrow.Author.Tests.{ne_eqb, lt-ltb}
use Rattle.words.specs.Bits.{bit, from_bits}
use Rattle.words.proofs.BitLaws.{bit-none}
use Rattle.words.proofs.FromBits.{from-bit, from_lt}
use Rattle.letters.specs.Sets.{bad_set}
use Rattle.letters.proofs.SetLaws.{bad_within}
use Rattle.claims.specs.Book.{round, closing}
use Rattle.line_scan.specs.Lines.{alternatives_from, alternatives, all_whole, fits_one, line_set, is_dot, blank, calls, malformed, read_line}
use Rattle.line_scan.specs.Scan.{joined, Parted, Marked, Spoiled, Scanned}
use Rattle.line_scan.specs.declared.Pending.{Pending}
use Rattle.line_scan.specs.declared.Pending.TheVariants.{Blank, Marks, Dot, Malformed}
use Rattle.line_scan.specs.declared.kept.Alternatives.{Alternatives}
use Rattle.line_scan.proofs.Fitting.{some_alternative, some-letter}
use Rattle.line_scan.proofs.Scanning.{read_bad, bad_behind, all_whole_lem, joined-set}

pub round_line : (m : ℕ) (l : List ℕ) → 0 < length l → is_dot l ≡ false → all_whole m (alternatives l) ≡ true → read_line m l ≡ calls (round (line_set m l))
unfolding read_line
round_line m [] h d e = absurd (omega arith)
round_line m (b ∷ bs) h d e = simp (d, e)

from-none : (p : List ℕ) → alternatives_from p [] ≡ p ∷ []
unfolding alternatives_from
from-none p = refl

module _ (m : ℕ) (part : List ℕ) (q : Alternatives) (h : Marked m part q) where
  abbrev p : Parted m part q
  p = h.parted

  parts : alternatives part ≡ p.done ++ p.last ∷ []
  parts = ap alternatives (sym (append-nil part)) ∙ p.splits [] ∙ ap (λ (z : List (List ℕ)). p.done ++ z) (from-none p.last)

  pub marked-some : part ≡ [] → ⊥
  marked-some e = let z : length part ≡ 0 = ap length e in omega (arith, h.some)

  -- a line that ends with a whole alternative, and its set
  pub marked-round : m ≤ 6 → q.count ≡ m → read_line m part ≡ calls (round (joined q))
  unfolding line_set
  marked-round low e =
      let whole : all_whole m (alternatives part) ≡ true = rw parts (all_whole_lem m p.done p.last p.whole (sym p.count ∙ e) p.marks) in
      let set : line_set m part ≡ joined q = ap (λ (z : List (List ℕ)). from_bits (2 ^ m) (fits_one z)) parts ∙ sym (joined-set m part q p low e) in
      round_line m part h.some h.no_dot whole ∙ ap (λ (z : ℕ). calls (round z)) set

  -- too few marks behind the last bar
  pub marked-short : (q.count ≡ m → ⊥) → read_line m part ≡ malformed
  unfolding all_whole
  marked-short n =
      let short : all_whole m (p.last ∷ []) ≡ false = rw (ne_eqb (length p.last) m (λ z. n (p.count ∙ z))) refl in
      read_bad m part h.some h.no_dot (rw parts (bad_behind m p.done (p.last ∷ []) short))

module _ (m : ℕ) (part : List ℕ) where
  pub dot-closing : part ≡ 46 ∷ [] → read_line m part ≡ calls closing
  unfolding read_line
  dot-closing h = rw h refl

  pub spoiled-malformed : Spoiled m part → read_line m part ≡ malformed
  spoiled-malformed h = rw append-nil at (h [])

  pub empty-blank : part ≡ [] → read_line m part ≡ blank
  unfolding read_line
  empty-blank h = rw h refl

  pub dot-some : part ≡ 46 ∷ [] → part ≡ [] → ⊥
  dot-some h e = let z : ◌≡◌ {A = ℕ} 0 1 = ap length (sym e ∙ h) in omega arith

  pub spoiled-some : Spoiled m part → part ≡ [] → ⊥
  unfolding read_line
  spoiled-some h e = let z : blank ≡ malformed = rw e at (h []) in true≢false cc

-- what is not blank has a byte
pub some_byte : (m : ℕ) (part : List ℕ) (p : Pending) → (p ≡ Blank → ⊥) → Scanned m part p → part ≡ [] → ⊥
some_byte m part Blank n h = absurd (n refl)
some_byte m part (Marks q) n h = marked-some m part q h
some_byte m part Dot n h = dot-some m part h
some_byte m part Malformed n h = spoiled-some m part h

-- ---- no line stands for a set that rule 21 refuses

-- one that has a letter, and only letters of m inputs
pub bits_good : (m : ℕ) (f : ℕ → Bool) (l : ℕ) → l < 2 ^ m → f l ≡ true → bad_set m (from_bits (2 ^ m) f) ≡ false
bits_good m f l h e =
    let there : bit l (from_bits (2 ^ m) f) ≡ true = from-bit (2 ^ m) f l ∙ ap₂ ◌&&◌ (lt-ltb l (2 ^ m) h) e in
    bad_within m (from_bits (2 ^ m) f) (λ z. true≢false (sym there ∙ ap (bit l) z ∙ bit-none l)) (from_lt (2 ^ m) f)

line_set_good : (m : ℕ) (l : List ℕ) → all_whole m (alternatives l) ≡ true → bad_set m (line_set m l) ≡ false
unfolding line_set
line_set_good m l e =
    let some = some-letter m (alternatives l) (some_alternative [] l) e in
    bits_good m (fits_one (alternatives l)) some.0 some.1 some.2

pub good_line : (m : ℕ) (l : List ℕ) (w : ℕ) → read_line m l ≡ calls (round w) → bad_set m w ≡ false
unfolding read_line
good_line m [] w e = absurd (true≢false cc)
good_line m (b ∷ bs) w e = go (is_dot (b ∷ bs)) (all_whole m (alternatives (b ∷ bs))) refl e
  where
    go : (d a : Bool) → all_whole m (alternatives (b ∷ bs)) ≡ a
        → cond d (calls closing) (cond a (calls (round (line_set m (b ∷ bs)))) malformed) ≡ calls (round w) → bad_set m w ≡ false
    go true a h e = absurd (true≢false cc)
    go false false h e = absurd (true≢false cc)
    go false true h e = let z : line_set m (b ∷ bs) ≡ w = cc in rw (← z) (line_set_good m (b ∷ bs) h)
