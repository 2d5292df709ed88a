-- Numbers put into a slice, a record taken out of one, and the sizes of a call's slices.
use Rattle.outcomes.specs.declared.Verdict.{Verdict}
use mathlib.Core.Path.{◌≡◌, refl, sym, ap, ◌∙◌}
use mathlib.Core.Bool.{Bool, true, false, not}
use mathlib.Core.List.{List, [], ◌∷◌, append-nil}
use Prim.Native.Nat.{ℕ, ◌+◌, ◌≤◌, ◌<◌}
use native.Mathlib.Omega.{arith}
use native.Mathlib.Numerals.{add-one}
use lib.Dec.{eqb, leb, ltb}
use lib.ListN.{length, get_or, set, take, drop, length-set, length-drop, length-map, get_or-map}
use lib.Seq.{get_or-take, paste, paste-zero, paste-suc, get_or-drop, ext_get_or, take_all, drop-length}
use borrow.Author.Tests.{not-false, eqb-true, leb-true, leb-false, eq-eqb, le-leb, lt-ltb, le-ltb}
use Rattle.outcomes.specs.Numbers.{untold, told_at, verdict_no, verdict_list}
use Rattle.outcomes.specs.declared.Verdict.TheVariants.{False}
use Rattle.outcomes.proofs.NumberLaws.{told-size}
use Rattle.words.proofs.Bools.{and_split}
use Rattle.words.proofs.ListLaws.{set_more}
use Rattle.record.specs.Record.{record_ok}
use Rattle.record.proofs.Tallies.{too_many}
use Rattle.slices.specs.Slices.{record_of, marked, verdict_numbers, sized}
use Rattle.slices.specs.Loaded.{loaded}

-- the first k of xs stand in `new` from a place on
pub record PutTo (k at : ℕ) (xs old new : List ℕ) : Type 0 where
  pub same_length : length new ≡ length old
  pub same : new ≡ paste old at xs k

pub put-none : (at : ℕ) (xs old : List ℕ) → PutTo 0 at xs old old
put-none at xs old = record { same_length = refl; same = paste-zero old at xs }

pub put-more : (k at : ℕ) (xs old new : List ℕ) (v : ℕ) → at + k < length old → k < length xs → v ≡ get_or xs k 0 → PutTo k at xs old new → PutTo (k + 1) at xs old (set new (at + k) v)
put-more k at xs old new v h l e p = record {
  same_length = length-set new (at + k) v ∙ p.same_length;
  same = rw (e, p.same, add-one) (paste-suc old at xs k 0 h l);
}

-- the numbers of verdicts, one after the other
pub numbers-size : (vs : List Verdict) (n : ℕ) → n ≤ length vs → length (verdict_numbers vs n) ≡ n
numbers-size vs n h = length-map (verdict_list vs n) verdict_no ∙ told-size vs n h

pub numbers-at : (vs : List Verdict) (n k : ℕ) → k < n → get_or (verdict_numbers vs n) k 0 ≡ verdict_no (told_at vs k)
numbers-at vs n k h =
    get_or-map verdict_no (verdict_list vs n) k False
    ∙ ap verdict_no (get_or-take n vs k untold h)

-- the first k counts are those of the slice
pub record TakenTo (k : ℕ) (ns counts : List ℕ) : Type 0 where
  pub size : length counts ≡ 28
  pub each : (i : ℕ) → i < k → get_or counts i 0 ≡ get_or ns (i + 2) 0

pub taken_more : (k : ℕ) (ns counts : List ℕ) → k < 28 → TakenTo k ns counts → TakenTo (k + 1) ns (set counts k (get_or ns (k + 2) 0))
taken_more k ns counts h t = record {
  size = length-set counts k (get_or ns (k + 2) 0) ∙ t.size;
  each = set_more (λ i v. v ≡ get_or ns (i + 2) 0) counts k (get_or ns (k + 2) 0) (omega (arith, t.size)) refl t.each;
}

pub taken-all : (ns counts : List ℕ) → length ns ≡ 30 → TakenTo 28 ns counts → counts ≡ drop 2 ns
taken-all ns counts e t =
    ext_get_or 0 counts (drop 2 ns) (t.size ∙ sym (length-drop 2 ns ∙ omega (arith, e)))
    (λ i h. t.each i (omega (arith, t.size)) ∙ sym (get_or-drop 2 ns i 0 ∙ ap (λ (z : ℕ). get_or ns z 0) (omega arith)))

-- 28 numbers behind the first two of 30
two_set : (a b : ℕ) (ns : List ℕ) → 2 ≤ length ns → take 2 (set (set ns 0 a) 1 b) ≡ a ∷ (b ∷ [])
two_set a b [] h = absurd (omega arith)
two_set a b (x ∷ []) h = absurd (omega arith)
two_set a b (x ∷ (y ∷ ns)) h = refl

none_left : (k : ℕ) (ns : List ℕ) → length ns ≡ k → drop k ns ≡ []
none_left k ns e = rw (sym e) (drop-length ns)

pub stored-numbers : (a b : ℕ) (ns counts new : List ℕ) → length ns ≡ 30 → length counts ≡ 28 → new ≡ paste (set (set ns 0 a) 1 b) 2 counts 28 → new ≡ a ∷ (b ∷ counts)
stored-numbers a b ns counts new e f p =
    let g : length (set (set ns 0 a) 1 b) ≡ 30 = length-set (set ns 0 a) 1 b ∙ length-set ns 0 a ∙ e in
    p ∙ rw (two_set a b ns (omega (arith, e)), take_all 28 counts (omega (arith, f)), none_left 30 (set (set ns 0 a) 1 b) g) (ap (λ (z : List ℕ). a ∷ (b ∷ z)) (append-nil counts))

-- one number in front, and two
pub set-one : (ns : List ℕ) (a : ℕ) → 1 ≤ length ns → set ns 0 a ≡ paste ns 0 (a ∷ []) 1
set-one [] a h = absurd (omega arith)
set-one (x ∷ ns) a h = refl

pub set_two : (ns : List ℕ) (a b : ℕ) → 2 ≤ length ns → set (set ns 0 a) 1 b ≡ paste ns 0 (a ∷ b ∷ []) 2
set_two [] a b h = absurd (omega arith)
set_two (x ∷ []) a b h = absurd (omega arith)
set_two (x ∷ (y ∷ ns)) a b h = refl

-- ---- the mark for closed

pub loaded-right : (ns : List ℕ) → marked ns ≡ true → loaded ns ≡ record_of ns
loaded-right ns e = let f : ltb 1 (get_or ns 1 0) ≡ false = le-ltb 1 (get_or ns 1 0) (leb-true (get_or ns 1 0) 1 e) in rw f

pub loaded_wrong : (n : ℕ) (ns : List ℕ) → marked ns ≡ false → record_ok n (loaded ns) ≡ false
loaded_wrong n ns e =
    let f : ltb 1 (get_or ns 1 0) ≡ true = lt-ltb 1 (get_or ns 1 0) (leb-false (get_or ns 1 0) 1 e) in
    too_many n (loaded ns) (rw f (omega arith))

-- ---- sizes

-- the record's slice has 30 numbers, and the answer's room for 16
pub record Sizes (rec ans : List ℕ) : Type 0 where
  pub thirty : length rec ≡ 30
  pub sixteen : 16 ≤ length ans

pub right-sizes : (rec ans : List ℕ) → length rec ≡ 30 → 16 ≤ length ans → sized rec ans ≡ true
right-sizes rec ans e h = simp (eq-eqb (length rec) 30 e, le-leb 16 (length ans) h)

-- what a test of the sizes that did not fail says
pub sizes_tested : (rec ans : List ℕ) (r : Bool) → r ≡ sized rec ans → not r ≡ false → Sizes rec ans
sizes_tested rec ans r e h =
    let both : sized rec ans ≡ true = sym e ∙ not-false r h in
    record {
      thirty = eqb-true (length rec) 30 (and_split (eqb (length rec) 30) (leb 16 (length ans)) both).0;
      sixteen = leb-true 16 (length ans) (and_split (eqb (length rec) 30) (leb 16 (length ans)) both).1;
    }
