-- Laws of the tallies.
use mathlib.Core.Path.{◌≡◌, refl, sym, ap, ◌∙◌, subst}
use mathlib.Core.Bool.{Bool, true, false, ◌&&◌, and-false}
use mathlib.Core.List.{List}
use Prim.Native.Nat.{ℕ, zero, suc, ◌+◌, ◌*◌, ◌/◌, ◌%◌, ◌-◌, ◌<◌, ◌≤◌}
use native.Mathlib.Omega.{arith}
use native.Mathlib.Nat.{div-le_of_le-mul}
use native.Mathlib.Numerals.{add-one}
use native.Mathlib.Decide.{dec_lt, ℕ_discrete}
use lib.Dec.{eqb, leb}
use lib.ListN.{length, get_or, set, length-set}
use lib.Seq.{get_or-set_same, get_or-set_other}
use borrow.Author.Tests.{eq-eqb, ne_eqb, le-leb, lt-leb, lt-ltb, le-ltb, leb-true, eqb-true}
use Rattle.outcomes.specs.Numbers.{told_at}
use Rattle.outcomes.specs.declared.Verdict.{Verdict}
use Rattle.outcomes.specs.declared.Verdict.TheVariants.{False, True, Open, Broken}
use Rattle.words.specs.Below.{one}
use Rattle.words.proofs.Bools.{and_split}
use Rattle.record.specs.Record.{max_rounds, column, count_at, sum_at, add_up, record_ok, same_verdict, Counted, share}
use Rattle.record.specs.declared.JournalRecord.{JournalRecord}

-- ---- rule 18

pub add_up-more : (counts : List ℕ) (t k : ℕ) → sum_at counts k ≡ t → add_up counts t k ≡ true → add_up counts t (k + 1) ≡ true
unfolding add_up
add_up-more counts t k e h = rw (add-one k) (rw (eq-eqb (sum_at counts k) t e) h)

pub add_up-not : (counts : List ℕ) (t k n : ℕ) → k < n → (sum_at counts k ≡ t → ⊥) → add_up counts t n ≡ false
unfolding add_up
add_up-not counts t k zero h e = absurd (omega arith)
add_up-not counts t k (suc n) h e = go (ℕ_discrete k n) (add_up-not counts t k n)
  where
    go : Dec (k ≡ n) → (k < n → (sum_at counts k ≡ t → ⊥) → add_up counts t n ≡ false) → (eqb (sum_at counts n) t && add_up counts t n) ≡ false
    go (yes q) rec = rw (ne_eqb (sum_at counts n) t (λ g. e (ap (sum_at counts) q ∙ g)))
    go (no q) rec = rw (rec (omega arith) e) (and-false (eqb (sum_at counts n) t))

add_up-at : (counts : List ℕ) (t n : ℕ) → add_up counts t n ≡ true → (k : ℕ) → k < n → sum_at counts k ≡ t
unfolding add_up
add_up-at counts t zero e k h = absurd (omega arith)
add_up-at counts t (suc n) e k h = go (ℕ_discrete k n) (add_up-at counts t n (and_split (eqb (sum_at counts n) t) (add_up counts t n) e).1 k)
  where
    go : Dec (k ≡ n) → (k < n → sum_at counts k ≡ t) → sum_at counts k ≡ t
    go (yes q) rec = ap (sum_at counts) q ∙ eqb-true (sum_at counts n) t (and_split (eqb (sum_at counts n) t) (add_up counts t n) e).0
    go (no q) rec = rec (omega arith)

pub too_many : (n : ℕ) (r : JournalRecord) → max_rounds < r.rounds → record_ok n r ≡ false
unfolding record_ok
too_many n r h = rw (lt-leb r.rounds max_rounds h)

pub by_counts : (n : ℕ) (r : JournalRecord) (b : Bool) → r.rounds ≤ max_rounds → add_up r.counts r.rounds n ≡ b → record_ok n r ≡ b
unfolding record_ok
by_counts n r b h e = rw (le-leb r.rounds max_rounds h) e

pub record RecordOk (n : ℕ) (r : JournalRecord) : Type 0 where
  pub few : r.rounds ≤ max_rounds
  pub sums : (k : ℕ) → k < n → sum_at r.counts k ≡ r.rounds

pub record_is : (n : ℕ) (r : JournalRecord) → record_ok n r ≡ true → RecordOk n r
unfolding record_ok
record_is n r e = record {
  few = leb-true r.rounds max_rounds (and_split (leb r.rounds max_rounds) (add_up r.counts r.rounds n) e).0;
  sums = add_up-at r.counts r.rounds n (and_split (leb r.rounds max_rounds) (add_up r.counts r.rounds n) e).1;
}

-- a count is one of its output's four
part_of : (counts : List ℕ) (k j : ℕ) → j < 4 → get_or counts (4 * k + j) 0 ≤ sum_at counts k
part_of counts k zero h = omega arith
part_of counts k (suc zero) h = omega arith
part_of counts k (suc (suc zero)) h = omega arith
part_of counts k (suc (suc (suc zero))) h = omega arith
part_of counts k (suc (suc (suc (suc j)))) h = absurd (omega arith)

-- so it can go up by one
pub countable : (n : ℕ) (r : JournalRecord) → RecordOk n r → r.rounds < max_rounds → (i : ℕ) → i < 4 * n → get_or r.counts i 0 < max_rounds
countable n r ok h i l =
    let e : i ≡ 4 * (i / 4) + (i - 4 * (i / 4)) = omega arith in
    let k : i / 4 < n = omega arith in
    rw e (omega (arith, part_of r.counts (i / 4) (i - 4 * (i / 4)) (omega arith), ok.sums (i / 4) k))

-- ---- counting

pub column_lt : (v : Verdict) → column v < 4
column_lt True = omega arith
column_lt False = omega arith
column_lt Open = omega arith
column_lt Broken = omega arith

-- the first k outputs are counted
pub record CountedTo (k : ℕ) (vs : List Verdict) (old new : List ℕ) : Type 0 where
  pub same_length : length new ≡ length old
  pub each : (j : ℕ) (v : Verdict) → j < k → count_at new j v ≡ one (same_verdict (told_at vs j) v) + count_at old j v
  pub beyond : (i : ℕ) → 4 * k ≤ i → get_or new i 0 ≡ get_or old i 0

pub counted_none : (vs : List Verdict) (old : List ℕ) → CountedTo 0 vs old old
counted_none vs old = record { same_length = refl; each = λ j v h. absurd (omega arith); beyond = λ i h. refl }

module _ (k : ℕ) (vs : List Verdict) (old new : List ℕ) (fits : 4 * k + 4 ≤ length old) (x : CountedTo k vs old new) where
  abbrev col : ℕ
  col = column (told_at vs k)

  abbrev at : ℕ
  at = 4 * k + col

  abbrev after : List ℕ
  after = set new at (get_or new at 0 + 1)

  inside : at < length new
  inside = omega (arith, column_lt (told_at vs k), x.same_length)

  here : (v : Verdict) → Dec (col ≡ column v) → count_at after k v ≡ one (same_verdict (told_at vs k) v) + count_at old k v
  here v (yes e) =
      rw (eq-eqb col (column v) e, ← e)
      (get_or-set_same new at (get_or new at 0 + 1) 0 inside ∙ omega (arith, x.beyond at (omega arith)))
  here v (no n) =
      rw (ne_eqb col (column v) n)
      (get_or-set_other new at (4 * k + column v) (get_or new at 0 + 1) 0 (λ q. n (omega arith)) ∙ x.beyond (4 * k + column v) (omega arith) ∙ omega arith)

  pub counted-more : CountedTo (k + 1) vs old after
  counted-more = record {
    same_length = length-set new at (get_or new at 0 + 1) ∙ x.same_length;
    each = λ j v h. go j v (dec_lt j k) h;
    beyond = λ i h. get_or-set_other new at i (get_or new at 0 + 1) 0 (omega (arith, column_lt (told_at vs k))) ∙ x.beyond i (omega arith);
  }
    where
      go : (j : ℕ) (v : Verdict) → Dec (j < k) → j < k + 1 → count_at after j v ≡ one (same_verdict (told_at vs j) v) + count_at old j v
      go j v (yes q) h = get_or-set_other new at (4 * j + column v) (get_or new at 0 + 1) 0 (omega (arith, column_lt v)) ∙ x.each j v q
      go j v (no q) h =
          let e : j ≡ k = omega arith in
          subst (λ (z : ℕ). count_at after z v ≡ one (same_verdict (told_at vs z) v) + count_at old z v) (sym e) (here v (ℕ_discrete col (column v)))

pub counted-all : (n k : ℕ) (vs : List Verdict) (old new : List ℕ) → k ≡ n → length old ≡ 28 → CountedTo k vs old new → Counted n vs old new
counted-all n k vs old new e l x = record {
  size = x.same_length ∙ l;
  each = λ j v h. x.each j v (omega arith);
  beyond = λ i h. x.beyond i (omega arith);
}

-- ---- the share, by the rest

pub share_down : (trues t : ℕ) → 2 * (1000 * trues % t) < t → share trues t ≡ 1000 * trues / t
unfolding share
share_down trues t h = rw (lt-ltb (2 * (1000 * trues % t)) t h) refl

pub share_up : (trues t : ℕ) → t < 2 * (1000 * trues % t) → share trues t ≡ 1000 * trues / t + 1
unfolding share
share_up trues t h = rw (le-ltb (2 * (1000 * trues % t)) t (omega arith), lt-ltb t (2 * (1000 * trues % t)) h) refl

pub share_half : (trues t : ℕ) → 2 * (1000 * trues % t) ≡ t → share trues t ≡ 1000 * trues / t + 1000 * trues / t % 2
unfolding share
share_half trues t h = rw (le-ltb (2 * (1000 * trues % t)) t (omega arith), le-ltb t (2 * (1000 * trues % t)) (omega arith)) refl

-- and by one test
pub share-more : (trues t : ℕ) → t < 2 * (1000 * trues % t) + 1000 * trues / t % 2 → share trues t ≡ 1000 * trues / t + 1
share-more trues t h = go (dec_lt t (2 * (1000 * trues % t)))
  where
    go : Dec (t < 2 * (1000 * trues % t)) → share trues t ≡ 1000 * trues / t + 1
    go (yes d) = share_up trues t d
    go (no d) = omega (arith, share_half trues t (omega arith))

pub share-same : (trues t : ℕ) → 2 * (1000 * trues % t) + 1000 * trues / t % 2 ≤ t → share trues t ≡ 1000 * trues / t
share-same trues t h = go (dec_lt (2 * (1000 * trues % t)) t)
  where
    go : Dec (2 * (1000 * trues % t) < t) → share trues t ≡ 1000 * trues / t
    go (yes d) = share_down trues t d
    go (no d) = omega (arith, share_half trues t (omega arith))

-- no more than all rounds are true
pub quotient_small : (trues t : ℕ) → trues ≤ t → 1000 * trues / t ≤ 1000
quotient_small trues t h = div-le_of_le-mul t (omega arith)

-- ---- one round more keeps rule 18

counted_once : (u : Verdict) → one (same_verdict u True) + one (same_verdict u False) + one (same_verdict u Open) + one (same_verdict u Broken) ≡ 1
counted_once True = refl
counted_once False = refl
counted_once Open = refl
counted_once Broken = refl

add_up-of : (counts : List ℕ) (t n : ℕ) → ((k : ℕ) → k < n → sum_at counts k ≡ t) → add_up counts t n ≡ true
unfolding add_up
add_up-of counts t zero f = refl
add_up-of counts t (suc n) f = rw (eq-eqb (sum_at counts n) t (f n (omega arith))) (add_up-of counts t n (λ k h. f k (omega arith)))

pub record_more : (n : ℕ) (r q : JournalRecord) (vs : List Verdict) → RecordOk n r → r.rounds < max_rounds
    → q.rounds ≡ r.rounds + 1 → Counted n vs r.counts q.counts → record_ok n q ≡ true
record_more n r q vs ok h e x =
    by_counts n q true (omega arith)
    (add_up-of q.counts q.rounds n
    (λ k l. omega (arith, x.each k True l, x.each k False l, x.each k Open l, x.each k Broken l, counted_once (told_at vs k), ok.sums k l)))
