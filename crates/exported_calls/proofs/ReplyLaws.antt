-- What a call leaves in its slices: verdicts, shares and the record as numbers.
use Rattle.outcomes.specs.declared.Verdict.{Verdict}
use mathlib.Core.Path.{◌≡◌, refl, sym, ap, ◌∙◌}
use mathlib.Core.Bool.{Bool, true, false}
use mathlib.Core.List.{List, ◌++◌, map, append_assoc}
use Prim.Native.Nat.{ℕ, ◌+◌, ◌≤◌}
use native.Mathlib.Omega.{arith}
use native.Mathlib.Nat.{zero-add}
use lib.Dec.{leb}
use lib.ListN.{length, take, drop}
use lib.Seq.{paste, length-paste, take-paste, drop-paste, take_at, drop_at, take_all, drop-drop, length-take-le}
use Rattle.outcomes.specs.Numbers.{outcome_no, verdict_no, verdict_list}
use Rattle.outcomes.specs.Outcome.{Outcome, unbroken}
use Rattle.std.specs.Prelude.{Ok, Err}
use Rattle.outcomes.proofs.NumberLaws.{refusal_range}
use Rattle.words.specs.Below.{one}
use Rattle.record.specs.declared.JournalRecord.{JournalRecord}
use Rattle.slices.specs.Slices.{record_of, marked, numbers_of, verdict_numbers}
use Rattle.slices.proofs.SliceLaws.{numbers-size}

-- ---- numbers of outcomes

pub zero-accepted : (o : Outcome) → 0 ≡ outcome_no o → o ≡ unbroken
zero-accepted (Ok _) e = refl
zero-accepted (Err r) e = absurd (omega (arith, (refusal_range r).0))

-- ---- a record out of its own numbers

pub record_back : (r : JournalRecord) → record_of (numbers_of r) ≡ r
record_back r = go r.closed refl
  where
    go : (b : Bool) → r.closed ≡ b → record_of (numbers_of r) ≡ r
    go true e = rw e
    go false e = rw e

-- its mark is 0 or 1
pub mark_right : (r : JournalRecord) → marked (numbers_of r) ≡ true
mark_right r = go r.closed
  where
    go : (b : Bool) → leb (one b) 1 ≡ true
    go true = refl
    go false = refl

-- ---- verdicts as numbers

pub numbers-all : (vs : List Verdict) (n : ℕ) → n ≤ length vs → take n (verdict_numbers vs n) ≡ map verdict_no (verdict_list vs n)
numbers-all vs n h = take_all n (verdict_numbers vs n) (omega (arith, numbers-size vs n h))

-- ---- n numbers at the front, and n behind them

module _ (n : ℕ) (ans vs : List ℕ) (room : n + n ≤ length ans) (many : n ≤ length vs) where
  abbrev front : List ℕ
  front = paste ans 0 vs n

  front_length : length front ≡ length ans
  front_length = length-paste ans 0 vs n (omega arith) many

  pub front-first : take n front ≡ take n vs
  front-first = rw zero-add (rw zero-add at (take-paste ans 0 vs n (omega arith) many))

  pub front_rest : drop n front ≡ drop n ans
  front_rest = rw zero-add (rw zero-add at (drop-paste ans 0 vs n (omega arith) many))

  module _ (xs : List ℕ) (enough : n ≤ length xs) where
    abbrev both : List ℕ
    both = paste front n xs n

    size : length (take n front) ≡ n
    size = length-take-le n front (omega (arith, front_length))

    split : both ≡ take n front ++ (take n xs ++ drop (n + n) front)
    split = append_assoc (take n front) (take n xs) (drop (n + n) front)

    pub both_first : take n both ≡ take n vs
    both_first = ap (take n) split ∙ take_at (take n front) (take n xs ++ drop (n + n) front) n size ∙ front-first

    pub both-second : take n (drop n both) ≡ take n xs
    both-second =
        ap (λ (l : List ℕ). take n (drop n l)) split
        ∙ ap (take n) (drop_at (take n front) (take n xs ++ drop (n + n) front) n size)
        ∙ take_at (take n xs) (drop (n + n) front) n (length-take-le n xs enough)

    pub both_rest : drop (n + n) both ≡ drop (n + n) ans
    both_rest =
        drop-paste front n xs n (omega (arith, front_length)) enough ∙ sym (drop-drop n n front) ∙ ap (drop n) front_rest ∙ drop-drop n n ans
