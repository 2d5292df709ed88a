-- The journal record and its tallies (01, "Completions and verdicts", "Tallies", rule 18).
-- Manual: "Tallies".
use Rattle.std.specs.Prelude.{◌≡◌, Bool, true, false, cond, ◌&&◌, List, ℕ, zero, suc, ◌+◌, ◌*◌, ◌/◌, ◌%◌, ◌<◌, ◌≤◌, eqb, leb, ltb, length, get_or, replicate}
use Rattle.outcomes.specs.Numbers.{told_at}
use Rattle.outcomes.specs.declared.Verdict.{Verdict}
use Rattle.outcomes.specs.declared.Verdict.TheVariants.{False, True, Open, Broken}
use Rattle.words.specs.Below.{one}
use Rattle.record.specs.declared.JournalRecord.{JournalRecord}

-- a journal holds at most so many rounds
abbrev pub max_rounds : ℕ
max_rounds = 1000000

-- rounds 0, not closed, all tallies 0
pub record Fresh (r : JournalRecord) : Type 0 where
  pub rounds : r.rounds ≡ 0
  pub closed : r.closed ≡ false
  pub counts : r.counts ≡ replicate 28 0

-- the place of a verdict among an output's four counts: true, false, open, broken
abbrev pub column : Verdict → ℕ
column True = 0
column False = 1
column Open = 2
column Broken = 3

-- the count of the verdict v on output k
abbrev pub count_at : List ℕ → ℕ → Verdict → ℕ
count_at counts k v = get_or counts (4 * k + column v) 0

-- the four counts of output k, added up
abbrev pub sum_at : List ℕ → ℕ → ℕ
sum_at counts k = count_at counts k True + count_at counts k False + count_at counts k Open + count_at counts k Broken

-- the counts of the outputs below n add up to t
unfoldable pub add_up : List ℕ → ℕ → ℕ → Bool
add_up counts t zero = true
add_up counts t (suc n) = eqb (sum_at counts n) t && add_up counts t n

-- at most 1,000,000 rounds, and the counts of each output below n add up to them: rule 18 is broken if not
unfoldable pub record_ok : ℕ → JournalRecord → Bool
record_ok n r = leb r.rounds max_rounds && add_up r.counts r.rounds n

-- q or the number after it, whichever is nearer to q + r / t; where r is half of t, the even one (02, W7)
abbrev pub nearest : ℕ → ℕ → ℕ → ℕ
nearest q r t = cond (ltb (2 * r) t) q (cond (ltb t (2 * r)) (q + 1) (q + q % 2))

-- true rounds per thousand of t, to the nearest, halves to the even number (02, W7)
unfoldable pub share : ℕ → ℕ → ℕ
share trues t = nearest (1000 * trues / t) (1000 * trues % t) t

-- the two are one verdict: they have one place
abbrev pub same_verdict : Verdict → Verdict → Bool
same_verdict u v = eqb (column u) (column v)

-- one round more: for each of the n outputs one count goes up by one, that of its verdict
pub record Counted (n : ℕ) (verdicts : List Verdict) (old new : List ℕ) : Type 0 where
  pub size : length new ≡ 28
  pub each : (k : ℕ) (v : Verdict) → k < n → count_at new k v ≡ one (same_verdict (told_at verdicts k) v) + count_at old k v
  pub beyond : (i : ℕ) → 4 * n ≤ i → get_or new i 0 ≡ get_or old i 0
