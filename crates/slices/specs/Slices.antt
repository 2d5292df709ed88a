-- The journal record and the answers as the exported functions take them: slices of 32-bit numbers (docs/LAYOUT.md).
-- Manual: "Calling it".
use Rattle.outcomes.specs.declared.Verdict.{Verdict}
use Rattle.std.specs.Prelude.{Bool, ◌&&◌, List, ◌∷◌, map, ℕ, eqb, leb, length, get_or, drop}
use Rattle.outcomes.specs.Numbers.{verdict_no, verdict_list}
use Rattle.words.specs.Below.{one}
use Rattle.record.specs.declared.JournalRecord.{JournalRecord}

-- a record is 30 numbers: the rounds, 1 if it is closed and 0 if not, then the 28 counts
abbrev pub record_of : List ℕ → JournalRecord
record_of ns = record { rounds = get_or ns 0 0; closed = eqb (get_or ns 1 0) 1; counts = drop 2 ns }

-- the mark for closed is 0 or 1
abbrev pub marked : List ℕ → Bool
marked ns = leb (get_or ns 1 0) 1

abbrev pub numbers_of : JournalRecord → List ℕ
numbers_of r = r.rounds ∷ (one r.closed ∷ r.counts)

-- an answer begins with the numbers of the verdicts on the sheet's n outputs
abbrev pub verdict_numbers : List Verdict → ℕ → List ℕ
verdict_numbers vs n = map verdict_no (verdict_list vs n)

-- the record has 30 numbers, and the answer room for 16
abbrev pub sized : List ℕ → List ℕ → Bool
sized rec ans = eqb (length rec) 30 && leb 16 (length ans)
