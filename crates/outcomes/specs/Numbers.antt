-- The numbers of the refusals and the verdicts (01, "What is turned down", the table; "Completions and verdicts"; 02, W4 and W8).
-- Manual: "Refusals".
use Rattle.std.specs.Prelude.{◌≡◌, List, ℕ, ◌<◌, ◌≤◌, length, get_or, take, Ok, Err}
use Rattle.outcomes.specs.declared.Refusal.{Refusal}
use Rattle.outcomes.specs.declared.Refusal.TheVariants.{Short, Mark, Version, Counts, Assumption, Length, Byte, Values, Leftover, Circular, Letter, Closed, Full, NoRound, Storage, Extent, Line, Record, RoundSet, OutputSet}
use Rattle.outcomes.specs.Outcome.{Outcome}
use Rattle.outcomes.specs.declared.Verdict.{Verdict}
use Rattle.outcomes.specs.declared.Verdict.TheVariants.{False, True, Open, Broken}

-- The number of each rule, with what breaks it.
abbrev pub refusal_no : Refusal → ℕ
-- the sheet has fewer than 8 bytes
refusal_no Short = 1
-- bytes 0 to 2 are not the mark
refusal_no Mark = 2
-- the version is neither 1 nor 2
refusal_no Version = 3
-- m, n or m + n is out of range
refusal_no Counts = 4
-- the assumption is neither an output number nor 255
refusal_no Assumption = 5
-- an output's length is missing, 0, over 64, or goes past the end
refusal_no Length = 6
-- a byte is unknown, or its stream isn't one of the sheet's
refusal_no Byte = 7
-- an operator lacks a value, or an expression's end doesn't leave one value
refusal_no Values = 8
-- bytes are left over
refusal_no Leftover = 9
-- some value of some trace hangs on itself
refusal_no Circular = 10
-- a known bit or a letter lies beyond m, or a value bit isn't known
refusal_no Letter = 11
-- the journal is closed
refusal_no Closed = 12
-- the journal holds 1,000,000 rounds
refusal_no Full = 13
-- a closing, or a question about the last round, with no round
refusal_no NoRound = 14
-- the storage is under 3,084 numbers
refusal_no Storage = 15
-- N is 0 or over 4,096, or the buffer is under N
refusal_no Extent = 16
-- a line of the program's input is malformed
refusal_no Line = 17
-- the record's rounds are over 1,000,000, or an output's counts don't add up to them
refusal_no Record = 18
-- a round's set of letters is empty or has a letter beyond m
refusal_no RoundSet = 21
-- a set of outputs names one that the sheet doesn't have
refusal_no OutputSet = 24

-- An outcome as one number: 0 for accepted.
abbrev pub outcome_no : Outcome → ℕ
outcome_no (Ok _) = 0
outcome_no (Err r) = refusal_no r

-- The number of each verdict.
abbrev pub verdict_no : Verdict → ℕ
verdict_no False = 0
verdict_no True = 1
verdict_no Open = 2
verdict_no Broken = 3

-- what an answer holds for an output that the sheet doesn't have, and for every output where the call is refused
abbrev pub untold : Verdict
untold = False

-- the verdict that an answer holds for output k, and those for the first n outputs
abbrev pub told_at : List Verdict → ℕ → Verdict
told_at vs k = get_or vs k untold

abbrev pub verdict_list : List Verdict → ℕ → List Verdict
verdict_list vs n = take n vs

-- the verdicts on n outputs in an answer of seven
pub record Verdicts (n : ℕ) (f : ℕ → Verdict) (vs : List Verdict) : Type 0 where
  pub size : length vs ≡ 7
  pub each : (k : ℕ) → k < n → told_at vs k ≡ f k
  pub beyond : (k : ℕ) → n ≤ k → told_at vs k ≡ False
