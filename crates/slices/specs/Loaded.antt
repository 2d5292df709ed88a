-- For the contracts of inner functions: the record as the code takes it out of its numbers. A mark that is neither 0 nor 1 makes the rounds too
-- many, so that rule 18 is broken.
use Rattle.std.specs.Prelude.{cond, List, ℕ, ◌+◌, eqb, ltb, get_or, drop}
use Rattle.record.specs.Record.{max_rounds}
use Rattle.record.specs.declared.JournalRecord.{JournalRecord}

abbrev pub rounds_by : ℕ → ℕ → ℕ
rounds_by mark rounds = cond (ltb 1 mark) (max_rounds + 1) rounds

abbrev pub loaded : List ℕ → JournalRecord
loaded ns = record { rounds = rounds_by (get_or ns 1 0) (get_or ns 0 0); closed = eqb (get_or ns 1 0) 1; counts = drop 2 ns }
