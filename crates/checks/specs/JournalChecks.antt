-- The checks of preparation, rounds, closing and a question about a set of outputs, in their order (01, "What is turned down"; 02, W4 and W8): the
-- sheet's own first.
-- Manual: "Refusals".
use Rattle.std.specs.Prelude.{◌≡◌, true, false, List, [], ◌∷◌, ◌++◌, ℕ, ◌<◌, ◌≤◌}
use Rattle.outcomes.specs.Decided.{Check, check}
use Rattle.outcomes.specs.declared.Refusal.TheVariants.{Closed, Full, NoRound, Storage, Record, RoundSet, OutputSet}
use Rattle.sheet.specs.ReadingChecks.{inputs_of, outputs_of}
use Rattle.circular.specs.SheetChecks.{sheet_checks}
use Rattle.record.specs.Record.{max_rounds, record_ok}
use Rattle.record.specs.declared.JournalRecord.{JournalRecord}
use Rattle.completions.specs.Together.{named}
use Rattle.letters.specs.Sets.{bad_set}
use Rattle.pairs.specs.Storage.{storage_words}

-- fewer numbers are lent than the three sets take
abbrev pub too_short : ℕ → Check
too_short lent = check Storage (lent < storage_words)

-- a call on a journal of n outputs that isn't closed: 15, 18, 12
abbrev pub journal_rules : ℕ → ℕ → JournalRecord → List Check
journal_rules n lent r =
    too_short lent
    ∷ (check Record (record_ok n r ≡ false)
    ∷ (check Closed (r.closed ≡ true)
    ∷ []))

-- behind those 21 and 13 for a round, m being the number of inputs
abbrev pub heard_rules : ℕ → JournalRecord → ℕ → List Check
heard_rules m r letters =
    check RoundSet (bad_set m letters ≡ true)
    ∷ (check Full (max_rounds ≤ r.rounds)
    ∷ [])

abbrev pub round_rules : ℕ → ℕ → ℕ → JournalRecord → ℕ → List Check
round_rules m n lent r letters = journal_rules n lent r ++ heard_rules m r letters

-- and 14 for a closing
abbrev pub end_rules : JournalRecord → List Check
end_rules r = check NoRound (r.rounds ≡ 0) ∷ []

abbrev pub closing_rules : ℕ → ℕ → JournalRecord → List Check
closing_rules n lent r = journal_rules n lent r ++ end_rules r

-- the set names an output that isn't below n
abbrev pub names_beyond : ℕ → ℕ → Check
names_beyond n set = check OutputSet ((k : ℕ) × (n ≤ k) × (named set k ≡ true))

-- and 24 and 14 for a question about a set of outputs
abbrev pub named_rules : ℕ → JournalRecord → ℕ → List Check
named_rules n r set = names_beyond n set ∷ end_rules r

abbrev pub together_rules : ℕ → ℕ → JournalRecord → ℕ → List Check
together_rules n lent r set = journal_rules n lent r ++ named_rules n r set

-- preparation: 15 last
abbrev pub prepare_checks : List ℕ → ℕ → List Check
prepare_checks bs lent = sheet_checks bs ++ (too_short lent ∷ [])

abbrev pub round_checks : List ℕ → ℕ → JournalRecord → ℕ → List Check
round_checks bs lent r letters = sheet_checks bs ++ round_rules (inputs_of bs) (outputs_of bs) lent r letters

abbrev pub closing_checks : List ℕ → ℕ → JournalRecord → List Check
closing_checks bs lent r = sheet_checks bs ++ closing_rules (outputs_of bs) lent r

abbrev pub together_checks : List ℕ → ℕ → JournalRecord → ℕ → List Check
together_checks bs lent r set = sheet_checks bs ++ together_rules (outputs_of bs) lent r set
