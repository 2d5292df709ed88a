-- `circular::accept_sheet` meets its contract.
use Rattle.std.proofs.Common.{sym}
use Rattle.sheet.specs.Reading.{rule_sheet}
use Rattle.sheet.proofs.Sheets.{usable}
use Rattle.circular.specs.Circular.{CircularSheet}
use Rattle.circular.proofs.Decided.{unread, round, level}
use Rattle.circular.proofs.Masks.{sheet-circular, circular-sheet}
use Rattle.circular.proofs.accept_sheet.Goals as goal

pub circular-circular-requires : goal.circular-circular-requires
circular-circular-requires c =
    let x = c.in-Ok.sheet in
    (x.ranges.inputs, x.ranges.outputs)

pub returns-then-not-level-clause-decided : goal.returns-then-not-level-clause-decided
returns-then-not-level-clause-decided c =
    let x = c.in-Ok.sheet in
    round _ (rule_sheet x) (sym (rw c.in-Ok.is at c.read_sheet-read.ensures)) (sheet-circular x _ c.all_reads-words.ensures (c.circular-circular.ensures.yes c.if-not-level.true))

pub returns-else-not-level : goal.returns-else-not-level
returns-else-not-level c =
    let x = c.in-Ok.sheet in
    let e = sym (rw c.in-Ok.is at c.read_sheet-read.ensures) in
    let n : CircularSheet (rule_sheet x) → ⊥ = λ k. c.circular-circular.ensures.no c.if-not-level.false (circular-sheet x _ c.all_reads-words.ensures k) in
    let d = level _ (rule_sheet x) e n in
    rw c.in-Ok.is (record { decided = d; sheet = record { decided = d; reads = e; usable = usable x; level = n } })

pub returns-in_default : goal.returns-in_default
returns-in_default c = rw c.in_default.is (record { decided = unread _ _ (sym (rw c.in_default.is at c.read_sheet-read.ensures)); sheet = tt })
