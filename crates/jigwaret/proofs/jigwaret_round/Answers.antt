-- `jigwaret::jigwaret_round` meets its contract.
use mathlib.Core.Bool.{not}
use mathlib.Core.Path.{refl, sym, ap, subst}
use native.Mathlib.Omega.{arith}
use lib.ListN.{length}
use lib.Seq.{paste}
use Rattle.outcomes.specs.Numbers.{outcome_no}
use Rattle.sheet.specs.ReadingChecks.{inputs_of, outputs_of}
use Rattle.record.specs.declared.JournalRecord.{JournalRecord}
use Rattle.checks.specs.JournalChecks.{round_rules}
use Rattle.slices.specs.Slices.{marked, numbers_of, verdict_numbers}
use Rattle.slices.proofs.SliceLaws.{sizes_tested}
use Rattle.monitor.specs.Entries.{RoundCall}
use Rattle.jigwaret.specs.Journal.{slices, ByMark, MarkRefused, RoundNumbered}
use Rattle.jigwaret.proofs.JournalLaws.{sizes_wrong, sizes-right, written, not_written, number_of, round-by-mark, sheet-long, few-outputs}
use Rattle.jigwaret.proofs.jigwaret_round.Goals as goal

pub returns-then-not-sized : goal.returns-then-not-sized
returns-then-not-sized c =
    let z = slices c.args.record.now c.args.record.now c.args.answer.now c.args.answer.now in
    sizes_wrong (ByMark (marked c.args.record.now) (RoundNumbered c.args.sheet.now c.args.storage.now c.args.storage.now c.args.letters z 255) (MarkRefused c.args.sheet.now c.args.storage.now c.args.storage.now z 255))
    c.args.storage.now c.args.record.now c.args.answer.now c.sized.result c.sized.ensures (ap not c.if-not-sized.true)

pub load-before-requires : goal.load-before-requires
load-before-requires c =
    let fits = sizes_tested c.args.record.now c.args.answer.now c.sized.result c.sized.ensures (ap not c.if-not-sized.false) in
    fits.thirty

pub store-requires : goal.store-requires
store-requires c =
    let fits = sizes_tested c.args.record.now c.args.answer.now c.sized.result c.sized.ensures (ap not c.if-not-sized.false) in
    fits.thirty

pub bounds-sheet-6 : goal.bounds-sheet-6
bounds-sheet-6 c =
    let long = sheet-long c.args.sheet.now (round_rules (inputs_of c.args.sheet.now) (outputs_of c.args.sheet.now) (length c.args.storage.now) c.load-before.result c.args.letters) (rw c.in-Ok.is at c.round-a.ensures.decided) in
    omega (arith, long)

pub overflow_cast-sheet : goal.overflow_cast-sheet
overflow_cast-sheet c =
    let few = few-outputs c.args.sheet.now _ (rw c.in-Ok.is at c.round-a.ensures.result) in
    omega (arith, few)

pub put_verdicts-requires : goal.put_verdicts-requires
put_verdicts-requires c =
    let fits = sizes_tested c.args.record.now c.args.answer.now c.sized.result c.sized.ensures (ap not c.if-not-sized.false) in
    let few = few-outputs c.args.sheet.now _ (rw c.in-Ok.is at c.round-a.ensures.result) in
    (omega (arith, few), omega (arith, few, fits.sixteen))

pub returns-in-Err : goal.returns-in-Err
returns-in-Err c =
    let fits = sizes_tested c.args.record.now c.args.answer.now c.sized.result c.sized.ensures (ap not c.if-not-sized.false) in
    let z = slices c.args.record.now c.args.record.now c.args.answer.now c.args.answer.now in
    sizes-right (ByMark (marked c.args.record.now) (RoundNumbered c.args.sheet.now c.args.storage.now c.round-a.new.storage c.args.letters z c.from.result) (MarkRefused c.args.sheet.now c.args.storage.now c.round-a.new.storage z c.from.result)) c.args.storage.now c.round-a.new.storage z c.from.result fits
    (round-by-mark c.args.sheet.now c.args.storage.now c.round-a.new.storage z c.from.result c.args.letters c.round-a.result
    (subst (λ (q : JournalRecord). RoundCall c.args.sheet.now c.args.storage.now c.round-a.new.storage q c.args.letters c.round-a.result) c.load-before.ensures c.round-a.ensures)
    (number_of c.round-a.result.outcome _ c.from.result c.in-Err.is c.from.ensures)
    (not_written (numbers_of c.round-a.result.record) (paste c.args.answer.now 0 (verdict_numbers c.round-a.result.verdicts (outputs_of c.args.sheet.now)) (outputs_of c.args.sheet.now)) z c.round-a.result.outcome _ c.in-Err.is refl refl))

pub returns-in-Ok : goal.returns-in-Ok
returns-in-Ok c =
    let fits = sizes_tested c.args.record.now c.args.answer.now c.sized.result c.sized.ensures (ap not c.if-not-sized.false) in
    let z = slices c.args.record.now c.store.new.ns c.args.answer.now c.put_verdicts.new.into in
    sizes-right (ByMark (marked c.args.record.now) (RoundNumbered c.args.sheet.now c.args.storage.now c.round-a.new.storage c.args.letters z 0) (MarkRefused c.args.sheet.now c.args.storage.now c.round-a.new.storage z 0)) c.args.storage.now c.round-a.new.storage z 0 fits
    (round-by-mark c.args.sheet.now c.args.storage.now c.round-a.new.storage z 0 c.args.letters c.round-a.result
    (subst (λ (q : JournalRecord). RoundCall c.args.sheet.now c.args.storage.now c.round-a.new.storage q c.args.letters c.round-a.result) c.load-before.ensures c.round-a.ensures)
    (sym (ap outcome_no c.in-Ok.is))
    (written (numbers_of c.round-a.result.record) (paste c.args.answer.now 0 (verdict_numbers c.round-a.result.verdicts (outputs_of c.args.sheet.now)) (outputs_of c.args.sheet.now)) z c.round-a.result.outcome c.in-Ok.is c.store.ensures c.put_verdicts.ensures))
