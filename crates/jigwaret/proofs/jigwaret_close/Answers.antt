-- `jigwaret::jigwaret_close` meets its contract.
use mathlib.Core.Bool.{not}
use mathlib.Core.Path.{◌≡◌, refl, sym, ap, subst}
use native.Mathlib.Omega.{arith}
use lib.ListN.{length}
use lib.Seq.{paste}
use Rattle.outcomes.specs.Numbers.{outcome_no}
use Rattle.sheet.specs.ReadingChecks.{outputs_of}
use Rattle.record.specs.declared.JournalRecord.{JournalRecord}
use Rattle.checks.specs.JournalChecks.{closing_rules}
use Rattle.slices.specs.Slices.{marked, numbers_of, verdict_numbers}
use Rattle.slices.proofs.SliceLaws.{sizes_tested, numbers-size}
use Rattle.monitor.specs.Entries.{CloseCall}
use Rattle.jigwaret.specs.Journal.{slices, ByMark, MarkRefused, ClosingNumbered}
use Rattle.jigwaret.proofs.JournalLaws.{sizes_wrong, sizes-right, written, not_written, number_of, closing-by-mark, front_size, put_behind, sheet-long, few-outputs}
use borrow.Author.Rules.{rules}
use Rattle.jigwaret.proofs.jigwaret_close.Goals as goal

pub returns-then-not-sized : goal.returns-then-not-sized
returns-then-not-sized c =
    let z = slices c.args.record.now c.args.record.now c.args.answer.now c.args.answer.now in
    sizes_wrong (ByMark (marked c.args.record.now) (ClosingNumbered c.args.sheet.now c.args.storage.now z 255) (MarkRefused c.args.sheet.now c.args.storage.now c.args.storage.now z 255))
    c.args.storage.now c.args.record.now c.args.answer.now c.sized.result c.sized.ensures (ap not c.if-not-sized.true)

pub load-before-requires : goal.load-before-requires
load-before-requires c =
    let fits = sizes_tested c.args.record.now c.args.answer.now c.sized.result c.sized.ensures (ap not c.if-not-sized.false) in
    fits.thirty

pub store-requires : goal.store-requires
store-requires c =
    let fits = sizes_tested c.args.record.now c.args.answer.now c.sized.result c.sized.ensures (ap not c.if-not-sized.false) in
    fits.thirty

pub bounds-sheet-6 : goal.bounds-sheet-6
bounds-sheet-6 c =
    let long = sheet-long c.args.sheet.now (closing_rules (outputs_of c.args.sheet.now) (length c.args.storage.now) c.load-before.result) (rw c.in-Ok.is at c.close-a.ensures.decided) in
    omega (arith, long)

pub overflow_cast-n : goal.overflow_cast-n
overflow_cast-n c =
    let few = few-outputs c.args.sheet.now _ (rw c.in-Ok.is at c.close-a.ensures.result) in
    omega (arith, few)

pub put_verdicts-requires : goal.put_verdicts-requires
put_verdicts-requires c =
    let fits = sizes_tested c.args.record.now c.args.answer.now c.sized.result c.sized.ensures (ap not c.if-not-sized.false) in
    let few = few-outputs c.args.sheet.now _ (rw c.in-Ok.is at c.close-a.ensures.result) in
    (omega (arith, few), omega (arith, few, fits.sixteen))

pub slice_bounds-put_numbers-end : goal.slice_bounds-put_numbers-end
slice_bounds-put_numbers-end c =
    let seven-shares : length c.close-a.result.shares ≡ 7 = search rules in
    search (rules, seven-shares)

pub put_numbers-requires : goal.put_numbers-requires
put_numbers-requires c =
    let fits = sizes_tested c.args.record.now c.args.answer.now c.sized.result c.sized.ensures (ap not c.if-not-sized.false) in
    let few = few-outputs c.args.sheet.now _ (rw c.in-Ok.is at c.close-a.ensures.result) in
    let seven-shares : length c.close-a.result.shares ≡ 7 = search rules in
    let n = outputs_of c.args.sheet.now in
    let same = front_size n c.args.answer.now c.put_verdicts.new.into (verdict_numbers c.close-a.result.verdicts n) (omega (arith, few, fits.sixteen)) (omega (arith, numbers-size c.close-a.result.verdicts n (omega (arith, few, (rw c.in-Ok.is at c.close-a.ensures.result).2.verdicts.size)))) c.put_verdicts.ensures in
    (omega (arith, few, seven-shares), omega (arith, few, fits.sixteen, same))

pub returns-in-Err : goal.returns-in-Err
returns-in-Err c =
    let fits = sizes_tested c.args.record.now c.args.answer.now c.sized.result c.sized.ensures (ap not c.if-not-sized.false) in
    let z = slices c.args.record.now c.args.record.now c.args.answer.now c.args.answer.now in
    let n = outputs_of c.args.sheet.now in
    sizes-right (ByMark (marked c.args.record.now) (ClosingNumbered c.args.sheet.now c.args.storage.now z c.from.result) (MarkRefused c.args.sheet.now c.args.storage.now c.args.storage.now z c.from.result)) c.args.storage.now c.args.storage.now z c.from.result fits
    (closing-by-mark c.args.sheet.now c.args.storage.now z c.from.result c.close-a.result
    (subst (λ (q : JournalRecord). CloseCall c.args.sheet.now c.args.storage.now q c.close-a.result) c.load-before.ensures c.close-a.ensures)
    (number_of c.close-a.result.outcome _ c.from.result c.in-Err.is c.from.ensures)
    (not_written (numbers_of c.close-a.result.record) (paste (paste c.args.answer.now 0 (verdict_numbers c.close-a.result.verdicts n) n) n c.close-a.result.shares n) z c.close-a.result.outcome _ c.in-Err.is refl refl))

pub returns-in-Ok : goal.returns-in-Ok
returns-in-Ok c =
    let fits = sizes_tested c.args.record.now c.args.answer.now c.sized.result c.sized.ensures (ap not c.if-not-sized.false) in
    let n = outputs_of c.args.sheet.now in
    let z = slices c.args.record.now c.store.new.ns c.args.answer.now c.put_numbers.new.into in
    sizes-right (ByMark (marked c.args.record.now) (ClosingNumbered c.args.sheet.now c.args.storage.now z 0) (MarkRefused c.args.sheet.now c.args.storage.now c.args.storage.now z 0)) c.args.storage.now c.args.storage.now z 0 fits
    (closing-by-mark c.args.sheet.now c.args.storage.now z 0 c.close-a.result
    (subst (λ (q : JournalRecord). CloseCall c.args.sheet.now c.args.storage.now q c.close-a.result) c.load-before.ensures c.close-a.ensures)
    (sym (ap outcome_no c.in-Ok.is))
    (written (numbers_of c.close-a.result.record) (paste (paste c.args.answer.now 0 (verdict_numbers c.close-a.result.verdicts n) n) n c.close-a.result.shares n) z c.close-a.result.outcome c.in-Ok.is c.store.ensures
    (put_behind n c.args.answer.now c.put_verdicts.new.into c.put_numbers.new.into (verdict_numbers c.close-a.result.verdicts n) c.close-a.result.shares c.put_verdicts.ensures c.put_numbers.ensures)))
