-- `jigwaret::jigwaret_together` meets its contract.
use mathlib.Core.Bool.{not}
use mathlib.Core.Path.{refl, sym, ap, subst, ◌∙◌}
use mathlib.Core.List.{[], ◌∷◌}
use Prim.Native.Nat.{ℕ}
use native.Mathlib.Omega.{arith}
use lib.ListN.{set}
use lib.Seq.{paste}
use Rattle.outcomes.specs.Numbers.{outcome_no, verdict_no}
use Rattle.record.specs.declared.JournalRecord.{JournalRecord}
use Rattle.slices.specs.Slices.{marked}
use Rattle.slices.proofs.SliceLaws.{sizes_tested, set-one}
use Rattle.queries.specs.Together.{TogetherCall}
use Rattle.jigwaret.specs.Journal.{slices, ByMark, MarkRefused, TogetherNumbered}
use Rattle.jigwaret.proofs.JournalLaws.{sizes_wrong, sizes-right, written, not_written, number_of, together-by-mark}
use Rattle.jigwaret.proofs.jigwaret_together.Goals as goal

pub returns-then-not-sized : goal.returns-then-not-sized
returns-then-not-sized c =
    let z = slices c.args.record.now c.args.record.now c.args.answer.now c.args.answer.now in
    sizes_wrong (ByMark (marked c.args.record.now) (TogetherNumbered c.args.sheet.now c.args.storage.now c.args.outputs z 255) (MarkRefused c.args.sheet.now c.args.storage.now c.args.storage.now z 255))
    c.args.storage.now c.args.record.now c.args.answer.now c.sized.result c.sized.ensures (ap not c.if-not-sized.true)

pub load-before-requires : goal.load-before-requires
load-before-requires c =
    let fits = sizes_tested c.args.record.now c.args.answer.now c.sized.result c.sized.ensures (ap not c.if-not-sized.false) in
    fits.thirty

pub bounds-answer-0 : goal.bounds-answer-0
bounds-answer-0 c =
    let fits = sizes_tested c.args.record.now c.args.answer.now c.sized.result c.sized.ensures (ap not c.if-not-sized.false) in
    omega (arith, fits.sixteen)

pub returns-in-Err : goal.returns-in-Err
returns-in-Err c =
    let fits = sizes_tested c.args.record.now c.args.answer.now c.sized.result c.sized.ensures (ap not c.if-not-sized.false) in
    let z = slices c.args.record.now c.args.record.now c.args.answer.now c.args.answer.now in
    sizes-right (ByMark (marked c.args.record.now) (TogetherNumbered c.args.sheet.now c.args.storage.now c.args.outputs z c.from-in-Err.result) (MarkRefused c.args.sheet.now c.args.storage.now c.args.storage.now z c.from-in-Err.result)) c.args.storage.now c.args.storage.now z c.from-in-Err.result fits
    (together-by-mark c.args.sheet.now c.args.storage.now z c.from-in-Err.result c.args.outputs c.together-a.result
    (subst (λ (q : JournalRecord). TogetherCall c.args.sheet.now c.args.storage.now q c.args.outputs c.together-a.result) c.load-before.ensures c.together-a.ensures)
    (number_of c.together-a.result.outcome _ c.from-in-Err.result c.in-Err.is c.from-in-Err.ensures)
    (not_written c.args.record.now (paste c.args.answer.now 0 (verdict_no c.together-a.result.verdict ∷ []) 1) z c.together-a.result.outcome _ c.in-Err.is refl refl))

pub returns-in-Ok : goal.returns-in-Ok
returns-in-Ok c =
    let fits = sizes_tested c.args.record.now c.args.answer.now c.sized.result c.sized.ensures (ap not c.if-not-sized.false) in
    let z = slices c.args.record.now c.args.record.now c.args.answer.now (set c.args.answer.now 0 c.from.result) in
    sizes-right (ByMark (marked c.args.record.now) (TogetherNumbered c.args.sheet.now c.args.storage.now c.args.outputs z 0) (MarkRefused c.args.sheet.now c.args.storage.now c.args.storage.now z 0)) c.args.storage.now c.args.storage.now z 0 fits
    (together-by-mark c.args.sheet.now c.args.storage.now z 0 c.args.outputs c.together-a.result
    (subst (λ (q : JournalRecord). TogetherCall c.args.sheet.now c.args.storage.now q c.args.outputs c.together-a.result) c.load-before.ensures c.together-a.ensures)
    (sym (ap outcome_no c.in-Ok.is))
    (written c.args.record.now (paste c.args.answer.now 0 (verdict_no c.together-a.result.verdict ∷ []) 1) z c.together-a.result.outcome c.in-Ok.is refl
    (ap (λ (n : ℕ). set c.args.answer.now 0 n) c.from.ensures ∙ set-one c.args.answer.now (verdict_no c.together-a.result.verdict) (omega (arith, fits.sixteen)))))
