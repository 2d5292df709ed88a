-- `jigwaret::jigwaret_prepare` meets its contract.
use mathlib.Core.Bool.{not}
use mathlib.Core.Path.{refl, sym, ap}
use mathlib.Core.List.{◌∷◌, []}
use Prim.Native.Nat.{ℕ}
use native.Mathlib.Omega.{arith}
use lib.ListN.{set}
use lib.Seq.{paste}
use borrow.Author.Rules.{Below-set}
use Rattle.outcomes.specs.Numbers.{outcome_no}
use Rattle.slices.specs.Slices.{numbers_of}
use Rattle.slices.proofs.SliceLaws.{set_two, sizes_tested}
use Rattle.jigwaret.specs.Journal.{slices, PreparationNumbered}
use Rattle.jigwaret.proofs.JournalLaws.{sizes_wrong, sizes-right, written, not_written, number_of}
use Rattle.jigwaret.proofs.jigwaret_prepare.Goals as goal

pub returns-then-not-sized : goal.returns-then-not-sized
returns-then-not-sized c =
    sizes_wrong (PreparationNumbered c.args.sheet.now c.args.storage.now c.args.storage.now (slices c.args.record.now c.args.record.now c.args.answer.now c.args.answer.now) 255) c.args.storage.now c.args.record.now c.args.answer.now c.sized.result c.sized.ensures (ap not c.if-not-sized.true)

pub store-requires : goal.store-requires
store-requires c =
    let fits = sizes_tested c.args.record.now c.args.answer.now c.sized.result c.sized.ensures (ap not c.if-not-sized.false) in
    fits.thirty

pub bounds-answer-0 : goal.bounds-answer-0
bounds-answer-0 c =
    let fits = sizes_tested c.args.record.now c.args.answer.now c.sized.result c.sized.ensures (ap not c.if-not-sized.false) in
    omega (arith, fits.sixteen)

pub bounds-answer-1 : goal.bounds-answer-1
bounds-answer-1 c =
    let fits = sizes_tested c.args.record.now c.args.answer.now c.sized.result c.sized.ensures (ap not c.if-not-sized.false) in
    Below-set ℕ c.args.answer.now _ 0 _ (omega (arith, fits.sixteen))

pub returns-in-Err : goal.returns-in-Err
returns-in-Err c =
    let fits = sizes_tested c.args.record.now c.args.answer.now c.sized.result c.sized.ensures (ap not c.if-not-sized.false) in
    let z = slices c.args.record.now c.args.record.now c.args.answer.now c.args.answer.now in
    sizes-right (PreparationNumbered c.args.sheet.now c.args.storage.now c.prepare-a.new.storage z c.from.result) c.args.storage.now c.prepare-a.new.storage z c.from.result fits
    (record {
      answer = c.prepare-a.result;
      result = c.prepare-a.ensures;
      number = number_of c.prepare-a.result.outcome _ c.from.result c.in-Err.is c.from.ensures;
      written = not_written (numbers_of c.prepare-a.result.record) (paste c.args.answer.now 0 (c.prepare-a.result.live ∷ c.prepare-a.result.reach ∷ []) 2) z c.prepare-a.result.outcome _ c.in-Err.is refl refl;
    })

pub returns-in-Ok : goal.returns-in-Ok
returns-in-Ok c =
    let fits = sizes_tested c.args.record.now c.args.answer.now c.sized.result c.sized.ensures (ap not c.if-not-sized.false) in
    let z = slices c.args.record.now c.store.new.ns c.args.answer.now (set (set c.args.answer.now 0 c.prepare-a.result.live) 1 c.prepare-a.result.reach) in
    sizes-right (PreparationNumbered c.args.sheet.now c.args.storage.now c.prepare-a.new.storage z 0) c.args.storage.now c.prepare-a.new.storage z 0 fits
    (record {
      answer = c.prepare-a.result;
      result = c.prepare-a.ensures;
      number = sym (ap outcome_no c.in-Ok.is);
      written = written (numbers_of c.prepare-a.result.record) (paste c.args.answer.now 0 (c.prepare-a.result.live ∷ c.prepare-a.result.reach ∷ []) 2) z c.prepare-a.result.outcome c.in-Ok.is c.store.ensures (set_two c.args.answer.now c.prepare-a.result.live c.prepare-a.result.reach (omega (arith, fits.sixteen)));
    })
