-- `effects::preparation` meets its contract.
use Rattle.std.proofs.Common.{refl, arith}
use Rattle.effects.proofs.Done.{prepare-done}
use Rattle.effects.proofs.preparation.Goals as goal

pub overflow_cast-result : goal.overflow_cast-result
overflow_cast-result c = omega (arith, c.prepare-found.ensures.searched.bound)

pub overflow_cast-result-2 : goal.overflow_cast-result-2
overflow_cast-result-2 c = omega (arith, c.prepare-found.ensures.searched.bound, c.prepare-found.ensures.exact_reach.1)

pub returns : goal.returns
returns c =
    let z = c.of.ensures in (
      refl,
      prepare-done c.args.x.now c.of.result z.size.0 z.size.1 z.code.0 z.code.1 c.args.storage.now c.prepare-found.new.storage _ _ _
          c.prepare-found.ensures.searched c.prepare-found.ensures.exact_reach.0 refl refl c.fresh.ensures,
    )
