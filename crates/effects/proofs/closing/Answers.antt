-- `effects::closing` meets its contract.
use Rattle.std.proofs.Common.{refl}
use Rattle.sheet.proofs.Sheets.{usable}
use Rattle.effects.proofs.Done.{closing-done}
use Rattle.effects.proofs.Front.{closings-front}
use Rattle.effects.proofs.closing.Goals as goal

pub returns : goal.returns
returns c =
    let x = c.args.x.now in
    let v = closings-front _ _ c.args.storage.now _ c.new-size.result.sized.streams (rw c.in_front.ensures at c.closing_verdicts.ensures) in
    let z = c.new-size.ensures in
    (refl, closing-done x (usable x) c.args.storage.now c.args.r _ (rw (z.0, z.1) at v) (rw z.1 at c.shares.ensures) refl refl refl)
