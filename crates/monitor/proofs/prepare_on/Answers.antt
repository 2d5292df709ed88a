-- `monitor::prepare_on` meets its contract.
use mathlib.Core.Path.{refl}
use mathlib.Core.Logic.{inl, inr}
use native.Mathlib.Omega.{arith}
use Rattle.monitor.proofs.Entries.{too_short_lem, prepare-done}
use Rattle.monitor.proofs.prepare_on.Goals as goal

pub returns-then-storage-needed : goal.returns-then-storage-needed
returns-then-storage-needed c =
    λ bs ok. too_short_lem bs c.args.x.now ok c.args.storage.now _ c.refused_preparation.ensures (inl (c.if-storage-needed.true, refl))

pub returns : goal.returns
returns c =
    λ bs ok. prepare-done bs c.args.x.now ok c.args.storage.now c.preparation.new.storage c.preparation.result c.preparation.ensures.0 (inr ((λ h. omega arith), refl)) c.preparation.ensures.1
