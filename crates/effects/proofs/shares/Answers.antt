-- `effects::shares` meets its contract.
use mathlib.Core.Path.{◌≡◌, ◌∙◌, ap}
use Prim.Native.Nat.{ℕ, ◌+◌, ◌*◌}
use native.Mathlib.Omega.{arith}
use lib.ListN.{get_or}
use Rattle.record.specs.Record.{share}
use Rattle.record.proofs.Tallies.{record_is}
use Rattle.effects.proofs.Sharing.{shares-none, shares-more, shares-all}
use Rattle.effects.proofs.shares.Goals as goal

pub loop-k-init : goal.loop-k-init
loop-k-init c = (omega arith, shares-none _ _)

pub share_of-requires : goal.share_of-requires
share_of-requires c =
    let ok = record_is c.args.n c.args.r.now c.requires.1 in
    let same : 4 * c.loop-k.k + 0 ≡ 4 * c.loop-k.k = omega arith in
    let e = ap (λ (z : ℕ). get_or c.args.r.now.counts z 0) same in
    (omega arith, omega (arith, e, ok.sums c.loop-k.k (omega arith)))

pub loop-k-preserved : goal.loop-k-preserved
loop-k-preserved c =
    (omega arith, shares-more c.loop-k.k c.args.r.now.counts c.args.r.now.rounds c.loop-k.out c.share_of.result (omega arith) (c.share_of.ensures ∙ ap (λ (z : ℕ). share (get_or c.args.r.now.counts z 0) c.args.r.now.rounds) (omega arith)) c.loop-k.invariant.1)

pub returns : goal.returns
returns c = shares-all c.loop-k.k c.args.n c.args.r.now _ (omega arith) c.loop-k.invariant.1
