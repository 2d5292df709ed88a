-- `circular::table::has_reads` meets its contract.
use Rattle.std.proofs.Common.{◌≡◌, ◌+◌, arith}
use Rattle.circular.proofs.Masks.{lacks_more, no_reads}
use Rattle.circular.proofs.table.has_reads.Goals as goal

pub loop-word-preserved : goal.loop-word-preserved
loop-word-preserved c = lacks_more _ _ _ c.loop-word.invariant

pub returns : goal.returns
returns c =
    let from : c.stream_of-first.result.0 ≡ c.args.m = omega (arith, c.stream_of-first.ensures) in
    λ e s h q o k.
    c.loop-word.invariant.none s (omega arith) (c.args.m + q) o
    (no_reads _ _ _ _ c.streams_at.ensures c.streams_at-2.ensures c.streams_at-3.ensures _ c.args.m from e q o k)
