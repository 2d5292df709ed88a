-- `trace::fill` meets its contract.
use Rattle.trace.proofs.Whole.{told-reads, bytes-start, written_of}
use Rattle.trace.proofs.fill.Goals as goal

pub solve-requires : goal.solve-requires
solve-requires c = (
  bytes-start c.args.x.now _ c.args.out.now c.fill.new.self c.requires.ready (c.fill.ensures.after (λ y e. e)),
  told-reads c.args.x.now _ _ c.sheet_masks-masks.ensures,
)

pub returns : goal.returns
returns c =
    written_of c.args.x.now _ c.args.out.now c.fill.new.self c.requires.ready (c.fill.ensures.after (λ y e. e)) c.requires.level _ c.solve.ensures
