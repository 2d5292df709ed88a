-- A refusal is all that is written, and a run of an accepted sheet begins with storage that is prepared.
use Rattle.line_end.proofs.Serving.{serves-prepared}
use Rattle.protocol.proofs.Feeding.{refused_start, midway_start}
use Rattle.protocol.proofs.start.Goals as goal

pub returns-in-Err-clause-begun : goal.returns-in-Err-clause-begun
returns-in-Err-clause-begun c = λ input. refused_start _ input _ _ _ _ c.in-Err.ensures.decided c.sheet_refusal.ensures.placed

pub returns-in-Ok-clause-begun : goal.returns-in-Ok-clause-begun
returns-in-Ok-clause-begun c =
    let acc = c.in-Ok.ensures.sheet in
    record {
      accepts = acc;
      stage = midway_start c.args.sheet.now c.in-Ok.x _ _ acc
          (serves-prepared c.args.sheet.now c.in-Ok.x acc _ _ c.prepare_on-prepared.result c.requires.0 (c.prepare_on-prepared.ensures c.args.sheet.now acc))
          (c.empty.ensures.scanned _);
    }
