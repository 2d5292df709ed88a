-- What a read brought is heard, and a call that moved nothing is made again.
use Rattle.journal.proofs.Turning.{unmoved-read}
use Rattle.journal.proofs.read.Goals as goal

pub returns-in-Moved-clause-read : goal.returns-in-Moved-clause-read
returns-in-Moved-clause-read c = λ run wants. c.heard.ensures.steps run wants c.requires.3

pub returns-in_default : goal.returns-in_default
returns-in_default c =
    record {
      read = λ run wants. unmoved-read c.args.d.now c.args.storage.now c.args.out.now _ c.read-reply.result c.in_default.not-Moved;
      within = c.requires.1;
      wants = c.requires.2;
    }
