-- The bytes that a write took have gone out.
use Rattle.dialogue.proofs.Talking.{told_from}
use Rattle.dialogue.proofs.told.Goals as goal

pub returns-clause-told : goal.returns-clause-told
returns-clause-told c = λ d e le t out sheet h talks. told_from sheet d t out h c.args.from c.args.n e le talks
