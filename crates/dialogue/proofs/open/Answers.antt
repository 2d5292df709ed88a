-- A run begins, or a refusal is to be written.
use Rattle.dialogue.proofs.Talking.{opened, turned_down}
use Rattle.dialogue.proofs.open.Goals as goal

pub returns-in-Ok-clause-talks : goal.returns-in-Ok-clause-talks
returns-in-Ok-clause-talks c = opened _ _ _ _ c.in-Ok.ensures.begun

pub returns-in-Err-clause-talks : goal.returns-in-Err-clause-talks
returns-in-Err-clause-talks c = turned_down _ _ _ _ c.in-Err.ensures.begun
