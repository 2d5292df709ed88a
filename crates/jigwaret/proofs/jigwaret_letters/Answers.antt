-- `jigwaret::jigwaret_letters` meets its contract.
use Rattle.jigwaret.proofs.JournalLaws.{set-kept, set-written}
use Rattle.jigwaret.proofs.jigwaret_letters.Goals as goal

pub returns-in-Err : goal.returns-in-Err
returns-in-Err c = set-kept _ _ _ _ _ _ c.in-Err.ensures c.from.ensures

pub returns-in-Ok : goal.returns-in-Ok
returns-in-Ok c = set-written _ _ _ _ _ c.in-Ok.ensures
