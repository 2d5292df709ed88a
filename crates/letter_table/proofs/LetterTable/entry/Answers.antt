-- The number at an index is the entry that the definition says.
use Rattle.std.proofs.Common.{rules}
use Rattle.letter_table.proofs.EachEntry.{entry_of_lem}
use Rattle.letter_table.proofs.LetterTable.entry.Goals as goal

pub returns : goal.returns
returns c = entry_of_lem _ c.args.self.now.sets _ c.requires (search rules)
