-- The theorem is `LongestSheet`.
use Rattle.claims.proofs.Longest.{longest-sheet}
use Rattle.claims.proofs.longest_sheet.Goals as goal

pub returns : goal.returns
returns c = longest-sheet
