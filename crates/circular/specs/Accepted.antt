-- For the contracts of inner functions: a sheet that was accepted, whatever its bytes were.
use Rattle.std.specs.Prelude.{List, ℕ}
use Rattle.sheet.specs.declared.Sheet.{Sheet}
use Rattle.circular.specs.SheetChecks.{AcceptedSheet}

-- some bytes are accepted and were read as x
abbrev pub IsAccepted : Sheet → Type 0
IsAccepted x = (bs : List ℕ) × AcceptedSheet bs x
