-- For the contracts of inner functions: what a line stands for, as the code says it.
use Rattle.claims.specs.Book.{round, closing}
use Rattle.line_scan.specs.Lines.{Line, blank, calls, malformed}
use Rattle.line_scan.specs.declared.Meaning.{Meaning}
use Rattle.line_scan.specs.declared.Meaning.TheVariants.{Blank, Round, Closing, Malformed}

abbrev pub line_of : Meaning → Line
line_of Blank = blank
line_of (Round letters) = calls (round letters)
line_of Closing = calls closing
line_of Malformed = malformed
