-- What stands for each kind of line.
use Rattle.line_scan.proofs.Standing.{empty-blank, dot-closing, spoiled-malformed}
use Rattle.line_scan.proofs.Pending.ended.Goals as goal

pub returns-in-Blank : goal.returns-in-Blank
returns-in-Blank c = λ part h. empty-blank _ part (rw c.in-Blank.is at h)

pub returns-in-Dot : goal.returns-in-Dot
returns-in-Dot c = λ part h. dot-closing _ part (rw c.in-Dot.is at h)

pub returns-in-Malformed : goal.returns-in-Malformed
returns-in-Malformed c = λ part h. spoiled-malformed _ part (rw c.in-Malformed.is at h)
