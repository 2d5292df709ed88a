-- The first byte, if it is no dot, begins an alternative; a byte behind a dot spoils the line.
use Rattle.std.proofs.Common.{◌≡◌, []}
use Rattle.line_scan.proofs.Scanning.{none-parted, past_dot}
use Rattle.line_scan.proofs.Pending.scan.Goals as goal

pub returns-in-Blank-2 : goal.returns-in-Blank-2
returns-in-Blank-2 c =
    record {
      scanned = λ part h. let none : part ≡ [] = rw c.in-Blank-2.is at h in
          c.byte.ensures.scanned part (λ z. c.if-b-eq46.false) (rw (none, c.after.ensures.fields) (none-parted _));
      in_table = c.byte.ensures.in_table;
    }

pub returns-in-Dot : goal.returns-in-Dot
returns-in-Dot c =
    record { scanned = (λ part h. past_dot _ part _ (rw c.in-Dot.is at h)); in_table = tt }
