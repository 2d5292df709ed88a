-- Bytes have come unless the line is blank.
use Rattle.std.proofs.Common.{rules}
use Rattle.line_scan.proofs.Standing.{some_byte}
use Rattle.line_scan.proofs.Pending.is_blank.Goals as goal

pub returns-in_default : goal.returns-in_default
returns-in_default c =
    record { yes = search rules; no = λ e m part h. some_byte m part c.args.self c.in_default.not-Blank h }
