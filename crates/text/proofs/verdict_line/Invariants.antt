-- The loop of `text::verdict_line`.
use Rattle.std.proofs.Common.{◌≡◌, ◌+◌, take}
use Rattle.std.specs.Prelude.{map}
use Rattle.buffer.specs.Wrote.{Placed}
use Rattle.text.specs.Text.{verdict_char}
use Rattle.text.proofs.verdict_line.Given as goal

abbrev pub invariant-loop-verdict : goal.invariant-loop-verdict
invariant-loop-verdict l = (l.to ≡ l.at + l.verdict-index) × Placed l.initial.out l.at (map verdict_char (take l.verdict-index l.verdicts)) l.out l.to
