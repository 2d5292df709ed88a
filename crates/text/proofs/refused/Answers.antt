-- A refusal's number has at most two digits.
use Rattle.std.proofs.Common.{ℕ, ◌≡◌, ◌≤◌, length, ◌∙◌, arith}
use Rattle.buffer.proofs.PlacedLaws.{placed_then}
use Rattle.buffer.proofs.DecimalLaws.{decimal-length}
use Rattle.buffer.specs.Decimal.{decimal}
use Rattle.outcomes.specs.Numbers.{refusal_no}
use Rattle.outcomes.specs.declared.Refusal.{Refusal}
use Rattle.outcomes.proofs.NumberLaws.{refusal_range}
use Rattle.text.proofs.refused.Goals as goal

two_digits : (r : Refusal) (n : ℕ) → n ≡ refusal_no r → length (decimal n) ≤ 2
two_digits r n e = rw e (decimal-length 2 (refusal_no r) (omega arith) (refusal_range r).1)

pub decimal-requires : goal.decimal-requires
decimal-requires c =
    omega (arith, c.bytes-to.ensures.end, c.bytes-to.ensures.size, two_digits c.args.r c.from-2.result (c.from-2.ensures ∙ c.from.ensures))

pub returns-clause-placed : goal.returns-clause-placed
returns-clause-placed c = placed_then c.bytes-to.ensures (rw (c.from-2.ensures ∙ c.from.ensures) at c.decimal.ensures)

pub returns-clause-upper_bound : goal.returns-clause-upper_bound
returns-clause-upper_bound c =
    omega (arith, c.bytes-to.ensures.end, c.decimal.ensures.end, two_digits c.args.r c.from-2.result (c.from-2.ensures ∙ c.from.ensures))
