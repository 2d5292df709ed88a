-- The value of an expression (004, section 2.2). Its reads are looked up: of stream q, one round earlier, now or one round later, with
-- the default where there is no such round.
-- Manual: "The language".
use Rattle.std.specs.Prelude.{Bool, not, ◌&&◌, ◌||◌, ℕ}
use Rattle.std.specs.Bool.{beq}
use Rattle.std.proofs.Math.Option.{Option, none, some}
use Rattle.words.specs.Bits.{bit}
use Rattle.sheet.specs.Expression.{Expr, constant, negation, conjunction, disjunction, equality, read}
use Rattle.sheet.specs.declared.Offset.{Offset}
use Rattle.sheet.specs.declared.Offset.TheVariants.{Earlier, Now, Later}

-- the value of a read of a stream, at an offset, with a default
abbrev pub Look : Type 0
Look = ℕ → Offset → Bool → Bool

unfoldable pub value : Look → Expr → Bool
value look (constant c) = c
value look (negation e) = not (value look e)
value look (conjunction e f) = value look e && value look f
value look (disjunction e f) = value look e || value look f
-- the two values are alike (02, W1)
value look (equality e f) = beq (value look e) (value look f)
value look (read q o d) = look q o d

-- stream q in a neighbouring round, or the default where there is none
unfoldable pub near : Option ℕ → ℕ → Bool → Bool
near none q d = d
near (some v) q d = bit q v

-- the reads of a round with the valuation v, where p is the valuation one round earlier (none in the first round) and n the one
-- later (none in the last)
abbrev pub neighbours : Option ℕ → ℕ → Option ℕ → Look
neighbours p v n q Earlier d = near p q d
neighbours p v n q Now d = bit q v
neighbours p v n q Later d = near n q d
