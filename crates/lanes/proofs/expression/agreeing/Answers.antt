-- `lanes::expression::agreeing` meets its contract.
use Rattle.std.proofs.Common.{refl, sym, ◌∙◌, arith, ◌+◌}
use Rattle.std.proofs.lemmas.List.{length-replicate}
use Rattle.lanes.proofs.RowLaws.{filled, none_set}
use Rattle.lanes.proofs.EquationLaws.{agree-none, agree-more, agree-stop}
use Rattle.lanes.proofs.expression.agreeing.Goals as goal

pub loop-k-init : goal.loop-k-init
loop-k-init g c = (length-replicate _ _, length-replicate _ _, refl, agree-none _ _ _ _ _ _ _ _ _ (filled _ _ _ _ refl (omega arith)))

pub returns-then-is_empty : goal.returns-then-is_empty
returns-then-is_empty g c =
    agree-stop _ _ _ _ _ _ _ _ _ (c.loop-k.k + 1) (omega arith)
    (agree-more _ _ _ _ _ _ _ _ _ _ _ _ _ _ c.args.equations.now.coded c.loop-k-test.true c.loop-k.invariant.3 c.expression.ensures.bytes c.value.ensures.values c.output_stream.ensures c.keep_row.ensures.words)
    (none_set _ _ c.keep_row.ensures.size (sym c.is_empty.ensures ∙ c.if-is_empty.true))

pub loop-k-preserved : goal.loop-k-preserved
loop-k-preserved g c =
    (c.keep_row.ensures.size, c.value.ensures.size, omega arith, agree-more _ _ _ _ _ _ _ _ _ _ _ _ _ _ c.args.equations.now.coded c.loop-k-test.true c.loop-k.invariant.3 c.expression.ensures.bytes c.value.ensures.values c.output_stream.ensures c.keep_row.ensures.words)
