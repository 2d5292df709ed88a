-- `rounds::gain::gain_row` meets its contract.
use Rattle.std.proofs.Common.{refl, arith}
use Rattle.rounds.proofs.WordLaws.{live-masked, row_full, word-gained}
use Rattle.rounds.proofs.RowLaws.{row-none, row_more, row-all}
use Rattle.rounds.proofs.gain.gain_row.Goals as goal

pub returns-then-not-is_new : goal.returns-then-not-is_new
returns-then-not-is_new c = λ p seen ks. row_full _ _ _ _ p (λ k h. c.is_new.ensures c.if-not-is_new.true k (omega (arith, c.args.equations.now.size.sized.wide.under)))

pub loop-j-init : goal.loop-j-init
loop-j-init c = λ y p f. row-none _ _ _ _ p

pub loop-j-preserved : goal.loop-j-preserved
loop-j-preserved c = λ y p f.
    row_more _ _ _ _ _ _ _ p (c.loop-j.invariant y p f)
    (word-gained _ _ _ _ _ (live-masked _ _ _ _ _ _ _ c.args.equations.now.size.sized.wide c.loop-j-test.true c.row_word-live.ensures c.lanes_below-low.ensures)
    _ p _ _ (λ i h. f c.loop-j.j i c.loop-j-test.true h) c.insert_word.ensures)

pub returns : goal.returns
returns c = λ p seen ks. row-all _ _ _ _ _ _ _ p refl (omega (arith, c.args.equations.now.size.sized.wide.under)) (c.loop-j.invariant _ p (λ k i h g. c.successors-x.ensures p seen ks k i h g))
