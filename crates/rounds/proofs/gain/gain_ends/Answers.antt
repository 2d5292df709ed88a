-- `rounds::gain::gain_ends` meets its contract.
use Rattle.std.proofs.Common.{arith}
use Rattle.rounds.proofs.EndLaws.{ends-full, ends-none, ends_more, ends-all}
use Rattle.rounds.proofs.gain.gain_ends.Goals as goal

pub returns-then-not-is_end_new : goal.returns-then-not-is_end_new
returns-then-not-is_end_new c = λ p h ks. ends-full _ _ _ _ _ p c.args.equations.now.size.sized.wide.under (c.is_end_new.ensures c.if-not-is_end_new.true)

pub loop-j-init : goal.loop-j-init
loop-j-init c = λ y p f. ends-none _ _ _ _ _ p c.args.equations.now.size.sized.wide c.requires.1

pub loop-j-preserved : goal.loop-j-preserved
loop-j-preserved c = λ y p f.
    ends_more _ _ _ _ _ p c.args.equations.now.size.sized.wide c.requires.1 _ _ _ _ _ _ _ c.loop-j-test.true (c.loop-j.invariant y p f) c.ends_word-live.ensures c.row_word.ensures
    c.lanes_below-low.ensures (λ i g. f c.loop-j.j i c.loop-j-test.true g)
    c.insert_ends.ensures

pub returns : goal.returns
returns c =
    λ p h ks. ends-all _ _ _ _ _ p c.args.equations.now.size.sized.wide c.requires.1 _ _ (omega (arith, c.args.equations.now.size.sized.wide.under)) (c.loop-j.invariant _ p (λ k i l g. c.enders-x.ensures p h ks k i l g))
