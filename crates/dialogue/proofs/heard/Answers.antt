-- The end of the input, or more of it.
use Rattle.std.specs.Prelude.{None, Some}
use Rattle.dialogue.proofs.Talking.{heard-end, heard-more}
use Rattle.dialogue.proofs.heard.Goals as goal

pub returns-then-at_end-clause-steps : goal.returns-then-at_end-clause-steps
returns-then-at_end-clause-steps c = λ r wants spoken sheet h talks.
    heard-end sheet _ c.args.d.now _ _ h talks c.in-Some.is spoken c.finish-d.result _ _ _ c.if-at_end.true c.finish-d.ensures.finishes

pub returns-in-Some-next-clause-steps : goal.returns-in-Some-next-clause-steps
returns-in-Some-next-clause-steps c = λ r wants spoken sheet h talks.
    heard-more sheet _ c.args.d.now _ _ h talks c.in-Some.is spoken (Some c.in-Some-next.state) c.feed-fed.result.at _ _ _ c.if-at_end.false
    (rw c.in-Some-next.is at c.feed-fed.ensures.goes)

pub returns-in-None-clause-steps : goal.returns-in-None-clause-steps
returns-in-None-clause-steps c = λ r wants spoken sheet h talks.
    heard-more sheet _ c.args.d.now _ _ h talks c.in-Some.is spoken None c.feed-fed.result.at _ _ _ c.if-at_end.false
    (rw c.in-None.is at c.feed-fed.ensures.goes)
