-- What the file gave so far, and its end.
use Rattle.std.proofs.Common.{ℕ, ap, arith}
use Rattle.dialogue.specs.declared.Reply.TheVariants.{Moved}
use Rattle.journal.proofs.Filling.{given_none, given-more, given-again, given-end}
use Rattle.journal.proofs.read_file.Goals as goal

pub loop-calls-init : goal.loop-calls-init
loop-calls-init c = record { room = omega arith; given = given_none }

pub returns-then-k-eq0 : goal.returns-then-k-eq0
returns-then-k-eq0 c = (
  omega (arith, c.loop-calls.invariant.room, c.read_more-reply.auto.bytes),
  (λ h. ap (λ (k : ℕ). Moved k) c.if-k-eq0.true),
  given-end _ _ c.loop-calls.n c.loop-calls.calls c.loop-calls.invariant.given c.read_more-reply.ensures.0 _,
)

pub loop-calls-preserved-in-Moved : goal.loop-calls-preserved-in-Moved
loop-calls-preserved-in-Moved c =
    let most = c.read_more-reply.ensures.1 _ c.in-Moved.is in
    record {
      room = most;
      given = given-more _ _ c.loop-calls.n c.loop-calls.calls c.loop-calls.invariant.given c.read_more-reply.ensures.0 _ c.if-k-eq0.false most;
    }

pub loop-calls-preserved : goal.loop-calls-preserved
loop-calls-preserved c = record {
  room = omega (arith, c.loop-calls.invariant.room, c.read_more-reply.auto.bytes);
  given = given-again _ _ c.loop-calls.n c.loop-calls.calls c.loop-calls.invariant.given c.read_more-reply.ensures.0;
}
