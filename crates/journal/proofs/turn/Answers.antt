-- A write or a read, and what it makes of the talk.
use Rattle.std.proofs.Common.{Bool, ap, ◌∙◌}
use Rattle.dialogue.specs.declared.End.TheVariants.{InputFailed, OutputFailed}
use Rattle.journal.specs.Turns.{end_of}
use Rattle.journal.proofs.Turning.{wrote_turn, heard_turn}
use Rattle.journal.proofs.turn.Goals as goal

pub returns-then-d-clause-turned : goal.returns-then-d-clause-turned
returns-then-d-clause-turned c =
    wrote_turn c.args.d.now c.write-reply.new.d c.args.storage.now c.args.out.now c.args.buf.now c.write-reply.result c.end_of.result
    (c.end_of.ensures ∙ ap (λ (g : Bool). end_of g OutputFailed) c.wait-going.ensures) c.if-d.true c.write-reply.ensures.wrote

pub returns-in-Some-clause-turned : goal.returns-in-Some-clause-turned
returns-in-Some-clause-turned c =
    heard_turn c.args.d.now c.read-reply.new.d c.args.storage.now c.args.out.now c.read-reply.new.storage c.read-reply.new.out c.read-reply.new.buf
    c.read-reply.result c.end_of-in-Some.result (c.end_of-in-Some.ensures ∙ ap (λ (g : Bool). end_of g InputFailed) c.wait-going-in-Some.ensures)
    _ c.in-Some.is c.if-d.false (c.read-reply.ensures.read _ c.in-Some.is)
