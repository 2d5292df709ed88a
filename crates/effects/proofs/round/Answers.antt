-- `effects::round` meets its contract.
use Rattle.std.proofs.Common.{◌≡◌, refl, rules}
use Rattle.sheet.specs.RuleSheet.{required_of}
use Rattle.pairs.proofs.Front.{front}
use Rattle.effects.proofs.Done.{round-front}
use Rattle.effects.proofs.round.Goals as goal

pub returns : goal.returns
returns c =
    let x = c.args.x.now in
    let z = c.of-equations.ensures in
    let e : c.unwrap-words.result.now ≡ front c.args.storage.now = search rules in (
      refl,
      round-front x c.of-equations.result z.size.0 z.size.1 z.code.0 z.code.1 c.args.storage.now c.step.new.words _ c.args.r c.args.letters c.repeated-heard.result _
          refl c.step.array_long c.requires.0 c.repeated-heard.ensures (rw e at (c.step.ensures (required_of x.assumed))) c.round_verdicts-verdicts.ensures
          c.with_round.ensures.0 c.with_round.ensures.1 c.with_round.ensures.2,
    )
