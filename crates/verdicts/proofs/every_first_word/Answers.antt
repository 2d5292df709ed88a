-- `verdicts::every_first_word` meets its contract.
use Rattle.std.proofs.Common.{ℕ, Bool, arith, rules, ◌+◌, ◌*◌}
use Rattle.std.proofs.Math.Option.{some}
use Rattle.words.specs.Below.{any_below}
use Rattle.pairs.specs.Storage.{reached}
use Rattle.verdicts.proofs.VerdictLaws.{first_lane, every_lane}
use Rattle.verdicts.proofs.every_first_word.Goals as goal

pub returns : goal.returns
returns c =
    let g : ℕ → Bool = λ k. any_below c.args.size.valuations (λ b. reached c.args.s.now (64 * c.args.j + k) (some b)) in
    every_lane _ _ _ _ _ _ c.ends_word.ensures c.lanes_below-low.ensures
    (first_lane g _ _ _ _ _ (omega (arith, c.min.ensures)) c.lanes_below-low.ensures (c.first_lanes_where-followed.ensures g (λ k l v p. search rules)))
