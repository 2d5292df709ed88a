-- `verdicts::firsts_word` meets its contract.
use Rattle.std.proofs.Common.{ℕ, Bool, rules, ap, ◌∙◌, ◌&&◌, ◌+◌, ◌*◌}
use Rattle.completions.specs.Steps.{any_next}
use Rattle.pairs.specs.Storage.{reached}
use Rattle.verdicts.proofs.VerdictLaws.{heard-below}
use Rattle.verdicts.proofs.firsts_word.Goals as goal

pub returns : goal.returns
returns c = λ i h.
    let g : ℕ → Bool = λ k. any_next c.args.size.valuations (reached c.args.s.now (64 * c.args.j + k)) in
    c.lanes_where.ensures g (λ k l v p. search rules) i h
    ∙ ap (λ (u : Bool). u && g i) (heard-below _ _ _ _ c.lanes_below.ensures i h)
