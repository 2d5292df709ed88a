-- `verdicts::set_word` meets its contract.
use Rattle.std.proofs.Common.{Bool, ◌&&◌, sym, ap, ◌∙◌}
use Rattle.words.proofs.BitLaws.{bit-and}
use Rattle.words.specs.Bits.{bit}
use Rattle.verdicts.proofs.VerdictLaws.{narrowed_none, narrowed-more, narrowed-same, narrowed-all}
use Rattle.verdicts.proofs.set_word.Goals.{then-in_set, else-in_set}
use Rattle.verdicts.proofs.set_word.Goals as goal

pub loop-k-init : goal.loop-k-init
loop-k-init c = narrowed_none _ _ _ _ _ c.spread-word.ensures

pub returns : goal.returns
returns c = narrowed-all _ _ _ _ _ _ c.loop-k-test.false c.loop-k.invariant

pub loop-k-preserved : goal.loop-k-preserved
loop-k-preserved c =
    elim c.if-in_set.branch [
      | then-in_set w ↦ narrowed-more _ _ _ _ _ _ _ c.loop-k-test.true c.loop-k.invariant (sym c.has_bit-in_set.ensures ∙ w.if-in_set.true) (λ i h. ap (bit i) w.word-is ∙ bit-and i c.loop-k.word w.where_true-word.result ∙ ap (λ (u : Bool). bit i c.loop-k.word && u) (w.where_true-word.ensures i h))
      | else-in_set w ↦ narrowed-same _ _ _ _ _ _ _ c.loop-k-test.true c.loop-k.invariant (sym c.has_bit-in_set.ensures ∙ w.if-in_set.false) w.word-is
    ]
