-- `verdicts::first_lanes_where` meets its contract.
use Rattle.std.proofs.Common.{◌≡◌, sym, ap, ◌∙◌, arith}
use Rattle.words.specs.Bits.{bit}
use Rattle.verdicts.proofs.VerdictLaws.{counted_none, counted_more, lane_set, lane_kept}
use Rattle.verdicts.proofs.first_lanes_where.Goals.{then-test, else-test}
use Rattle.verdicts.proofs.first_lanes_where.Goals as goal

pub loop-i-init : goal.loop-i-init
loop-i-init g c = λ G h. counted_none G

pub loop-i-preserved : goal.loop-i-preserved
loop-i-preserved g c = λ G h.
    counted_more G _ _ _ _ (h _ (omega (arith, c.loop-i-test.true, c.requires.0)) _ c.test.ensures)
    (elim c.if-test.branch [
      | then-test w ↦ λ k. ap (bit k) w.word-is ∙ lane_set k _ _ _ (omega (arith, c.loop-i-test.true, c.requires.0)) w.if-test.true
      | else-test w ↦ λ k. ap (bit k) w.word-is ∙ lane_kept k _ _ _ w.if-test.false
    ]) (c.loop-i.invariant G h)

pub returns : goal.returns
returns g c = λ G h i l.
    let e : c.loop-i.i ≡ c.args.n = omega arith in
    let p = c.loop-i.invariant G h in
    rw (sym e) (p.lanes i l)
