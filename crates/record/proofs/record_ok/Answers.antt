-- `record::record_ok` meets its contract.
use mathlib.Core.Path.{◌≡◌, refl, sym, ◌∙◌, ap}
use mathlib.Core.Bool.{true, false}
use native.Mathlib.Omega.{arith}
use Rattle.record.specs.Record.{add_up}
use Rattle.record.proofs.Tallies.{add_up-more, add_up-not, too_many, by_counts}
use Rattle.record.proofs.record_ok.Goals as goal

pub returns-then-r-gt-MAX_ROUNDS : goal.returns-then-r-gt-MAX_ROUNDS
returns-then-r-gt-MAX_ROUNDS c = sym (too_many c.args.n c.args.r c.if-r-gt-MAX_ROUNDS.true)

pub loop-k-init : goal.loop-k-init
unfolding add_up
loop-k-init c = (omega arith, refl)

pub returns-then-sum_at-t : goal.returns-then-sum_at-t
returns-then-sum_at-t c =
    sym (by_counts c.args.n c.args.r false (omega arith)
    (add_up-not c.args.r.counts c.args.r.rounds c.loop-k.k c.args.n (omega arith)
    (λ e. c.if-sum_at-t.true (c.sum_at.ensures ∙ e))))

pub loop-k-preserved : goal.loop-k-preserved
loop-k-preserved c =
    (omega arith, add_up-more c.args.r.counts c.args.r.rounds c.loop-k.k (sym c.sum_at.ensures ∙ c.if-sum_at-t.false) c.loop-k.invariant.1)

pub returns : goal.returns
returns c =
    let e : c.loop-k.k ≡ c.args.n = omega arith in
    sym (by_counts c.args.n c.args.r true (omega arith)
    (ap (add_up c.args.r.counts c.args.r.rounds) (sym e) ∙ c.loop-k.invariant.1))
