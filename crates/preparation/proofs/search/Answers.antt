-- `preparation::search` meets its contract.
use Rattle.std.proofs.Common.{sym, arith}
use Rattle.sheet.specs.RuleSheet.{required_of}
use Rattle.preparation.proofs.Joining.{layers-of}
use Rattle.preparation.proofs.Searching.{rows_started, some-bit, no-bit}
use Rattle.preparation.proofs.Preparing.{search-bound, search-begin, search-step, layers-some, search-finish}
use Rattle.preparation.proofs.search.Goals as goal

pub loop-st-init : goal.loop-st-init
loop-st-init c =
    let sized = c.args.equations.now.size.sized in
    let places = c.first-stage.ensures in (
      rw places.0 (rows_started _ _ _ _ sized.wide.most c.start.ensures),
      λ ks r. rw (places.0, places.1) (search-begin _ _ _ _ sized.streams _ _ sized.power sized.wide.under sized.wide.most ks _ _ _ r c.start.ensures),
    )

pub overflow_add-layers : goal.overflow_add-layers
overflow_add-layers c =
    omega (arith, search-bound _ _ _ _ c.args.equations.now.size.sized.streams _ _ _ _ _ _ (c.loop-st.invariant.1 (required_of c.args.assumed) c.allowed_row-ok.ensures))

pub loop-st-smaller : goal.loop-st-smaller
loop-st-smaller c =
    omega (arith, search-bound _ _ _ _ c.args.equations.now.size.sized.streams _ _ _ _ _ _ (c.loop-st.invariant.1 (required_of c.args.assumed) c.allowed_row-ok.ensures))

pub loop-st-preserved : goal.loop-st-preserved
loop-st-preserved c =
    let sized = c.args.equations.now.size.sized in
    let q = c.loop-st.invariant.1 (required_of c.args.assumed) c.allowed_row-ok.ensures in
    let b = some-bit _ _ _ c.next_bit.ensures (sym c.loop-st-test.ensures) in
    let places = c.turned-stage.ensures in (
      rw places.0 (c.sweep-occupied.ensures.occupied q.free),
      λ ks r.
          rw (places.0, places.1)
          (search-step _ _ _ _ sized.streams _ _ sized.power sized.wide.under sized.wide.most ks _ _ _ _ _ _ _ _ (c.loop-st.invariant.1 ks r) c.loop-st.invariant.0 b.1 b.2
          (c.sweep-occupied.ensures.by_index ks r)),
    )

pub overflow_sub-reach : goal.overflow_sub-reach
overflow_sub-reach c =
    omega (
      arith,
      layers-some _ _ _ _ c.args.equations.now.size.sized.streams c.args.assumed c.requires _ _ _ _ _ _ _ (c.loop-st.invariant.1 (required_of c.args.assumed) c.allowed_row-ok.ensures)
          c.loop-st.invariant.0 (no-bit _ _ _ c.next_bit.ensures (sym c.loop-st-test.ensures)),
    )

pub returns : goal.returns
returns c =
    let f =
    search-finish _ _ _ _ c.args.equations.now.size.sized.streams c.args.assumed c.requires _ _ _ _ _ _ _ (c.loop-st.invariant.1 (required_of c.args.assumed) c.allowed_row-ok.ensures)
    c.loop-st.invariant.0 (no-bit _ _ _ c.next_bit.ensures (sym c.loop-st-test.ensures)) _ _ _ (layers-of _ _ c.loop-st.stage.apart) c.count-live.ensures.words c.start.ensures
    c.count-live.ensures.counted c.count-live.ensures.most
    in
    record { searched = f.0; exact_reach = (f.1, f.2) }
