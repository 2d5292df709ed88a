-- `verdicts::shown` meets its contract.
use Rattle.std.proofs.Common.{◌≡◌, Bool, ℕ, not, ◌||◌, refl, sym, ap, ap₂, ◌∙◌, arith, ne_eqb, eq-eqb}
use Rattle.std.specs.Bool.{beq}
use Rattle.words.specs.Below.{any_below}
use Rattle.words.proofs.AnyLaws.{some_any, any_one}
use Rattle.pairs.specs.Changes.{row_bit}
use Rattle.pairs.proofs.RowWords.{row_lane}
use Rattle.verdicts.proofs.VerdictLaws.{shownIn, shows-words, shown-word}
use Rattle.verdicts.proofs.shown.Goals as goal

pub loop-j-init : goal.loop-j-init
unfolding any_below
loop-j-init c = refl

pub returns-then-f-j-ne0 : goal.returns-then-f-j-ne0
returns-then-f-j-ne0 c =
    let G = row_bit c.args.test.now 0 in
    sym (shows-words c.args.f.now G c.args.v c.args.w ∙ some_any c.args.w (shownIn c.args.f.now G c.args.v) c.loop-j.j c.loop-j-test.true
    (shown-word c.args.f.now G c.args.v c.loop-j.j c.agree.result (c.fits-f c.loop-j.j) c.agree.type_inv
    (λ i h. c.agree.ensures i h ∙ ap (λ (u : Bool). beq u c.args.v) (sym (row_lane c.args.test.now c.loop-j.j i h))) ∙ ap not (ne_eqb _ _ c.if-f-j-ne0.true)))

pub loop-j-preserved : goal.loop-j-preserved
loop-j-preserved c =
    let G = row_bit c.args.test.now 0 in
    any_one c.loop-j.j (shownIn c.args.f.now G c.args.v) ∙ ap₂ ◌||◌
    (shown-word c.args.f.now G c.args.v c.loop-j.j c.agree.result (c.fits-f c.loop-j.j) c.agree.type_inv
    (λ i h. c.agree.ensures i h ∙ ap (λ (u : Bool). beq u c.args.v) (sym (row_lane c.args.test.now c.loop-j.j i h))) ∙ ap not (eq-eqb _ _ c.if-f-j-ne0.false))
    c.loop-j.invariant

pub returns : goal.returns
returns c =
    let G = row_bit c.args.test.now 0 in
    let e : c.loop-j.j ≡ c.args.w = omega arith in
    sym (shows-words c.args.f.now G c.args.v c.args.w ∙ ap (λ (k : ℕ). any_below k (shownIn c.args.f.now G c.args.v)) (sym e) ∙ c.loop-j.invariant)
