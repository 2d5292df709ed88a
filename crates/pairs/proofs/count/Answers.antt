-- `pairs::count` meets its contract.
use Rattle.std.proofs.Common.{◌≡◌, ◌*◌, ℕ, ◌∙◌, ap, arith, get_or-take, length-take-le, length, take}
use Rattle.words.specs.Below.{count_below}
use Rattle.completions.specs.Live.{count_pairs}
use Rattle.pairs.specs.Storage.{live, set_words}
use Rattle.pairs.specs.Changes.{row_bit}
use Rattle.pairs.proofs.PairCount.{pair-count}
use Rattle.pairs.proofs.count.Goals as goal

pub slice_bounds-ones-end : goal.slice_bounds-ones-end
slice_bounds-ones-end c = omega (arith, length-take-le 1028 c.args.s.now (omega (arith, c.requires)))

pub ones-requires : goal.ones-requires
ones-requires c = omega (arith, length-take-le 1028 c.args.s.now (omega (arith, c.requires)))

pub returns : goal.returns
returns c =
    let t = take 1028 c.args.s.now in
    let l : length t ≡ set_words = length-take-le 1028 c.args.s.now (omega (arith, c.requires)) in
    let r : c.ones.result ≡ count_pairs 256 (live c.args.s.now) =
    c.ones.ensures.sum ∙ ap (λ (n : ℕ). count_below (64 * n) (row_bit t 0)) l ∙ pair-count c.args.s.now t (λ k h. get_or-take 1028 c.args.s.now k 0 h)
    in
    record { counted = r; most = omega (arith, c.ones.ensures.most); words = λ k. (c.type_inv.s k).fits }
