-- `pairs::ones` meets its contract.
use Rattle.std.proofs.Common.{◌≤◌, refl, arith, get_or}
use lib.Count.{ones, ones-le}
use Rattle.words.specs.Below.{sum_below, count_below}
use Rattle.pairs.proofs.PairCount.{word-count}
use Rattle.pairs.proofs.ones.Goals as goal

pub loop-word-init : goal.loop-word-init
unfolding sum_below count_below
loop-word-init c = (omega arith, refl)

pub loop-word-preserved : goal.loop-word-preserved
loop-word-preserved c =
    let i = c.loop-word.word-index in
    let s = c.args.words.now in
    let few : ones (get_or s i 0) ≤ 64 = ones-le 64 _ (c.type_inv.words i).fits in
    (omega (arith, few), omega (arith, word-count s i (c.type_inv.words i).fits))
