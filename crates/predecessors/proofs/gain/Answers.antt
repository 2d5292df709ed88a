-- `predecessors::gain` meets its contract.
use Rattle.std.proofs.Common.{Bool, ◌&&◌, ◌||◌, bit_and, get_or, sym, ap, ◌∙◌, arith}
use Rattle.words.specs.Bits.{bit}
use Rattle.words.proofs.BitLaws.{bit-and, bit-or}
use Rattle.pairs.proofs.RowWords.{row_lane}
use Rattle.predecessors.proofs.Rows.{gains-more, gains-all}
use Rattle.predecessors.proofs.gain.Goals as goal

pub loop-j-preserved : goal.loop-j-preserved
loop-j-preserved c =
    let j = c.loop-j.j in
    let ok = get_or c.args.ok.now j 0 in
    let x = get_or c.args.x.now j 0 in
    gains-more _ _ _ _ _ _ (omega arith) c.loop-j.invariant
    (λ i h.
    bit-or i _ (bit_and ok x)
    ∙ ap (λ (u : Bool). bit i (get_or c.loop-j.row j 0) || u) (bit-and i ok x ∙ ap (λ (u : Bool). bit i ok && u) (sym (row_lane c.args.x.now j i h))))

pub returns : goal.returns
returns c = gains-all _ _ _ _ _ _ (omega arith) c.loop-j.invariant
