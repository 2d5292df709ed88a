-- `pairs::next_in` meets its contract.
use Rattle.std.proofs.Common.{◌≡◌, ◌<◌, ◌/◌, get_or, length, arith, sym, rules}
use Rattle.pairs.proofs.BitSearch.{found_at, none-more, found_word, none_word}
use Rattle.pairs.proofs.next_in.Goals as goal

pub returns-then-x-ne0 : goal.returns-then-x-ne0
returns-then-x-ne0 c =
    let l : c.args.from / 64 < length c.args.words.now = search rules in
    let e : c.in_ok-x.field-0.now ≡ get_or c.args.words.now (c.args.from / 64) 0 = search rules in
    rw e (found_at _ _ _ c.args.from (λ x g h. absurd (omega arith)) (omega arith) (omega arith) (c.type_inv.words _).fits (rw (sym e) c.if-x-ne0.true))

pub loop-j-init : goal.loop-j-init
loop-j-init c =
    let e : get_or c.args.words.now (c.args.from / 64) 0 ≡ c.in_ok-x.field-0.now = search rules in
    none-more _ 0 _ c.args.from (λ x g h. absurd (omega arith)) (rw e c.if-x-ne0.false)

pub returns-then-words-j-ne0 : goal.returns-then-words-j-ne0
returns-then-words-j-ne0 c = found_word _ _ _ c.loop-j.j c.loop-j.invariant (omega arith) c.loop-j-test.true (c.type_inv.words _).fits c.if-words-j-ne0.true

pub loop-j-preserved : goal.loop-j-preserved
loop-j-preserved c = none_word _ 0 _ c.loop-j.j c.loop-j.invariant c.if-words-j-ne0.false
