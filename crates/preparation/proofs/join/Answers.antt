-- `preparation::join` meets its contract.
use Rattle.std.proofs.Common.{sym, ◌∙◌}
use Rattle.preparation.proofs.Joining.{joined-not, joined-both, occupied_more}
use Rattle.preparation.proofs.join.Goals as goal

pub returns-then-has : goal.returns-then-has
returns-then-has c = record { joins = joined-not _ _ _ _ (sym c.has.ensures ∙ c.if-has.true); by_index = λ w hw ha o. o }

pub returns : goal.returns
returns c = record {
  joins = joined-both _ _ _ _ _ _ c.requires.2 (sym c.has.ensures ∙ c.if-has.false) c.insert.ensures c.insert-2.ensures;
  by_index = λ w hw ha. occupied_more w _ _ _ _ _ _ _ _ ha hw c.requires.1 c.requires.2 c.insert.ensures c.insert-2.ensures c.note.ensures;
}
