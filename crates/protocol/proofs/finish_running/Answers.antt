-- Nothing stands behind the last line feed, or a last line ends here.
use Rattle.std.proofs.Common.{List, ◌++◌, ℕ, sym, subst}
use Rattle.line_end.specs.Printed.{Printed}
use Rattle.protocol.proofs.Feeding.{none_last, line-last}
use Rattle.protocol.proofs.finish_running.Goals as goal

pub returns-then-is_blank-clause-finishes : goal.returns-then-is_blank-clause-finishes
returns-then-is_blank-clause-finishes c = λ sheet seen wrote st.
    none_last sheet _ _ _ _ seen wrote st.stage (c.is_blank.ensures.yes c.if-is_blank.true _ st.stage.part st.stage.scanned)

pub returns-clause-finishes : goal.returns-clause-finishes
returns-clause-finishes c = λ sheet seen wrote st.
    let m = st.stage in
    let le = c.line_end-e.ensures.ended sheet m.book m.part st.accepts m.serves (c.asked-meaning.ensures m.part m.scanned) in
    subst (λ (z : List ℕ). Printed sheet seen (wrote ++ z)) (sym le.wrote.text)
    (line-last sheet _ _ _ _ seen wrote m _ _ _ _ _ le (c.is_blank.ensures.no c.if-is_blank.false _ m.part m.scanned))
