-- `reader::read_sheet` meets its contract.
use Rattle.std.proofs.Common.{sym, ap, ◌∙◌, arith}
use Rattle.std.proofs.lemmas.Result.{err_from_is_err_and}
use Rattle.sheet.specs.RuleSheet.{with_outputs, read_sheet}
use Rattle.sheet.proofs.Headers.{fields}
use Rattle.sheet.proofs.Sheets.{of-parses}
use Rattle.reader.proofs.AllOutputs.{all-trees, all-broken}
use Rattle.reader.proofs.read_sheet.Goals as goal

pub overflow_add-grammar : goal.overflow_add-grammar
overflow_add-grammar c = omega (arith, (fields _ _ _ _ (sym c.read_header.ensures ∙ c.in_ok-header.was)).1.streams)

pub version-requires : goal.version-requires
version-requires c = (fields _ _ _ _ (sym c.read_header.ensures ∙ c.in_ok-header.was)).0

pub read_outputs-requires : goal.read_outputs-requires
read_outputs-requires c = let f = fields _ _ _ _ (sym c.read_header.ensures ∙ c.in_ok-header.was) in (f.0, f.1.outputs)

pub returns-in_err-header : goal.returns-in_err-header
unfolding read_sheet
returns-in_err-header c =
    let p = err_from_is_err_and c.from_residual.result c.from_residual.ensures.1 in
    rw (p.1, p.2, sym c.read_header.ensures ∙ c.in_err-header.was)

pub returns-in_err-read_outputs : goal.returns-in_err-read_outputs
unfolding read_sheet
returns-in_err-read_outputs c =
    let e = sym c.read_header.ensures ∙ c.in_ok-header.was in
    let h = c.in_ok-header.header in
    let o = all-broken _ _ _ _ (rw c.version.ensures at c.read_outputs.ensures.reading) c.in_err-read_outputs.was in
    let p = err_from_is_err_and c.from_residual-in_err-read_outputs.result c.from_residual-in_err-read_outputs.ensures.1 in
    rw (p.1, p.2, e) (sym (ap (with_outputs h.inputs h.outputs h.assumed) o))

pub invariant_of-result : goal.invariant_of-result
invariant_of-result c =
    let f = fields _ _ _ _ (sym c.read_header.ensures ∙ c.in_ok-header.was) in
    let x = rw c.in_ok-read_outputs.was at c.read_outputs.ensures.held in
    record {
      ranges = f.1;
      code_size = x.code_size;
      sizes = x.sizes;
      below = f.2;
      small = x.small;
      parts = λ k l. of-parses _ _ (x.parts k l);
    }

pub returns : goal.returns
unfolding read_sheet
returns c =
    let e = sym c.read_header.ensures ∙ c.in_ok-header.was in
    let h = c.in_ok-header.header in
    let o = all-trees _ _ _ (rw c.version.ensures at c.read_outputs.ensures.reading) c.in_ok-read_outputs.was in
    rw e (sym (ap (with_outputs h.inputs h.outputs h.assumed) o))
