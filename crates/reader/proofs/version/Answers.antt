-- `reader::version` meets its contract.
use native.Mathlib.Omega.{arith}
use borrow.Author.Rules.{rules}
use Rattle.sheet.specs.Header.{version_of}
use Rattle.reader.proofs.version.Goals as goal

pub overflow_mul-result : goal.overflow_mul-result
overflow_mul-result c = omega (arith, c.type_inv.s 4)

pub overflow_add-result : goal.overflow_add-result
overflow_add-result c = omega (arith, c.type_inv.s 4, c.type_inv.s 3)

pub returns : goal.returns
unfolding version_of
returns c = search rules
