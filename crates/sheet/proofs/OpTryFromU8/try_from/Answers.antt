-- A byte is an operation, or breaks rule 7.
use mathlib.Core.Path.{refl, sym}
use mathlib.Core.Bool.{true, false}
use native.Mathlib.Omega.{arith}
use Rattle.sheet.specs.Bytes.{op_of}
use Rattle.sheet.specs.declared.Offset.TheVariants.{Earlier, Now, Later}
use Rattle.sheet.proofs.Ops.{is_now, is_earlier_false, is_earlier_true, is_later_false, is_later_true, unknown_low, unknown_mid, unknown_high, by_eights}
use Rattle.sheet.proofs.OpTryFromU8.try_from.Goals as goal

pub returns-in-0 : goal.returns-in-0
unfolding op_of
returns-in-0 c = rw c.in-0.is

pub returns-in-1 : goal.returns-in-1
unfolding op_of
returns-in-1 c = rw c.in-1.is

pub returns-in-2 : goal.returns-in-2
unfolding op_of
returns-in-2 c = rw c.in-2.is

pub returns-in-3 : goal.returns-in-3
unfolding op_of
returns-in-3 c = rw c.in-3.is

pub returns-in-4 : goal.returns-in-4
unfolding op_of
returns-in-4 c = rw c.in-4.is

pub returns-in-5 : goal.returns-in-5
unfolding op_of
returns-in-5 c = rw c.in-5.is

pub returns-in-64-to-71 : goal.returns-in-64-to-71
returns-in-64-to-71 c = by_eights 0x40 _ Now false refl (omega arith) (omega arith) (is_now _ (omega arith) (omega arith))

pub returns-in-80-to-87 : goal.returns-in-80-to-87
returns-in-80-to-87 c = by_eights 0x50 _ Earlier false refl (omega arith) (omega arith) (is_earlier_false _ (omega arith) (omega arith))

pub returns-in-88-to-95 : goal.returns-in-88-to-95
returns-in-88-to-95 c = by_eights 0x58 _ Earlier true refl (omega arith) (omega arith) (is_earlier_true _ (omega arith) (omega arith))

pub returns-in-96-to-103 : goal.returns-in-96-to-103
returns-in-96-to-103 c = by_eights 0x60 _ Later false refl (omega arith) (omega arith) (is_later_false _ (omega arith) (omega arith))

pub returns-in-104-to-111 : goal.returns-in-104-to-111
returns-in-104-to-111 c = by_eights 0x68 _ Later true refl (omega arith) (omega arith) (is_later_true _ (omega arith) (omega arith))

pub returns-in_default : goal.returns-in_default
returns-in_default c = sym (unknown_low _ (omega arith) (omega arith))

pub returns-in_default-2 : goal.returns-in_default-2
returns-in_default-2 c = sym (unknown_mid _ (omega arith) (omega arith))

pub returns-in_default-3 : goal.returns-in_default-3
returns-in_default-3 c = sym (unknown_high _ (omega arith))
