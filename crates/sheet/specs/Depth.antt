-- For the contracts of inner functions: the number of values on the stack after an operation, or the rule that it breaks. The code keeps
-- no more of a stack of trees.
use Rattle.std.specs.Prelude.{Result, Ok, Err, cond, ℕ, ◌+◌, ◌-◌, ltb}
use Rattle.outcomes.specs.declared.Refusal.{Refusal}
use Rattle.outcomes.specs.declared.Refusal.TheVariants.{Byte, Values}
use Rattle.sheet.specs.Expression.{has_equal}
use Rattle.sheet.specs.declared.Grammar.{Grammar}
use Rattle.sheet.specs.Bytes.{Decoded}
use Rattle.sheet.specs.declared.Op.TheVariants.{Const, Not, And, Or, Equal, Read}

unfoldable pub depth_after : Grammar → Decoded → ℕ → Result ℕ Refusal
depth_after s (Ok (Const v)) d = Ok (d + 1)
depth_after s (Ok Not) d = cond (ltb d 1) (Err Values) (Ok d)
depth_after s (Ok And) d = cond (ltb d 2) (Err Values) (Ok (d - 1))
depth_after s (Ok Or) d = cond (ltb d 2) (Err Values) (Ok (d - 1))
depth_after s (Ok Equal) d = cond (has_equal s) (cond (ltb d 2) (Err Values) (Ok (d - 1))) (Err Byte)
depth_after s (Ok (Read q o v)) d = cond (ltb q.0 s.streams) (Ok (d + 1)) (Err Byte)
depth_after s (Err r) d = Err r
