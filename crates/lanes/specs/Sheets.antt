-- For the contracts of inner functions: the rule sheet that equations stand for.
use Rattle.std.specs.Prelude.{List, ℕ}
use Rattle.sheet.specs.RuleSheet.{RuleSheet}
use Rattle.lanes.specs.declared.Equations.{Equations}
use Rattle.lanes.specs.Coded.{sheet_of}

-- which outputs it requires is of no concern to the equations
abbrev pub sheet_by : Equations → List ℕ → RuleSheet
sheet_by e ks = sheet_of e.size.inputs e.size.outputs e.code.now e.len.now ks
