-- The equations of a sheet in one round, and the traces that satisfy them (004, section 2.2; 01, "Whole traces"). A valuation is a
-- number below 2 ^ (m + n) whose bit q is the value of stream q: the m inputs first, then the n outputs. A trace is the list of its
-- rounds' valuations, round 1 first.
-- Manual: "The language".
use Rattle.std.specs.Prelude.{Bool, true, ◌&&◌, List, [], ◌∷◌, ℕ, suc, ◌+◌, ◌*◌, ◌%◌, ◌^◌, ◌<◌, T}
use Rattle.std.specs.Bool.{beq}
use Rattle.std.proofs.Math.Option.{Option, none, some}
use Rattle.words.specs.Bits.{bit}
use Rattle.sheet.specs.Expression.{Expr}
use Rattle.sheet.specs.RuleSheet.{RuleSheet, streams}
use Rattle.lola.specs.Value.{value, neighbours}

-- the streams q, q + 1, .. of v have the values of the expressions es
unfoldable pub equations : List Expr → ℕ → Option ℕ → ℕ → Option ℕ → Bool
equations [] q p v n = true
equations (e ∷ es) q p v n = beq (bit q v) (value (neighbours p v n) e) && equations es (suc q) p v n

-- v satisfies all equations of the sheet, after p and before n
unfoldable pub holds : RuleSheet → Option ℕ → ℕ → Option ℕ → Bool
holds x p v n = equations x.expressions x.inputs p v n

-- the first valuation of a list, or none at the end of the trace
abbrev pub first : List ℕ → Option ℕ
first [] = none
first (v ∷ vs) = some v

-- Each valuation of the list satisfies all equations with its neighbours: p stands before the list, nothing follows the last.
abbrev pub Satisfies : RuleSheet → Option ℕ → List ℕ → Type 0
Satisfies x p [] = Unit {0}
Satisfies x p (v ∷ vs) = (v < 2 ^ streams x) × T (holds x p v (first vs)) × Satisfies x (some v) vs

-- the letter of a valuation: its inputs, a number below 2 ^ m
abbrev pub letter : RuleSheet → ℕ → ℕ
letter x v = v % 2 ^ x.inputs

-- the value of output k in a valuation
abbrev pub output : RuleSheet → ℕ → ℕ → Bool
output x k v = bit (x.inputs + k) v

-- every number of the list is a letter of m inputs
abbrev pub Letters : ℕ → List ℕ → Type 0
Letters m [] = Unit {0}
Letters m (l ∷ ls) = (l < 2 ^ m) × Letters m ls

-- the valuations of letters and output bytes (bit k of a byte is output k), round by round
abbrev pub joined : ℕ → List ℕ → List ℕ → List ℕ
joined m [] os = []
joined m (l ∷ ls) [] = []
joined m (l ∷ ls) (o ∷ os) = (l + 2 ^ m * o) ∷ joined m ls os
