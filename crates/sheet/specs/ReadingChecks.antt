-- The rules of a sheet one by one, each said of the whole sheet, in the order of 01, "What is turned down": 1 to 5; then output by
-- output 6, byte by byte 7 before 8, 8 for the end; 9. Rule 10 is stated in the crate `circular`.
-- Manual: "Refusals".
use Rattle.std.specs.Prelude.{Ok, Err, Bool, true, false, not, ◌&&◌, ◌||◌, List, [], ◌∷◌, ◌++◌, ℕ, zero, suc, ◌+◌, ◌-◌, length, take, drop, get_or, leb, ltb, eqb}
use Rattle.outcomes.specs.Decided.{Check, test}
use Rattle.outcomes.specs.declared.Refusal.TheVariants.{Short, Mark, Version, Counts, Assumption, Length, Byte, Values, Leftover}
use Rattle.sheet.specs.Bytes.{op_of, Decoded}
use Rattle.sheet.specs.Expression.{has_equal}
use Rattle.sheet.specs.Header.{mark_ok, version_of, version_ok, counts_ok}
use Rattle.sheet.specs.declared.Grammar.{Grammar}
use Rattle.sheet.specs.declared.Op.TheVariants.{Const, Not, And, Or, Equal, Read}

-- the counts in the header
abbrev pub inputs_of : List ℕ → ℕ
inputs_of bs = get_or bs 5 0

abbrev pub outputs_of : List ℕ → ℕ
outputs_of bs = get_or bs 6 0

-- the grammar of its expressions
abbrev pub grammar_of : List ℕ → Grammar
grammar_of bs = record { version = version_of bs; streams = inputs_of bs + outputs_of bs }

-- where output k's length byte stands: after the header, and after the outputs before it
unfoldable pub output_at : List ℕ → ℕ → ℕ
output_at bs zero = 8
output_at bs (suc k) = output_at bs k + 1 + get_or bs (output_at bs k) 0

-- output k's length byte, and its expression's bytes
abbrev pub length_at : List ℕ → ℕ → ℕ
length_at bs k = get_or bs (output_at bs k) 0

abbrev pub expression_of : List ℕ → ℕ → List ℕ
expression_of bs k = take (length_at bs k) (drop (output_at bs k + 1) bs)

-- an operation that may stand in a sheet of the grammar s
unfoldable pub known : Grammar → Decoded → Bool
known s (Ok (Const v)) = true
known s (Ok Not) = true
known s (Ok And) = true
known s (Ok Or) = true
known s (Ok Equal) = has_equal s
known s (Ok (Read q o v)) = ltb q.0 s.streams
known s (Err r) = false

-- the values that an operation takes; it leaves one
unfoldable pub needs : Decoded → ℕ
needs (Ok (Const v)) = 0
needs (Ok Not) = 1
needs (Ok And) = 2
needs (Ok Or) = 2
needs (Ok Equal) = 2
needs (Ok (Read q o v)) = 0
needs (Err r) = 0

-- the number of values after the bytes of a list, from d values on
unfoldable pub height_from : ℕ → List ℕ → ℕ
height_from d [] = d
height_from d (b ∷ bs) = height_from (d + 1 - needs (op_of b)) bs

-- output k's length is missing, 0, over 64, or goes past the end
abbrev pub bad_length : List ℕ → ℕ → Bool
bad_length bs k =
    not (ltb (output_at bs k) (length bs)
    && (leb 1 (length_at bs k) && (leb (length_at bs k) 64 && leb (output_at bs k + 1 + length_at bs k) (length bs))))

-- byte i of output k's expression, as an operation
abbrev pub op_at : List ℕ → ℕ → ℕ → Decoded
op_at bs k i = op_of (get_or (expression_of bs k) i 0)

-- it is unknown to the sheet's version, or its stream isn't below m + n
abbrev pub bad_byte : List ℕ → ℕ → ℕ → Bool
bad_byte bs k i = not (known (grammar_of bs) (op_at bs k i))

-- it lacks a value
abbrev pub bad_values : List ℕ → ℕ → ℕ → Bool
bad_values bs k i = ltb (height_from 0 (take i (expression_of bs k))) (needs (op_at bs k i))

-- the end of output k's expression doesn't leave one value
abbrev pub bad_end : List ℕ → ℕ → Bool
bad_end bs k = not (eqb (height_from 0 (expression_of bs k)) 1)

-- bytes are left over behind the last output
abbrev pub left_over : List ℕ → Bool
left_over bs = ltb (output_at bs (outputs_of bs)) (length bs)

-- the checks of output k's expression, from byte i on, r bytes: byte by byte 7 before 8
unfoldable pub byte_checks : List ℕ → ℕ → ℕ → ℕ → List Check
byte_checks bs k i zero = []
byte_checks bs k i (suc r) = test Byte (bad_byte bs k i) ∷ (test Values (bad_values bs k i) ∷ byte_checks bs k (suc i) r)

-- the checks of r outputs, from output k on: 6, then its bytes, then 8 for its end
unfoldable pub output_checks : List ℕ → ℕ → ℕ → List Check
output_checks bs k zero = []
output_checks bs k (suc r) =
    test Length (bad_length bs k) ∷ (byte_checks bs k 0 (length_at bs k) ++ (test Values (bad_end bs k) ∷ output_checks bs (suc k) r))

-- rules 1 to 9 of a sheet, in their order
unfoldable pub reading_checks : List ℕ → List Check
reading_checks bs =
    test Short (ltb (length bs) 8)
    ∷ (test Mark (not (mark_ok bs))
    ∷ (test Version (not (version_ok (version_of bs)))
    ∷ (test Counts (not (counts_ok (inputs_of bs) (outputs_of bs)))
    ∷ (test Assumption (not (eqb (get_or bs 7 0) 255 || ltb (get_or bs 7 0) (outputs_of bs)))
    ∷ (output_checks bs 0 (outputs_of bs) ++ (test Leftover (left_over bs) ∷ []))))))
