-- The meaning of an expression byte (01, "The sheet", the list of expression bytes).
-- Manual: "The sheet".
use Rattle.std.specs.Prelude.{Result, Ok, Err, Bool, true, false, cond, ◌&&◌, ℕ, ◌-◌, leb, eqb}
use Rattle.outcomes.specs.declared.Refusal.{Refusal}
use Rattle.outcomes.specs.declared.Refusal.TheVariants.{Byte}
use Rattle.sheet.specs.declared.Offset.{Offset}
use Rattle.sheet.specs.declared.Offset.TheVariants.{Earlier, Now, Later}
use Rattle.sheet.specs.declared.Op.{Op}
use Rattle.sheet.specs.declared.Op.TheVariants.{Const, Not, And, Or, Equal, Read}

-- an operation, or the rule that the byte breaks
abbrev pub Decoded : Type 0
Decoded = Result Op Refusal

-- b lies in lo..hi, both ends counted
abbrev pub within : ℕ → ℕ → ℕ → Bool
within lo hi b = leb lo b && leb b hi

-- the read of stream b - base
abbrev pub read_of : ℕ → ℕ → Offset → Bool → Decoded
read_of base b o d = Ok (Read (record { 0 = b - base }) o d)

-- 40 to 47 stream 0 to 7 now; 50 to 57 one round earlier, false if there is none; 58 to 5F earlier, true if none;
-- 60 to 67 one round later, false if none; 68 to 6F later, true if none; every other byte is unknown, rule 7
unfoldable pub reads_of : ℕ → Decoded
reads_of b =
    cond (within 0x40 0x47 b) (read_of 0x40 b Now false)
    (cond (within 0x50 0x57 b) (read_of 0x50 b Earlier false)
    (cond (within 0x58 0x5F b) (read_of 0x58 b Earlier true)
    (cond (within 0x60 0x67 b) (read_of 0x60 b Later false)
    (cond (within 0x68 0x6F b) (read_of 0x68 b Later true)
    (Err Byte)))))

-- 00 false; 01 true; 02 not; 03 and; 04 or; 05 equal (02, W1); the reads
unfoldable pub op_of : ℕ → Decoded
op_of b =
    cond (eqb b 0x00) (Ok (Const false))
    (cond (eqb b 0x01) (Ok (Const true))
    (cond (eqb b 0x02) (Ok Not)
    (cond (eqb b 0x03) (Ok And)
    (cond (eqb b 0x04) (Ok Or)
    (cond (eqb b 0x05) (Ok Equal)
    (reads_of b))))))
