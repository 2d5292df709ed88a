-- The first 8 bytes of a sheet (01, "The sheet"): rules 1 to 5, in their order (01, "What is turned down").
-- Manual: "The sheet".
use Rattle.std.specs.Prelude.{Option, Some, None, Result, Ok, Err, Bool, cond, ◌&&◌, ◌||◌, List, ℕ, ◌+◌, ◌*◌, length, get_or, leb, ltb, eqb}
use Rattle.outcomes.specs.declared.Refusal.{Refusal}
use Rattle.outcomes.specs.declared.Refusal.TheVariants.{Short, Mark, Version, Counts, Assumption}
use Rattle.sheet.specs.declared.OutputNo.{OutputNo}
use Rattle.sheet.specs.declared.Header.{Header}

-- bytes 0 to 2 are `SLR`
unfoldable pub mark_ok : List ℕ → Bool
mark_ok bs = eqb (get_or bs 0 0) 0x53 && (eqb (get_or bs 1 0) 0x4C && eqb (get_or bs 2 0) 0x52)

-- bytes 3 and 4 hold the version, low byte first
unfoldable pub version_of : List ℕ → ℕ
version_of bs = get_or bs 3 0 + 256 * get_or bs 4 0

-- a sheet has version 1 or 2 (02, W1)
unfoldable pub version_ok : ℕ → Bool
version_ok v = eqb v 1 || eqb v 2

-- m is 1 to 6, n is 1 to 7, m + n is at most 8
unfoldable pub counts_ok : ℕ → ℕ → Bool
counts_ok m n = leb 1 m && (leb m 6 && (leb 1 n && (leb n 7 && leb (m + n) 8)))

-- the assumption's byte: 255 for none, or an output number below n
unfoldable pub assumed_at : ℕ → ℕ → Result (Option OutputNo) Refusal
assumed_at a n =
    cond (eqb a 255) (Ok None)
    (cond (ltb a n) (Ok (Some (record { 0 = a })))
    (Err Assumption))

abbrev pub header : ℕ → ℕ → Option OutputNo → Result Header Refusal
header m n a = Ok (record { inputs = m; outputs = n; assumed = a })

abbrev pub fields_of : ℕ → ℕ → Result (Option OutputNo) Refusal → Result Header Refusal
fields_of m n (Ok a) = header m n a
fields_of m n (Err r) = Err r

-- m is byte 5, n is byte 6, the assumption is byte 7
unfoldable pub header_of : List ℕ → Result Header Refusal
header_of bs =
    cond (ltb (length bs) 8) (Err Short)
    (cond (mark_ok bs)
    (cond (version_ok (version_of bs))
    (cond (counts_ok (get_or bs 5 0) (get_or bs 6 0))
    (fields_of (get_or bs 5 0) (get_or bs 6 0) (assumed_at (get_or bs 7 0) (get_or bs 6 0)))
    (Err Counts))
    (Err Version))
    (Err Mark))
