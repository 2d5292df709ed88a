-- What the lines of the journal program never ask for, and what it never writes, as types (02, W4).
-- Manual: "The program".
use Rattle.std.specs.Prelude.{◌≡◌, false, List, ◌∷◌, ◌++◌, ℕ}
use Rattle.outcomes.specs.Numbers.{refusal_no}
use Rattle.outcomes.specs.declared.Refusal.TheVariants.{RoundSet}
use Rattle.buffer.specs.Decimal.{decimal}
use Rattle.text.specs.Text.{refused_word}
use Rattle.letters.specs.Sets.{bad_set}
use Rattle.claims.specs.Book.{round}
use Rattle.line_scan.specs.Lines.{calls, read_line}
use Rattle.line_end.specs.Printed.{Printed}

-- no line stands for a set that 21 refuses
abbrev pub NoBadLine : Type 0
NoBadLine = (m : ℕ) (line : List ℕ) (letters : ℕ) → read_line m line ≡ calls (round letters) → bad_set m letters ≡ false

-- nowhere in what is written for a sheet and an input stands `refused 21 `
abbrev pub NeverWritten : Type 0
NeverWritten = (sheet input before after : List ℕ) → Printed sheet input (before ++ (refused_word ++ (decimal (refusal_no RoundSet) ++ (32 ∷ after)))) → ⊥
