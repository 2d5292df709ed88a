-- What the program prints (01, "The journal program"): verdicts, tallies and refusals as bytes.
-- Manual: "The program".
use Rattle.std.specs.Prelude.{List, [], ◌∷◌, ◌++◌, map, ℕ, zero, suc, get_or}
use Rattle.outcomes.specs.Numbers.{refusal_no}
use Rattle.outcomes.specs.declared.Refusal.{Refusal}
use Rattle.outcomes.specs.declared.Verdict.{Verdict}
use Rattle.outcomes.specs.declared.Verdict.TheVariants.{False, True, Open, Broken}
use Rattle.buffer.specs.Decimal.{decimal}

-- `0`, `1`, `?` or `!`
abbrev pub verdict_char : Verdict → ℕ
verdict_char False = 48
verdict_char True = 49
verdict_char Open = 63
verdict_char Broken = 33

-- the verdicts, and a line feed
abbrev pub verdict_line : List Verdict → List ℕ
verdict_line vs = map verdict_char vs ++ (10 ∷ [])

-- a space, and a number
abbrev pub spaced : ℕ → List ℕ
spaced n = 32 ∷ decimal n

-- `# output true false open broken share`, where `count k v` is the number of rounds with the verdict v on output k
unfoldable pub tally_line : (ℕ → Verdict → ℕ) → List ℕ → ℕ → List ℕ
tally_line count shares k =
    35 ∷ (spaced k ++ (spaced (count k True) ++ (spaced (count k False) ++ (spaced (count k Open) ++ (spaced (count k Broken) ++ (spaced (get_or shares k 0) ++ (10 ∷ [])))))))

-- such lines for n outputs, from output k on
unfoldable pub tally_lines : (ℕ → Verdict → ℕ) → List ℕ → ℕ → ℕ → List ℕ
tally_lines count shares k zero = []
tally_lines count shares k (suc n) = tally_line count shares k ++ tally_lines count shares (suc k) n

-- `=` and the verdicts, then the tallies of n outputs
abbrev pub closing_text : ℕ → List Verdict → (ℕ → Verdict → ℕ) → List ℕ → List ℕ
closing_text n vs count shares = 61 ∷ (verdict_line vs ++ tally_lines count shares 0 n)

-- `refused `, ` line ` and ` sheet`
abbrev pub refused_word : List ℕ
refused_word = 114 ∷ 101 ∷ 102 ∷ 117 ∷ 115 ∷ 101 ∷ 100 ∷ 32 ∷ []

abbrev pub line_word : List ℕ
line_word = 32 ∷ 108 ∷ 105 ∷ 110 ∷ 101 ∷ 32 ∷ []

abbrev pub sheet_word : List ℕ
sheet_word = 32 ∷ 115 ∷ 104 ∷ 101 ∷ 101 ∷ 116 ∷ []

-- `refused R line L` and `refused R sheet`
abbrev pub line_refusal : Refusal → ℕ → List ℕ
line_refusal r l = refused_word ++ (decimal (refusal_no r) ++ (line_word ++ (decimal l ++ (10 ∷ []))))

abbrev pub sheet_refusal : Refusal → List ℕ
sheet_refusal r = refused_word ++ (decimal (refusal_no r) ++ (sheet_word ++ (10 ∷ [])))
