-- The lines of the program's standard input and what each stands for (01, "The journal program"; 02, W3 and W4).
-- Manual: "The program".
use Rattle.std.specs.Prelude.{Bool, true, false, cond, ◌&&◌, ◌||◌, List, [], ◌∷◌, ◌++◌, ℕ, ◌+◌, ◌/◌, ◌%◌, ◌^◌, eqb, length}
use Rattle.words.specs.Bits.{from_bits}
use Rattle.sheet.specs.RuleSheet.{RuleSheet}
use Rattle.claims.specs.Book.{Call, round, closing, Book}

-- the lines from here on, when `part` is what has come of the first: a last line may lack its line feed, and the empty end after a last line
-- feed isn't a line
abbrev pub last_line : List ℕ → List (List ℕ)
last_line [] = []
last_line (b ∷ part) = (b ∷ part) ∷ []

unfoldable pub lines_from : List ℕ → List ℕ → List (List ℕ)
lines_from part [] = last_line part
lines_from part (b ∷ bs) = cond (eqb b 10) (part ∷ lines_from [] bs) (lines_from (part ++ (b ∷ [])) bs)

abbrev pub lines_of : List ℕ → List (List ℕ)
lines_of input = lines_from [] input

-- the whole lines of an input: its bytes up to and with the last line feed
unfoldable pub has_feed : List ℕ → Bool
has_feed [] = false
has_feed (b ∷ bs) = eqb b 10 || has_feed bs

unfoldable pub whole_lines : List ℕ → List ℕ
whole_lines [] = []
whole_lines (b ∷ bs) = cond (has_feed (b ∷ bs)) (b ∷ whole_lines bs) []

-- `0`, `1` or `?`
abbrev pub is_mark : ℕ → Bool
is_mark b = eqb b 48 || (eqb b 49 || eqb b 63)

unfoldable pub all_marks : List ℕ → Bool
all_marks [] = true
all_marks (b ∷ bs) = is_mark b && all_marks bs

-- the alternatives of a line (02, W4), which bars part, when `part` is what has come of the first
unfoldable pub alternatives_from : List ℕ → List ℕ → List (List ℕ)
alternatives_from part [] = part ∷ []
alternatives_from part (b ∷ bs) = cond (eqb b 124) (part ∷ alternatives_from [] bs) (alternatives_from (part ++ (b ∷ [])) bs)

abbrev pub alternatives : List ℕ → List (List ℕ)
alternatives l = alternatives_from [] l

-- m marks
abbrev pub whole : ℕ → List ℕ → Bool
whole m a = eqb (length a) m && all_marks a

unfoldable pub all_whole : ℕ → List (List ℕ) → Bool
all_whole m [] = true
all_whole m (a ∷ as') = whole m a && all_whole m as'

-- a letter fits marks, input 0 first: `0` and `1` are the input's value, `?` is either
unfoldable pub fits : List ℕ → ℕ → Bool
fits [] l = true
fits (b ∷ bs) l = (eqb b 63 || eqb b (48 + l % 2)) && fits bs (l / 2)

-- it fits one of the alternatives
unfoldable pub fits_one : List (List ℕ) → ℕ → Bool
fits_one [] l = false
fits_one (a ∷ as') l = fits a l || fits_one as' l

-- the set of a line with m inputs: the letters below 2^m that fit one of its alternatives
unfoldable pub line_set : ℕ → List ℕ → ℕ
line_set m l = from_bits (2 ^ m) (fits_one (alternatives l))

pub data Line : Type 0 where
  blank : Line
  calls : Call → Line
  malformed : Line

-- the line is `.` alone
abbrev pub is_dot : List ℕ → Bool
is_dot [] = false
is_dot (b ∷ []) = eqb b 46
is_dot (b ∷ c ∷ bs) = false

-- what a line stands for in a journal of m inputs
abbrev pub nonblank : ℕ → List ℕ → Line
nonblank m l = cond (is_dot l) (calls closing) (cond (all_whole m (alternatives l)) (calls (round (line_set m l))) malformed)

unfoldable pub read_line : ℕ → List ℕ → Line
read_line m [] = blank
read_line m (b ∷ bs) = nonblank m (b ∷ bs)

-- all letters of m inputs
unfoldable pub all_letters : ℕ → ℕ
all_letters m = from_bits (2 ^ m) (λ l. true)

-- what a line asks of a journal that is closed or not (02, W3): a blank one asks for a round with every signal unknown, and after the closing
-- for nothing
abbrev pub asked : ℕ → Bool → Line → Line
asked m false blank = calls (round (all_letters m))
asked m true blank = blank
asked m shut (calls c) = calls c
asked m shut malformed = malformed

-- and of the journal that a book is of
abbrev pub asks : RuleSheet → Book → List ℕ → Line
asks x b line = asked x.inputs b.shut (read_line x.inputs line)
