-- The table of letter sets (02, W5): which letters each entry has, and the text of all entries.
-- Manual: "The table of letter sets".
use Rattle.std.specs.Prelude.{◌≡◌, Bool, true, ◌&&◌, ◌||◌, List, [], ◌∷◌, ◌++◌, ℕ, zero, suc, ◌/◌, ◌%◌, ◌<◌, eqb, length, get_or}
use Rattle.words.specs.Bits.{bit, from_bits}
use Rattle.buffer.specs.Decimal.{decimal}

-- the letter l matches the k lowest digits of e in base 3, the lowest being input 0's: 2 is unknown, 0 and 1 are the input's value
unfoldable pub matches_digits : ℕ → ℕ → ℕ → Bool
matches_digits zero e l = true
matches_digits (suc k) e l = (eqb (e % 3) 2 || eqb (e % 3) (l % 2)) && matches_digits k (e / 3) (l / 2)

-- the list is the table: bit l of entry e is set exactly if letter l matches all six digits of e
pub record Sets (t : List ℕ) : Type 0 where
  pub size : length t ≡ 729
  pub rule : (e : ℕ) → e < 729 → (l : ℕ) → l < 64 → bit l (get_or t e 0) ≡ matches_digits 6 e l

-- the number of entry e
unfoldable pub entry_of : ℕ → ℕ
entry_of e = from_bits 64 (matches_digits 6 e)

-- n entries in decimal from entry e on, each with a line feed
unfoldable pub table_text : ℕ → ℕ → List ℕ
table_text e zero = []
table_text e (suc n) = (decimal (entry_of e) ++ (10 ∷ [])) ++ table_text (suc e) n
