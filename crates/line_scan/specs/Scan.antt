-- For the contracts of inner functions: what the program keeps of the line that it is reading.
use Rattle.std.specs.Prelude.{◌≡◌, true, false, List, [], ◌∷◌, ◌++◌, ℕ, ◌^◌, ◌≤◌, ◌<◌, length}
use Rattle.std.specs.Int.Bits.{bit_or}
use Rattle.words.specs.Bits.{from_bits}
use Rattle.letter_table.specs.Entry.{entry_of}
use Rattle.line_scan.specs.Lines.{all_marks, alternatives_from, all_whole, fits_one, is_dot, malformed, read_line}
use Rattle.line_scan.specs.Index.{index_of}
use Rattle.line_scan.specs.declared.kept.Alternatives.{Alternatives}
use Rattle.line_scan.specs.declared.Pending.{Pending}
use Rattle.line_scan.specs.declared.Pending.TheVariants.{Blank, Marks, Dot, Malformed}

-- the alternative at hand has at most six marks, a digit of the next one counts `place`, and the index is smaller: it lies in the table
pub record Indexed (q : Alternatives) : Type 0 where
  pub few : q.count ≤ 6
  pub place : q.place ≡ 3 ^ q.count
  pub below : q.index < q.place

abbrev pub InTable : Pending → Type 0
InTable Blank = Unit {0}
InTable (Marks q) = Indexed q
InTable Dot = Unit {0}
InTable Malformed = Unit {0}

-- no mark of an alternative has come, behind alternatives with this set
abbrev pub no_marks : ℕ → Alternatives
no_marks set = record { set = set; count = 0; index = 0; place = 1 }

-- the set of the alternatives that a bar ended, joined with the entry of the one at hand
abbrev pub joined : Alternatives → ℕ
joined q = bit_or q.set (entry_of q.index)

-- the bytes are whole alternatives, each with its bar, and then at most m marks; the set is that of the former, the index that of the latter
pub record Parted (m : ℕ) (part : List ℕ) (q : Alternatives) : Type 0 where
  pub done : List (List ℕ)
  pub last : List ℕ
  pub splits : (rest : List ℕ) → alternatives_from [] (part ++ rest) ≡ done ++ alternatives_from last rest
  pub whole : all_whole m done ≡ true
  pub marks : all_marks last ≡ true
  pub few : length last ≤ m
  pub set : q.set ≡ from_bits (2 ^ m) (fits_one done)
  pub count : q.count ≡ length last
  pub index : q.index ≡ index_of last

-- and there are some, and more than a dot
pub record Marked (m : ℕ) (part : List ℕ) (q : Alternatives) : Type 0 where
  pub some : 0 < length part
  pub no_dot : is_dot part ≡ false
  pub parted : Parted m part q

-- whatever follows these bytes, the line is malformed
abbrev pub Spoiled : ℕ → List ℕ → Type 0
Spoiled m part = (rest : List ℕ) → read_line m (part ++ rest) ≡ malformed

-- what is kept of the bytes of a line, in a journal of m inputs
abbrev pub Scanned : ℕ → List ℕ → Pending → Type 0
Scanned m part Blank = part ≡ []
Scanned m part (Marks q) = Marked m part q
Scanned m part Dot = part ≡ 46 ∷ []
Scanned m part Malformed = Spoiled m part
