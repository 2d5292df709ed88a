-- The parts of a sheet that was read (01, "The sheet"): its counts, where its expressions stand, and which of them parse. A module apart, which
-- names no sheet, as the type of a sheet cites it.
-- Manual: "The sheet".
use Rattle.std.specs.Prelude.{Option, Bool, true, false, ◌&&◌, List, [], ℕ, ◌+◌, ◌*◌, ◌≤◌, ◌<◌, length, take, drop, get_or, leb}
use Rattle.std.specs.Option.{ForSome}
use Rattle.sheet.specs.Expression.{newest, Parsed, tree, broken, parse}
use Rattle.sheet.specs.declared.OutputNo.{OutputNo}

-- m is 1 to 6, n is 1 to 7, m + n is at most 8
pub record Ranges (m n : ℕ) : Type 0 where
  pub an_input : 1 ≤ m
  pub inputs : m ≤ 6
  pub an_output : 1 ≤ n
  pub outputs : n ≤ 7
  pub streams : m + n ≤ 8

-- the output that must be true in every round, where there is one
abbrev pub Assumed : Type 0
Assumed = Option OutputNo

-- it is one of the n outputs
abbrev pub Below : Assumed → ℕ → Type 0
Below a n = ForSome a (λ k. k.0 < n)

-- the bytes of output k's expression: the first of the 64 from 64 k on
abbrev pub code_at : List ℕ → List ℕ → ℕ → List ℕ
code_at code len k = take (get_or len k 0) (drop (64 * k) code)

abbrev pub is_tree : Parsed → Bool
is_tree (tree t) = true
is_tree (broken r) = false

-- an expression of 1 to 64 bytes that parses, in a sheet of s streams
unfoldable pub parses : ℕ → List ℕ → Bool
parses s e = leb 1 (length e) && (leb (length e) 64 && is_tree (parse (newest s) [] e))
