-- Circular sheets (01, "Circular sheets"), first for n outputs and any table of reads: `E s q o` tells whether output s reads output q at
-- the offset o, where 0 is one round earlier, 1 the same round, 2 one round later.
-- Manual: "The language".
use Rattle.std.specs.Prelude.{◌≡◌, Bool, true, false, ℕ, ◌+◌, ◌≤◌, ◌<◌, get_or}
use Rattle.sheet.specs.Expression.{constant}
use Rattle.sheet.specs.RuleSheet.{RuleSheet, outputs}
use Rattle.lola.specs.Reads.{has_read}

-- output s reads output q at the offset o
pub record Edge (n : ℕ) (E : ℕ → ℕ → ℕ → Bool) (s q o : ℕ) : Type 0 where
  pub from : s < n
  pub to : q < n
  pub off : o ≤ 2
  pub is : E s q o ≡ true

-- In a trace of N rounds, the value of s in round t reads the value of q in round u: t and u are rounds of the trace, and u is t + o with
-- the offset counted from -1.
pub record Read (n : ℕ) (E : ℕ → ℕ → ℕ → Bool) (N s t q u : ℕ) : Type 0 where
  pub o : ℕ
  pub edge : Edge n E s q o
  pub shift : u + 1 ≡ t + o
  pub t_low : 1 ≤ t
  pub t_high : t ≤ N
  pub u_low : 1 ≤ u
  pub u_high : u ≤ N

-- the value of s in round t reaches the value of q in round u by one or more reads
pub data Reach (n : ℕ) (E : ℕ → ℕ → ℕ → Bool) (N : ℕ) : ℕ → ℕ → ℕ → ℕ → Type 0 where
  last : {s t q u : ℕ} → Read n E N s t q u → Reach n E N s t q u
  then : {s t r v q u : ℕ} → Read n E N s t r v → Reach n E N r v q u → Reach n E N s t q u

-- for some N, some value reaches itself
pub record Circular (n : ℕ) (E : ℕ → ℕ → ℕ → Bool) : Type 0 where
  pub N : ℕ
  pub s : ℕ
  pub t : ℕ
  pub reach : Reach n E N s t s t

-- The reads between the outputs of a sheet: one for each read byte, even where logic makes it irrelevant. Output q is stream m + q.
unfoldable pub edges : RuleSheet → ℕ → ℕ → ℕ → Bool
edges x s q o = has_read (get_or x.expressions s (constant false)) (x.inputs + q) o

-- the sheet is circular
abbrev pub CircularSheet : RuleSheet → Type 0
CircularSheet x = Circular (outputs x) (edges x)
