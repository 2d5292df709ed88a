-- For the contracts of inner functions: a trace as the values of its outputs by output and round, rounds counted from 1; right sides that
-- look at the places that are read; values that are right but for the chains of reads. The proofs here that a sheet has exactly one trace over
-- its inputs are about these, and contracts of `trace` cite them.
use Rattle.std.specs.Prelude.{◌≡◌, Bool, cond, ◌&&◌, ℕ, suc, ◌+◌, ◌-◌, ◌≤◌, ◌<◌, leb, ltb}
use Rattle.sheet.specs.Expression.{Expr}
use Rattle.lola.specs.Value.{Look, value}
use Rattle.lola.specs.Reads.{offset_no}
use Rattle.circular.specs.Circular.{Read}

-- a value for each stream or output in each round
abbrev pub Assignment : Type 0
Assignment = ℕ → ℕ → Bool

-- the streams: inputs xs first, then outputs v
unfoldable pub joint : ℕ → Assignment → Assignment → Assignment
joint m xs v q u = cond (ltb q m) (xs q u) (v (q - m) u)

-- the reads in round t of a trace of N rounds: a round outside 1..N gives the default
unfoldable pub look_at : ℕ → ℕ → Assignment → Assignment → ℕ → Look
look_at m N xs v t q o d = cond (leb 2 (t + offset_no o) && leb (t + offset_no o) (suc N)) (joint m xs v q (t + offset_no o - 1)) d

-- the right side of output s in round t
unfoldable pub right : ℕ → (ℕ → Expr) → ℕ → Assignment → Assignment → ℕ → ℕ → Bool
right m ex N xs v s t = value (look_at m N xs v t) (ex s)

-- a place of the trace
pub record Place (n N s t : ℕ) : Type 0 where
  pub s_lt : s < n
  pub t_low : 1 ≤ t
  pub t_high : t ≤ N

-- the equations: f v s t is the value of the right side of s in round t, at the values v
pub record Reads (n : ℕ) (E : ℕ → ℕ → ℕ → Bool) (N : ℕ) (f : Assignment → Assignment) : Type 0 where
  pub only : (v w : Assignment) (s t : ℕ) → Place n N s t → ((q u : ℕ) → Read n E N s t q u → v q u ≡ w q u) → f v s t ≡ f w s t

pub record Solves (n N : ℕ) (f : Assignment → Assignment) (v : Assignment) : Type 0 where
  pub all : (s t : ℕ) → Place n N s t → v s t ≡ f v s t

-- k reads, one after the other
pub data Chain (n : ℕ) (E : ℕ → ℕ → ℕ → Bool) (N : ℕ) : ℕ → ℕ → ℕ → Type 0 where
  stop : {s t : ℕ} → Chain n E N 0 s t
  go : {k s t q u : ℕ} → Read n E N s t q u → Chain n E N k q u → Chain n E N (suc k) s t

module _ (n : ℕ) (E : ℕ → ℕ → ℕ → Bool) (N : ℕ) (sol : Assignment) where
  -- right if no chain of k reads starts here
  abbrev pub RightAt : ℕ → Assignment → ℕ → ℕ → Type 0
  RightAt k v s t = (Chain n E N k s t → ⊥) → v s t ≡ sol s t

  -- at every place
  pub record Right (k : ℕ) (v : Assignment) : Type 0 where
    pub all : (s t : ℕ) → Place n N s t → RightAt k v s t
