-- For the contracts of inner functions: what is written into a buffer from a place on.
use Rattle.std.specs.Prelude.{◌≡◌, List, ◌++◌, ℕ, ◌+◌, ◌≤◌, length, take, drop}

-- bs went into d from at on, up to r, and e is the buffer then; what stands after r is not said
pub record Wrote (d : List ℕ) (at : ℕ) (bs : List ℕ) (e : List ℕ) (r : ℕ) : Type 0 where
  pub end : r ≡ at + length bs
  pub text : take r e ≡ take at d ++ bs
  pub size : length e ≡ length d

-- the same, and what stands after r is as it was: all of e is fixed. `size` follows from the other fields and is there for arithmetic.
pub record Placed (d : List ℕ) (at : ℕ) (bs : List ℕ) (e : List ℕ) (r : ℕ) : Type 0 where
  pub end : r ≡ at + length bs
  pub fits : r ≤ length d
  pub whole : e ≡ take at d ++ (bs ++ drop r d)
  pub size : length e ≡ length d
