-- A round's set of letters as a number (02, W4): rule 21, and the set that masks stand for, with its refusals.
-- Manual: "Completions and verdicts", "Refusals".
use Rattle.std.specs.Prelude.{Result, IfOk, ◌≡◌, Bool, not, ◌&&◌, ◌||◌, List, [], ◌∷◌, ℕ, ◌^◌, ◌<◌, eqb, leb}
use Rattle.outcomes.specs.Decided.{Check, test, Decided}
use Rattle.outcomes.specs.declared.Refusal.TheVariants.{Counts, Letter}
use Rattle.outcomes.specs.Outcome.{as_outcome}
use Rattle.outcomes.specs.declared.Refusal.{Refusal}
use Rattle.words.specs.Bits.{bit}
use Rattle.completions.specs.Completion.{masked}
use Rattle.letters.specs.Masks.{bad_masks}

-- the set is empty, or has a letter that isn't below 2^m
unfoldable pub bad_set : ℕ → ℕ → Bool
bad_set m w = eqb w 0 || leb (2 ^ (2 ^ m)) w

-- w is the set of the letters below 2^m that agree with the masks
pub record MaskSet (m known val w : ℕ) : Type 0 where
  pub small : w < 2 ^ (2 ^ m)
  pub letters : (l : ℕ) → l < 2 ^ m → bit l w ≡ masked known val l

-- a set from masks: 4 where m isn't 1 to 6, then 11
abbrev pub mask_checks : ℕ → ℕ → ℕ → List Check
mask_checks m known val =
    test Counts (not (leb 1 m && leb m 6))
    ∷ (test Letter (bad_masks m known val)
    ∷ [])

-- what a call that makes a set from masks means: how it is decided, and the set; a refusal comes without one
pub record MasksCall (m known val : ℕ) (r : Result ℕ Refusal) : Type 0 where
  pub decided : Decided (mask_checks m known val) (as_outcome r)
  pub result : IfOk r (MaskSet m known val)
