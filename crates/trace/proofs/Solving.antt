-- Passes until nothing changes.
use mathlib.Core.Path.{◌≡◌, subst}
use mathlib.Core.Bool.{Bool, true}
use mathlib.Core.List.{List}
use Prim.Native.Nat.{ℕ, ◌+◌, ◌*◌}
use native.Mathlib.Numerals.{add-one}
use Rattle.circular.specs.Table.{reads_of}
use Rattle.circular.specs.Places.{Assignment, Reads, Solves, Right}
use Rattle.circular.proofs.Unique.{run, solution}
use Rattle.circular.proofs.Sweep.{right-start, right_end, solves_of}
use Rattle.trace.specs.Passes.{values_of, SameShape, Passed, Extends, Solved}
use Rattle.trace.proofs.Passes.{kept-none, kept_then}

-- k passes are done
pub record Going (n N : ℕ) (f : Assignment → Assignment) (old new : List ℕ) (k : ℕ) : Type 0 where
  pub kept : SameShape n old new
  pub right : (E : ℕ → ℕ → ℕ → Bool) → Reads n E N f → (sol : Assignment) → Solves n N f sol → Right n E N sol k (values_of new)

module _ (n N : ℕ) (f : Assignment → Assignment) (old : List ℕ) where
  pub going_start : Going n N f old old 0
  going_start =
      record { kept = kept-none n old; right = λ E local sol good. right-start n E N sol (values_of old) }

  module _ (new newer : List ℕ) (changed : Bool) (k : ℕ) (g : Going n N f old new k) (p : Passed n N f (λ s t. Unit {0}) new newer changed) where
    pub going_more : Going n N f old newer (k + 1)
    going_more =
        record {
          kept = kept_then g.kept p.kept;
          right = λ E local sol good.
              rw (add-one k)
              (record { all = λ s t pl. p.further E local sol good k (g.right E local sol good) s t pl tt });
        }

  pub going_end : (new : List ℕ) (k : ℕ) → k ≡ n * N → Going n N f old new k → Solved n N f old new
  going_end new k e g =
      record {
        kept = g.kept;
        holds = λ E local level.
            let sol : Assignment = run f (n * N) in
            let good : Solves n N f sol = solution n E N f local level in
            solves_of n E N f local sol (values_of new) good
            (right_end n E N sol level (values_of new) (subst (λ (j : ℕ). Right n E N sol j (values_of new)) e (g.right E local sol good)));
      }

-- all places are right
pub solved_all : {n N : ℕ} {f : Assignment → Assignment} {masks : List (List ℕ)} {all : Bool} {old new : List ℕ} → Extends n N f masks (λ q u. ⊥) (λ q u. all ≡ true) old new
    → Reads n (reads_of masks) N f → all ≡ true → Solved n N f old new
solved_all {n} {N} {f} {new = new} x reads e =
    record {
      kept = x.kept;
      holds = λ E local level.
          let sol : Assignment = run f (n * N) in
          let good : Solves n N f sol = solution n E N f local level in
          solves_of n E N f local sol (values_of new) good (λ s t pl. x.right reads sol good (λ q u p z. absurd z) s t pl e);
    }
