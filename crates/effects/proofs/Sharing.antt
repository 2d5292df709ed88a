-- The shares, output by output.
use mathlib.Core.Path.{◌≡◌, refl, ◌∙◌}
use mathlib.Core.List.{List}
use Prim.Native.Nat.{ℕ, ◌+◌, ◌<◌, ◌≤◌}
use native.Mathlib.Omega.{arith}
use lib.ListN.{length, get_or, set, length-set, replicate}
use lib.Seq.{get_or-set_other}
use Rattle.outcomes.specs.declared.Verdict.TheVariants.{True}
use Rattle.words.proofs.ListLaws.{zeros, set_more}
use Rattle.record.specs.Record.{count_at, share}
use Rattle.record.specs.declared.JournalRecord.{JournalRecord}
use Rattle.effects.specs.Results.{Shares}

pub record SharesTo (k : ℕ) (counts : List ℕ) (t : ℕ) (xs : List ℕ) : Type 0 where
  pub size : length xs ≡ 7
  pub each : (j : ℕ) → j < k → get_or xs j 0 ≡ share (count_at counts j True) t
  pub beyond : (j : ℕ) → k ≤ j → get_or xs j 0 ≡ 0

pub shares-none : (counts : List ℕ) (t : ℕ) → SharesTo 0 counts t (replicate 7 0)
shares-none counts t = record { size = refl; each = λ j h. absurd (omega arith); beyond = λ j h. zeros 7 j }

pub shares-more : (k : ℕ) (counts : List ℕ) (t : ℕ) (xs : List ℕ) (y : ℕ) → k < 7 → y ≡ share (count_at counts k True) t → SharesTo k counts t xs → SharesTo (k + 1) counts t (set xs k y)
shares-more k counts t xs y h e x = record {
  size = length-set xs k y ∙ x.size;
  each = set_more (λ j v. v ≡ share (count_at counts j True) t) xs k y (omega (arith, x.size)) e x.each;
  beyond = λ j l. get_or-set_other xs k j y 0 (omega arith) ∙ x.beyond j (omega arith);
}

pub shares-all : (k n : ℕ) (r : JournalRecord) (xs : List ℕ) → k ≡ n → SharesTo k r.counts r.rounds xs → Shares n r xs
shares-all k n r xs e x = record { size = x.size; each = λ j h. x.each j (omega arith); beyond = λ j h. x.beyond j (omega arith) }
