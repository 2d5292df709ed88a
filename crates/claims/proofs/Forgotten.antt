-- What preparation leaves and answers is the same whatever the storage held.
use mathlib.Core.Path.{◌≡◌, sym, ◌∙◌}
use mathlib.Core.List.{List}
use mathlib.Core.Option.{Option}
use Prim.Native.Nat.{ℕ, ◌+◌, ◌<◌, ◌≤◌}
use native.Mathlib.Omega.{arith}
use Rattle.words.proofs.Tests.{same_test}
use Rattle.record.specs.Record.{Fresh}
use Rattle.record.specs.declared.JournalRecord.{JournalRecord}
use Rattle.completions.specs.Live.{Pairs}
use Rattle.completions.specs.Steps.{Within, Represents}
use Rattle.completions.proofs.Count.{Subset, pairs_same}
use Rattle.completions.proofs.ExactReach.{one-reach}
use Rattle.pairs.specs.Storage.{stored, set_words, reached_at, scratch_at, storage_words, live}
use Rattle.effects.specs.Results.{Zero}
use Rattle.claims.specs.Further.{StorageForgotten}
use Rattle.claims.proofs.Tidy.{zero-none}

-- one of two sets that hold the same pairs is within the other
holds_same : (w : ℕ) (S R : Pairs) (P : ℕ → Option ℕ → Type 0) → Represents w S P → Represents w R P → Subset w S R
holds_same w S R P f g b c hb hc t = (g b c hb hc).1 ((f b c hb hc).0 t)

-- two sets that are empty are the same
empty-same : (t t' : List ℕ) → Zero reached_at storage_words t → Zero reached_at storage_words t' → (base b : ℕ) (c : Option ℕ) → b < 256 → Within 256 c → reached_at ≤ base → base + set_words ≤ storage_words
    → stored t base b c ≡ stored t' base b c
empty-same t t' z z' base b c hb hc l g = zero-none reached_at storage_words t z base b c hb hc l g ∙ sym (zero-none reached_at storage_words t' z' base b c hb hc l g)

fresh-same : (r r' : JournalRecord) → Fresh r → Fresh r' → r ≡ r'
fresh-same r r' f g = λ i. record { rounds = (f.rounds ∙ sym g.rounds) i; closed = (f.closed ∙ sym g.closed) i; counts = (f.counts ∙ sym g.counts) i }

pub storage_forgotten : StorageForgotten
storage_forgotten x s s' t t' a a' d d' =
    let there : Subset 256 (live t) (live t') = holds_same 256 (live t) (live t') _ d.lives d'.lives in
    let back : Subset 256 (live t') (live t) = holds_same 256 (live t') (live t) _ d'.lives d.lives in (
      record {
        same_live = λ b c hb hc. same_test (live t b c) (live t' b c) (there b c hb hc) (back b c hb hc);
        same_reached = λ b c hb hc. empty-same t t' d.empty d'.empty reached_at b c hb hc (omega arith) (omega arith);
        same_scratch = λ b c hb hc. empty-same t t' d.empty d'.empty scratch_at b c hb hc (omega arith) (omega arith);
      },
      d.count ∙ pairs_same 256 (live t) (live t') there back ∙ sym d'.count,
      one-reach x a.reach a'.reach d.reach d'.reach,
      fresh-same a.record a'.record d.fresh d'.fresh,
    )
