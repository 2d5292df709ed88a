-- For the contracts of inner functions: what preparation leaves in the storage, and the number of live pairs that it returns.
use Rattle.std.specs.Prelude.{◌≡◌, List, ℕ, ◌≤◌, ◌<◌, get_or}
use Rattle.sheet.specs.RuleSheet.{RuleSheet}
use Rattle.completions.specs.Live.{Live, count_pairs}
use Rattle.completions.specs.Steps.{Represents}
use Rattle.pairs.specs.Storage.{live, live_at, reached_at, storage_words, max_pairs}
use Rattle.pairs.specs.Changes.{Framed}

-- From storage s preparation makes t, whatever s held: the live set is exactly the live pairs, the reached set and the scratch set are
-- empty, the words past the three sets are untouched. It returns the exact number of live pairs, and that this is at most what a set can hold.
pub record Searched (x : RuleSheet) (s t : List ℕ) (count : ℕ) : Type 0 where
  pub frame : Framed live_at storage_words s t
  pub cleared : (k : ℕ) → reached_at ≤ k → k < storage_words → get_or t k 0 ≡ 0
  pub counted : count ≡ count_pairs 256 (live t)
  pub bound : count ≤ max_pairs
  pub live : Represents 256 (live t) (Live x)
