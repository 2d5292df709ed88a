-- The search over a sheet as the code has it: m inputs, n outputs, v = 2 ^ (m + n) valuations in rows of w words.
use mathlib.Core.Path.{◌≡◌, refl}
use mathlib.Core.Bool.{true, false}
use mathlib.Core.List.{List}
use Prim.Native.Nat.{ℕ, ◌+◌, ◌-◌, ◌*◌, ◌^◌, ◌≤◌, ◌<◌}
use native.Mathlib.Numerals.{add-one}
use native.Mathlib.Omega.{arith}
use lib.ListN.{get_or}
use lib.Pow.{pow_mono}
use Rattle.words.proofs.Tests.{true_of}
use Rattle.sheet.specs.RuleSheet.{RuleSheet, streams, required_of}
use Rattle.sheet.specs.Parts.{Below}
use Rattle.sheet.specs.Parts.{Assumed}
use Rattle.sheet.proofs.Sheets.{length-trees}
use Rattle.completions.specs.Live.{allowed, ExactReach, count_pairs}
use Rattle.completions.proofs.Backward.{bound_256}
use Rattle.completions.proofs.Range.{some-allowed, allowed-within}
use Rattle.pairs.specs.Storage.{live, reached_at, scratch_at, max_pairs}
use Rattle.pairs.specs.Changes.{row_bit, RowOf}
use Rattle.lanes.specs.Coded.{sheet_of}
use Rattle.predecessors.proofs.Rows.{streams-low}
use Rattle.preparation.specs.Searched.{Searched}
use Rattle.preparation.specs.Search.{Occupied, Started, Swept}
use Rattle.preparation.proofs.Joining.{Layers}
use Rattle.preparation.proofs.Searching.{Searching, search-start, search-more, some-layer, search-end}

module _ (m n : ℕ) (code len : List ℕ) (few : m + n ≤ 8) where
  small : (ks : List ℕ) → 2 ^ streams (sheet_of m n code len ks) ≤ 256
  small ks = streams-low m n code len ks 256 (pow_mono few)

  -- no more layers than pairs
  pub search-bound : (ks s₀ s : List ℕ) (layer next d : ℕ) → Searching (sheet_of m n code len ks) layer next s₀ s d → d ≤ max_pairs
  search-bound ks s₀ s layer next d p = omega (arith, p.grown, bound_256 (live s))

  module _ (w v : ℕ) (valuations : v ≡ 2 ^ (m + n)) (low : v ≤ 64 * w) (high : w ≤ 4) where
    enough : (ks : List ℕ) → 2 ^ streams (sheet_of m n code len ks) ≤ 64 * w
    enough ks = streams-low m n code len ks (64 * w) (omega arith)

    pub search-begin : (ks row s t : List ℕ) → RowOf w row (allowed (sheet_of m n code len ks)) → Started w row s t → Searching (sheet_of m n code len ks) reached_at scratch_at t t 0
    search-begin ks row s t r p = search-start (sheet_of m n code len ks) w (enough ks) row s t r p

    pub search-step : (ks s₀ s t rows : List ℕ) (layer next d r : ℕ) → Searching (sheet_of m n code len ks) layer next s₀ s d → Occupied w rows s layer → r < 64 * w → row_bit rows 0 r ≡ true
        → Swept (sheet_of m n code len ks) (64 * w) (64 * w) layer next s t → Searching (sheet_of m n code len ks) next layer s₀ t (d + 1)
    search-step ks s₀ s t rows layer next d r p o b h q =
        rw (add-one d) (search-more (sheet_of m n code len ks) w (enough ks) (small ks) (omega arith) layer next s₀ s t rows d r p o b h q)

  module _ (assumption : Assumed) (below : Below assumption n) (w layer next : ℕ) (s₀ s rows : List ℕ) (d : ℕ)
      (p : Searching (sheet_of m n code len (required_of assumption)) layer next s₀ s d) (o : Occupied w rows s layer) (none_left : (a : ℕ) → a < 64 * w → row_bit rows 0 a ≡ false) where
    abbrev x : RuleSheet
    x = sheet_of m n code len (required_of assumption)

    some_valuation : (a : ℕ) × (a < 256) × (allowed x a ≡ true)
    some_valuation =
        let a = some-allowed x assumption refl (rw (length-trees (m + n) code len n) below) in
        (a.0, allowed-within x 256 (small (required_of assumption)) a.0 a.1, true_of (allowed x a.0) a.1)

    pub layers-some : 1 ≤ d
    layers-some = let a = some_valuation in some-layer x (small (required_of assumption)) w layer next s₀ s rows d p o none_left a.0 a.1 a.2

    pub search-finish : (s₁ row : List ℕ) (k : ℕ) → Layers layer next → ((i : ℕ) → get_or s i 0 < 2 ^ 64) → Started w row s₁ s₀
        → k ≡ count_pairs 256 (live s) → k ≤ max_pairs
        → Searched x s₁ s k × ExactReach x (d - 1) × (d - 1 < k)
    search-finish s₁ row k places fit st e bd =
        let a = some_valuation in
        search-end x (small (required_of assumption)) w layer next s₀ s rows d p o none_left a.0 a.1 a.2 s₁ row k places fit st e bd
