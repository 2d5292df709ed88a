-- For the contracts of inner functions: one layer of the search for live pairs.
use Rattle.std.specs.Prelude.{◌≡◌, Bool, true, false, not, ◌&&◌, ◌||◌, List, ℕ, ◌+◌, ◌*◌, ◌/◌, ◌%◌, ◌≤◌, ◌<◌, eqb, ltb, get_or}
use Rattle.std.proofs.Math.Option.{Option, none, some}
use Rattle.words.specs.Bits.{bit}
use Rattle.sheet.specs.RuleSheet.{RuleSheet}
use Rattle.completions.specs.Live.{Pairs, allowed}
use Rattle.completions.specs.Steps.{Within}
use Rattle.pairs.specs.Storage.{stored, live, reached, set_words, live_at, reached_at, scratch_at, storage_words}
use Rattle.pairs.specs.Changes.{Framed, row_bit}
use Rattle.predecessors.specs.Rows.{meets}

-- a is allowed, (a, b) is not in L, and the layer F lets a stand before b
unfoldable pub joining : RuleSheet → ℕ → Pairs → Pairs → ℕ → ℕ → Bool
joining x n L F a b = allowed x a && (not (L a (some b)) && meets x n F a b)

-- these pairs, for one b
unfoldable pub joiners_at : RuleSheet → ℕ → ℕ → Pairs → Pairs → Pairs
joiners_at x n b L F a none = false
joiners_at x n b L F a (some c) = eqb c b && joining x n L F a c

-- these pairs, for each b below v
unfoldable pub joiners : RuleSheet → ℕ → ℕ → Pairs → Pairs → Pairs
joiners x n v L F a none = false
joiners x n v L F a (some b) = ltb b v && joining x n L F a b

-- the pairs (a, b) that are not in L, for one b and each a below n in the row of words
unfoldable pub newcomers : ℕ → List ℕ → ℕ → Pairs → Pairs
newcomers n row b L a none = false
newcomers n row b L a (some c) = eqb c b && (ltb a n && (row_bit row 0 a && not (L a (some c))))

-- those of word j: the pairs (64 j + i, b) that are not in L, for each lane i of the word
unfoldable pub newcomers_in : ℕ → ℕ → ℕ → Pairs → Pairs
newcomers_in j word b L a none = false
newcomers_in j word b L a (some c) = eqb c b && ((eqb (a / 64) j && bit (a % 64) word) && not (L a (some c)))

-- the pairs (a, end), for each a below n in the row of words
unfoldable pub enders : ℕ → List ℕ → Pairs
enders n row a none = ltb a n && row_bit row 0 a
enders n row a (some c) = false

-- the live set and the set at `base` have both gained the pairs P, and no other word is changed
pub record Joins (base : ℕ) (s t : List ℕ) (P : Pairs) : Type 0 where
  pub frame : Framed live_at (base + set_words) s t
  pub between : (k : ℕ) → reached_at ≤ k → k < base → get_or t k 0 ≡ get_or s k 0
  pub live : (x : ℕ) (y : Option ℕ) → x < 256 → Within 256 y → live t x y ≡ (live s x y || P x y)
  pub next : (x : ℕ) (y : Option ℕ) → x < 256 → Within 256 y → stored t base x y ≡ (stored s base x y || P x y)

-- the set at `base` has no pair
abbrev pub Empty : List ℕ → ℕ → Type 0
Empty s base = (x : ℕ) (y : Option ℕ) → x < 256 → Within 256 y → stored s base x y ≡ false

-- the rows of the set at `base` that have a pair are below 64 w, and they are the bits of the w words
pub record Occupied (w : ℕ) (rows s : List ℕ) (base : ℕ) : Type 0 where
  pub none_there : (x : ℕ) (y : Option ℕ) → x < 256 → Within 256 y → (x < 64 * w → row_bit rows 0 x ≡ false) → stored s base x y ≡ false
  pub some_there : (x : ℕ) → x < 64 * w → row_bit rows 0 x ≡ true → (y : Option ℕ) × Within 256 y × (stored s base x y ≡ true)

-- the storage where the search begins: the ends of the row's valuations are live, and they are the layer in the place of the reached set
pub record Started (w : ℕ) (row s t : List ℕ) : Type 0 where
  pub frame : Framed live_at storage_words s t
  pub live : (x : ℕ) (y : Option ℕ) → x < 256 → Within 256 y → live t x y ≡ enders (64 * w) row x y
  pub layer : (x : ℕ) (y : Option ℕ) → x < 256 → Within 256 y → reached t x y ≡ enders (64 * w) row x y
  pub next : Empty t scratch_at

-- the layer's rows below v are taken out, and what may stand before their pairs is live and in the next layer
pub record Swept (x : RuleSheet) (n v layer next : ℕ) (s t : List ℕ) : Type 0 where
  pub frame : Framed live_at storage_words s t
  pub gained : (a : ℕ) (y : Option ℕ) → a < 256 → Within 256 y → stored t next a y ≡ (stored s next a y || joiners x n v (live s) (stored s layer) a y)
  pub left : (a : ℕ) (y : Option ℕ) → a < 256 → Within 256 y → stored t layer a y ≡ (stored s layer a y && not (ltb a v))
  pub live : (a : ℕ) (y : Option ℕ) → a < 256 → Within 256 y → live t a y ≡ (live s a y || joiners x n v (live s) (stored s layer) a y)
