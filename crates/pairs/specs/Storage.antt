-- Where the pairs lie in the storage (01, "Completions and verdicts": how the sets lie there is the builders' choice, written in
-- docs/LAYOUT). Words 4 a to 4 a + 3 of a set are row a: the valuations that follow a. Words 1,024 to 1,027 are the valuations that the
-- end mark follows. The live set is followed by the reached set and this by the scratch set.
-- Manual: "Preparation".
use Rattle.std.specs.Prelude.{Bool, true, List, ℕ, ◌+◌, ◌*◌, ◌/◌, ◌%◌, ltb, get_or}
use Rattle.std.proofs.Math.Option.{Option, none, some}
use Rattle.words.specs.Bits.{bit}
use Rattle.completions.specs.Live.{Pairs}

-- the word of a pair within its set
unfoldable pub word_of : ℕ → Option ℕ → ℕ
word_of a none = 1024 + a / 64
word_of a (some b) = 4 * a + b / 64

-- its bit in that word
unfoldable pub slot : ℕ → Option ℕ → ℕ
slot a none = a % 64
slot a (some b) = b % 64

-- the set whose words begin at `base`
unfoldable pub stored : List ℕ → ℕ → Pairs
stored ws base a c = bit (slot a c) (get_or ws (base + word_of a c) 0)

-- how many words a set takes
abbrev pub set_words : ℕ
set_words = 1028

-- where the three sets begin, and how many words they take together
abbrev pub live_at : ℕ
live_at = 0

abbrev pub reached_at : ℕ
reached_at = live_at + set_words

abbrev pub scratch_at : ℕ
scratch_at = reached_at + set_words

abbrev pub storage_words : ℕ
storage_words = scratch_at + set_words

-- the three sets
abbrev pub live : List ℕ → Pairs
live ws = stored ws live_at

abbrev pub reached : List ℕ → Pairs
reached ws = stored ws reached_at

abbrev pub scratch : List ℕ → Pairs
scratch ws = stored ws scratch_at

-- the most pairs that a set has: 256 first parts with 256 valuations or the end mark each
abbrev pub max_pairs : ℕ
max_pairs = 256 * 257

-- whether the pair lies in the words that a sheet with v valuations uses: the rows below v, and the last four. Rounds write no others.
unfoldable pub used : ℕ → ℕ → Option ℕ → Bool
used v a none = true
used v a (some b) = ltb a v
