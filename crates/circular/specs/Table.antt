-- For the contracts of inner functions: the tables of the circularity check. A table has 8 rows of 8 entries; entry q of row s tells
-- the largest weight of a walk from output s to output q: 0 there is no walk, 1024 + w the weight w, 4096 the weights have no bound.
use Rattle.std.specs.Prelude.{length, ◌≡◌, Bool, true, false, cond, ◌&&◌, List, [], ℕ, zero, suc, ◌+◌, ◌-◌, ◌≤◌, ◌<◌, get_or, max, leb, eqb}
use Rattle.words.specs.Bits.{bit}
use Rattle.lola.specs.ByteReads.{read_in}

-- a sum of two codes, as a code
unfoldable pub clip_n : ℕ → ℕ
clip_n s = cond (leb 5120 s) 4096 (s - 1024)

-- one walk after the other
unfoldable pub plus_n : ℕ → ℕ → ℕ
unfolding clip_n
plus_n x y = cond (eqb x 0) 0 (cond (eqb y 0) 0 (cond (eqb x 4096) 4096 (cond (eqb y 4096) 4096 (clip_n (x + y)))))

-- a walk of weight x after any number of rounds of a closed walk of weight c
unfoldable pub loop_n : ℕ → ℕ → ℕ
loop_n c x = cond (leb c 1024) x (cond (eqb x 0) 0 4096)

-- one row of a table
abbrev pub row_of : List (List ℕ) → ℕ → List ℕ
row_of t s = get_or t s []

-- one entry of a table
abbrev pub entry : List (List ℕ) → ℕ → ℕ → ℕ
entry t s q = get_or (row_of t s) q 0

-- one cell of the next table
unfoldable pub cell_n : List (List ℕ) → ℕ → ℕ → ℕ → ℕ
unfolding plus_n loop_n
cell_n old k i j = max (entry old i j) (plus_n (entry old i k) (loop_n (entry old k k) (entry old k j)))

-- walks whose inner outputs are below k, from the largest weights of single reads
unfoldable pub best_n : (ℕ → ℕ → ℕ) → ℕ → ℕ → ℕ → ℕ
unfolding plus_n loop_n
best_n g zero i j = g i j
best_n g (suc k) i j = max (best_n g k i j) (plus_n (best_n g k i k) (loop_n (best_n g k k k) (best_n g k k j)))

-- the eight entries of a row are at most 4096
pub record Small (row : List ℕ) : Type 0 where
  pub entries : (q : ℕ) → q < 8 → get_or row q 0 ≤ 4096

-- eight such rows
pub record SmallTable (t : List (List ℕ)) : Type 0 where
  pub size : length t ≡ 8
  pub rows : (s : ℕ) → s < 8 → Small (row_of t s)

-- walks from output k, from the row of those walks, after any number of rounds of a closed walk there
pub record Tails (row : List ℕ) (k : ℕ) (new : List ℕ) : Type 0 where
  pub small : Small new
  pub cells : (q : ℕ) → q < 8 → get_or new q 0 ≡ loop_n (get_or row k 0) (get_or row q 0)

-- a row, and the walks that go to an output and then on from there
pub record Joined (row : List ℕ) (to : ℕ) (tails new : List ℕ) : Type 0 where
  pub small : Small new
  pub cells : (q : ℕ) → q < 8 → get_or new q 0 ≡ max (get_or row q 0) (plus_n to (get_or tails q 0))

-- n entries are those of g
pub record BaseRow (n : ℕ) (g : ℕ → ℕ) (new : List ℕ) : Type 0 where
  pub small : Small new
  pub cells : (q : ℕ) → q < n → get_or new q 0 ≡ g q

-- the next table, in its first n rows
pub record Next (n : ℕ) (old : List (List ℕ)) (k : ℕ) (new : List (List ℕ)) : Type 0 where
  pub cells : (i j : ℕ) → i < n → j < 8 → entry new i j ≡ cell_n old k i j

-- the table of the largest weights of single reads between n outputs
pub record Based (n : ℕ) (g : ℕ → ℕ → ℕ) (new : List (List ℕ)) : Type 0 where
  pub cells : (i j : ℕ) → i < n → j < n → entry new i j ≡ g i j

-- all n stages
pub record Closed (n : ℕ) (g : ℕ → ℕ → ℕ) (new : List (List ℕ)) : Type 0 where
  pub cells : (i j : ℕ) → i < n → j < n → entry new i j ≡ best_n g n i j

-- both tables have a closed walk of weight at least 0 at output s
abbrev pub level_both : List (List ℕ) → List (List ℕ) → ℕ → Bool
level_both t u s = leb 1024 (entry t s s) && leb 1024 (entry u s s)

-- the reads, from a table of masks: bit o of entry q of row s
unfoldable pub reads_of : List (List ℕ) → ℕ → ℕ → ℕ → Bool
reads_of g s q o = bit o (entry g s q)

-- the same from the words of the outputs, where output q is stream m + q
abbrev pub reads_of_words : List ℕ → ℕ → ℕ → ℕ → ℕ → Bool
reads_of_words ws m s q = read_in (get_or ws s 0) (m + q)

-- the largest weight of a single read, of those there are: earlier, now, later
unfoldable pub top_n : Bool → Bool → Bool → ℕ
top_n e n l = cond l 1025 (cond n 1024 (cond e 1023 0))

-- the same from the reads at each offset; with time turned round where it isn't `up`
unfoldable pub base_n : Bool → (ℕ → Bool) → ℕ
unfolding top_n
base_n true e = top_n (e 0) (e 1) (e 2)
base_n false e = top_n (e 2) (e 1) (e 0)
