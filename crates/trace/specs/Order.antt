-- For the contracts of inner functions: the order in which a sweep refreshes places. Output s in round t has the key 8 t + lead, with
-- rounds counted in the sweep's direction.
use Rattle.std.specs.Prelude.{◌≡◌, ◌⊎◌, Bool, true, false, Option, Some, None, List, ℕ, ◌+◌, ◌-◌, ◌*◌, ◌/◌, ◌%◌, ◌≤◌, ◌<◌, length, get_or}
use Rattle.words.specs.Bits.{bit}
use Rattle.circular.specs.Table.{reads_of}

-- the lead of output s is bounded
abbrev pub Bounded : List ℕ → ℕ → Type 0
Bounded lead s = get_or lead s 0 ≤ 54

-- the number of round t of N in a sweep's direction
abbrev pub in_sweep : Bool → ℕ → ℕ → ℕ
in_sweep true N t = t
in_sweep false N t = N + 1 - t

-- how far ahead in a sweep's direction an offset leads, from 0 to 2
abbrev pub toward : Bool → ℕ → ℕ
toward true o = o
toward false o = 2 - o

-- every read of a mask leads no farther than r
pub record Farthest (mask : ℕ) (up : Bool) (r : ℕ) : Type 0 where
  pub most : r ≤ 2
  pub reads : (o : ℕ) → o ≤ 2 → bit o mask ≡ true → toward up o ≤ r

-- a place with the lead r, if that is bounded, has a larger key than one with the lead `other` that it reads at the offset o
pub record Behind (up : Bool) (o other r : ℕ) : Type 0 where
  pub bounded : r ≤ 54 → other ≤ 54
  pub key : r ≤ 54 → 8 * toward up o + other < 8 + r

-- the same for all reads of a mask
pub record BehindAll (mask other : ℕ) (up : Bool) (r : ℕ) : Type 0 where
  pub reads : (o : ℕ) → o ≤ 2 → bit o mask ≡ true → Behind up o other r

-- the same for all reads of output s, of n outputs that aren't settled
pub record Raised (masks : List (List ℕ)) (lead : List ℕ) (n : ℕ) (up : Bool) (settled s r : ℕ) : Type 0 where
  pub reads : (q o : ℕ) → q < n → o ≤ 2 → reads_of masks s q o ≡ true → bit q settled ≡ false → Behind up o (get_or lead q 0) r

-- for all outputs: along reads of outputs that aren't settled keys fall
pub record Steady (masks : List (List ℕ)) (lead : List ℕ) (n : ℕ) (up : Bool) (settled : ℕ) : Type 0 where
  pub outputs : (s : ℕ) → s < n → Raised masks lead n up settled s (get_or lead s 0)

-- every output of the new set is one of the old set or has a bounded lead
pub record Settled (lead : List ℕ) (old new : ℕ) : Type 0 where
  pub all : (s : ℕ) → s < 7 → bit s new ≡ true → (bit s old ≡ true) ⊎ Bounded lead s

-- the round that an output has in a block
abbrev pub RoundIn : ℕ → ℕ → ℕ → Bool → Option ℕ → Type 0
RoundIn block lead N up None = (u : ℕ) → 1 ≤ u → u ≤ N → in_sweep up N u + lead / 8 ≡ block → ⊥
RoundIn block lead N up (Some t) = (1 ≤ t) × (t ≤ N) × (in_sweep up N t + lead / 8 ≡ block)

-- a bounded lead, whose keys are at a place of a block
pub record Due (lead place : ℕ) : Type 0 where
  pub bounded : lead ≤ 54
  pub at : lead % 8 ≡ place

-- an output is one of the first `count` entries
pub record Listed (outputs : List ℕ) (count s : ℕ) : Type 0 where
  pub p : ℕ
  pub inside : p < count
  pub is : get_or outputs p 0 ≡ s

-- the outputs with bounded leads, by the places of their keys in a block
pub record Ordered (lead : List ℕ) (n : ℕ) (outputs : List ℕ) : Type 0 where
  pub below : (p : ℕ) → p < length outputs → get_or outputs p 0 < n
  pub bounded : (p : ℕ) → p < length outputs → Bounded lead (get_or outputs p 0)
  pub rising : (p r : ℕ) → p ≤ r → r < length outputs → get_or lead (get_or outputs p 0) 0 % 8 ≤ get_or lead (get_or outputs r 0) 0 % 8
  pub all : (s : ℕ) → s < n → Bounded lead s → Listed outputs (length outputs) s

-- the places of the outputs of a set
abbrev pub InSet : ℕ → ℕ → ℕ → Type 0
InSet set q u = bit q set ≡ true

-- The places that are right in a sweep, with p outputs of a block done: those of settled outputs; and where leads are bounded, the blocks
-- before, and in this block the first p outputs.
abbrev pub Done : List ℕ → Bool → ℕ → List ℕ → ℕ → ℕ → ℕ → ℕ → ℕ → Type 0
Done lead up N outputs block p settled q u =
    InSet settled q u
    ⊎ ((Bounded lead q × (in_sweep up N u + get_or lead q 0 / 8 < block)) ⊎ ((in_sweep up N u + get_or lead q 0 / 8 ≡ block) × Listed outputs p q))

-- the places that are right after a sweep
abbrev pub Known : List ℕ → ℕ → ℕ → ℕ → Type 0
Known lead settled q u = InSet settled q u ⊎ Bounded lead q
