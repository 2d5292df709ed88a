-- For the contracts of inner functions: the reads of a round in one word, bit byte - 0x40 for the read byte, and stacks of words.
-- A second word has the same bit set for the reads that are the lane's own: each lane stands for a valuation of the round itself, of the one
-- earlier or of the one later, and the reads of that round are of this valuation.
use Rattle.std.specs.Prelude.{◌≡◌, Bool, true, false, cond, List, [], ◌∷◌, ℕ, zero, suc, ◌+◌, ◌*◌, ◌%◌, ◌^◌, ◌<◌, ◌≤◌, leb, get_or, Some, None, Option as Maybe}
use Rattle.std.proofs.Math.Option.{Option, none, some}
use Rattle.words.specs.Bits.{bit}
use Rattle.lola.specs.Value.{Look, near}
use Rattle.lola.specs.Slots.{read_no}
use Rattle.lanes.specs.Machine.{stepped}

-- the read with the number k, in the lane of the valuation v: where it is the lane's own, of v
unfoldable pub read_at : ℕ → ℕ → ℕ → ℕ → Bool
read_at env own v k = cond (bit k own) (bit (k % 8) v) (bit k env)

-- the reads in that lane
abbrev pub lane_look : ℕ → ℕ → ℕ → Look
lane_look env own v q o d = read_at env own v (read_no q o d)

-- the round itself in the lane of v: where the reads of the round itself are the lane's own, it is v
abbrev pub here : ℕ → ℕ → ℕ → ℕ
here own b v = cond (bit 0 own) v b

-- a lane's stack of n + 1 truth values: its top, and below it those of E, the last of them uppermost
unfoldable pub down_from : (ℕ → Bool) → ℕ → List Bool
down_from E zero = []
down_from E (suc n) = E n ∷ down_from E n

abbrev pub lane_stack : Bool → (ℕ → Bool) → ℕ → List Bool
lane_stack x E n = x ∷ down_from E n

-- a step of a stack of rows of w words, 64 * w lanes: `used` of them lie below the top, row k of these from w * k on
pub record Stepped (w env own e : ℕ) (st top : List ℕ) (used : ℕ) (st' top' : List ℕ) (used' : ℕ) : Type 0 where
  pub grows : used' ≤ used + 1
  pub lanes : (j i : ℕ) → j < w → i < 64
      → lane_stack (bit i (get_or top' j 0)) (λ k. bit i (get_or st' (w * k + j) 0)) used'
      ≡ stepped (read_at env own (64 * j + i)) e (lane_stack (bit i (get_or top j 0)) (λ k. bit i (get_or st (w * k + j) 0)) used)

-- the w words of a row are F 0 to F (w - 1)
abbrev pub Filled : ℕ → (ℕ → ℕ) → List ℕ → Type 0
Filled w F row = (j : ℕ) → j < w → get_or row j 0 ≡ F j

-- row k of the stack is now the row, and no word before it is changed
pub record Stored (w k : ℕ) (row t t' : List ℕ) : Type 0 where
  pub words : (j : ℕ) → j < w → get_or t' (w * k + j) 0 ≡ get_or row j 0
  pub others : (i : ℕ) → i < w * k → get_or t' i 0 ≡ get_or t i 0

-- the words that a stack of rows of w words may take: of two words each where that is enough, else of four
unfoldable pub stack_words : ℕ → ℕ
stack_words w = cond (leb w 2) 128 256

-- the reads of a neighbouring round, with the default false and with the default true
pub record Beside (w : ℕ) (v : Option ℕ) : Type 0 where
  pub small : w < 2 ^ 16
  pub unset : (q : ℕ) → q < 8 → bit q w ≡ near v q false
  pub set : (q : ℕ) → q < 8 → bit (8 + q) w ≡ near v q true

-- the word has the round before, p
pub record Before (w : ℕ) (p : Option ℕ) : Type 0 where
  pub part : ℕ
  pub shifted : w ≡ 65536 * part
  pub beside : Beside part p

-- the word has the round b and the round before it, p
pub record Seen (w : ℕ) (p : Option ℕ) (b : ℕ) : Type 0 where
  pub small : w < 2 ^ 32
  pub here : (q : ℕ) → q < 8 → bit q w ≡ bit q b
  pub unset : (q : ℕ) → q < 8 → bit (16 + q) w ≡ near p q false
  pub set : (q : ℕ) → q < 8 → bit (24 + q) w ≡ near p q true

-- the word has the round b and the round after it, c
pub record Ahead (w : ℕ) (b : ℕ) (c : Option ℕ) : Type 0 where
  pub here : (q : ℕ) → q < 8 → bit q w ≡ bit q b
  pub unset : (q : ℕ) → q < 8 → bit (32 + q) w ≡ near c q false
  pub set : (q : ℕ) → q < 8 → bit (40 + q) w ≡ near c q true

-- a neighbouring round as the code has it, which may be missing
abbrev pub neighbour : Maybe ℕ → Option ℕ
neighbour None = none
neighbour (Some v) = some v
