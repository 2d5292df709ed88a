-- For the contracts of inner functions: a buffer as the values of the outputs, and what refreshing some of its places does.
use Rattle.std.specs.Prelude.{◌≡◌, Bool, true, false, cond, ◌&&◌, List, [], ℕ, suc, ◌+◌, ◌-◌, ◌^◌, ◌≤◌, ◌<◌, leb, length, get_or, Ok, Err}
use Rattle.outcomes.specs.Outcome.{Outcome}
use Rattle.words.specs.Bits.{bit}
use Rattle.sheet.specs.Expression.{Expr, newest, parse}
use Rattle.sheet.specs.Parts.{code_at}
use Rattle.sheet.specs.Reading.{tree_of}
use Rattle.sheet.specs.RuleSheet.{RuleSheet}
use Rattle.sheet.specs.declared.Offset.{Offset}
use Rattle.lola.specs.Slots.{slots}
use Rattle.circular.specs.Table.{reads_of}
use Rattle.circular.specs.Circular.{Circular}
use Rattle.circular.specs.Places.{Assignment, joint, look_at, right, Place, Reads, Solves, RightAt, Right}
use Rattle.trace.specs.Evaluated.{OutputsWritten}
use Rattle.trace.specs.Order.{Steady}
use Rattle.sheet.specs.declared.Sheet.{Sheet}

-- bit s of the byte of round t
unfoldable pub values_of : List ℕ → Assignment
values_of l s t = bit s (get_or l (t - 1) 0)

-- the expression of output k, in a sheet of s streams
abbrev pub tree_in : ℕ → List ℕ → List ℕ → ℕ → Expr
tree_in s code len k = tree_of (parse (newest s) [] (code_at code len k))

-- the right sides of the equations over the letters
unfoldable pub sides : Sheet → List ℕ → Assignment → Assignment
sides x letters = right x.inputs (tree_in (x.inputs + x.outputs) x.code x.len) (length letters) (values_of letters)

-- a letter of the inputs and a byte of the outputs for each round
pub record RoundBytes (x : Sheet) (letters buf : List ℕ) : Type 0 where
  pub rounds : length letters ≤ 4096
  pub same : length buf ≡ length letters
  pub letters_below : (i : ℕ) → i < length letters → get_or letters i 0 < 2 ^ x.inputs
  pub bytes_below : (i : ℕ) → i < length buf → get_or buf i 0 < 2 ^ x.outputs

-- the stream q in the round u, where u + 1 = at, or d where there is no such round
unfoldable pub seen : ℕ → List ℕ → List ℕ → ℕ → ℕ → Bool → Bool
seen m letters buf at q d =
    cond (leb 2 at && leb at (suc (length letters))) (joint m (values_of letters) (values_of buf) q (at - 1)) d

-- two bytes: the streams of that round, false in the low one and true in the high one where there is none
pub record SeenRound (m : ℕ) (letters buf : List ℕ) (at r : ℕ) : Type 0 where
  pub small : r < 2 ^ 16
  pub low : (q : ℕ) → q < 8 → bit q r ≡ seen m letters buf at q false
  pub high : (q : ℕ) → q < 8 → bit (8 + q) r ≡ seen m letters buf at q true

-- the reads of round t in one word
pub record Environment (m : ℕ) (letters buf : List ℕ) (t r : ℕ) : Type 0 where
  pub reads : (q : ℕ) (o : Offset) (d : Bool) → q < 8 → slots r q o d ≡ look_at m (length letters) (values_of letters) (values_of buf) t q o d

-- bit s of byte i is made v, and whether that changed it
pub record BitPut (i s : ℕ) (v : Bool) (old new : List ℕ) (changed : Bool) : Type 0 where
  pub same_length : length new ≡ length old
  pub others : (j : ℕ) → (j ≡ i → ⊥) → get_or new j 0 ≡ get_or old j 0
  pub put : bit s (get_or new i 0) ≡ v
  pub kept : (k : ℕ) → (k ≡ s → ⊥) → bit k (get_or new i 0) ≡ bit k (get_or old i 0)
  pub below : (n : ℕ) → s < n → get_or old i 0 < 2 ^ n → get_or new i 0 < 2 ^ n
  pub same : changed ≡ false → new ≡ old

-- a buffer of the same length, with n bits a byte
pub record SameShape (n : ℕ) (old new : List ℕ) : Type 0 where
  pub same_length : length new ≡ length old
  pub below : ((i : ℕ) → i < length old → get_or old i 0 < 2 ^ n) → (i : ℕ) → i < length new → get_or new i 0 < 2 ^ n

-- output s was worked out anew in round t, and nothing else
pub record Renewed (n : ℕ) (f : Assignment → Assignment) (s t : ℕ) (old new : List ℕ) : Type 0 where
  pub kept : SameShape n old new
  pub value : values_of new s t ≡ f (values_of old) s t
  pub others : (q u : ℕ) → 1 ≤ u → ((q ≡ s) × (u ≡ t) → ⊥) → values_of new q u ≡ values_of old q u

-- The places of P were refreshed, and others maybe. What was right stays right; the places of P come one read further; and where
-- nothing changed, the equations hold at the places of P.
pub record Passed (n N : ℕ) (f : Assignment → Assignment) (P : ℕ → ℕ → Type 0) (old new : List ℕ) (changed : Bool) : Type 0 where
  pub kept : SameShape n old new
  pub hold : (E : ℕ → ℕ → ℕ → Bool) → Reads n E N f → (sol : Assignment) → Solves n N f sol → (k : ℕ)
      → Right n E N sol k (values_of old) → Right n E N sol k (values_of new)
  pub keep : (E : ℕ → ℕ → ℕ → Bool) → Reads n E N f → (sol : Assignment) → Solves n N f sol → (k : ℕ)
      → Right n E N sol k (values_of old) → (s t : ℕ) → Place n N s t
      → RightAt n E N sol (suc k) (values_of old) s t → RightAt n E N sol (suc k) (values_of new) s t
  pub further : (E : ℕ → ℕ → ℕ → Bool) → Reads n E N f → (sol : Assignment) → Solves n N f sol → (k : ℕ)
      → Right n E N sol k (values_of old) → (s t : ℕ) → Place n N s t → P s t → RightAt n E N sol (suc k) (values_of new) s t
  pub same : changed ≡ false → new ≡ old
  pub quiet : changed ≡ false → (s t : ℕ) → Place n N s t → P s t → values_of old s t ≡ f (values_of old) s t

-- the same for the equations of a sheet over the letters
abbrev pub Refreshed : Sheet → List ℕ → (ℕ → ℕ → Type 0) → List ℕ → List ℕ → Bool → Type 0
Refreshed x letters P old new changed = Passed x.outputs (length letters) (sides x letters) P old new changed

-- the values at the places of P are those of a solution
abbrev pub RightOn : ℕ → ℕ → Assignment → (ℕ → ℕ → Type 0) → Assignment → Type 0
RightOn n N sol P v = (s t : ℕ) → Place n N s t → P s t → v s t ≡ sol s t

-- what is right at the places of P before is right at the places of Q after, if the reads are those of the masks
pub record Extends (n N : ℕ) (f : Assignment → Assignment) (masks : List (List ℕ)) (P Q : ℕ → ℕ → Type 0) (old new : List ℕ) : Type 0 where
  pub kept : SameShape n old new
  pub right : Reads n (reads_of masks) N f → (sol : Assignment) → Solves n N f sol → RightOn n N sol P (values_of old) → RightOn n N sol Q (values_of new)

-- the same for all masks and settled outputs for which the leads are steady
pub record Sweeps (n N : ℕ) (f : Assignment → Assignment) (lead : List ℕ) (up : Bool) (P Q : ℕ → ℕ → ℕ → Type 0) (old new : List ℕ) : Type 0 where
  pub kept : SameShape n old new
  pub right : (masks : List (List ℕ)) (settled : ℕ) → Steady masks lead n up settled → Reads n (reads_of masks) N f → (sol : Assignment) → Solves n N f sol
      → RightOn n N sol (P settled) (values_of old) → RightOn n N sol (Q settled) (values_of new)

-- the buffer satisfies the equations, if the reads between the outputs are not circular
pub record Solved (n N : ℕ) (f : Assignment → Assignment) (old new : List ℕ) : Type 0 where
  pub kept : SameShape n old new
  pub holds : (E : ℕ → ℕ → ℕ → Bool) → Reads n E N f → (Circular n E → ⊥) → Solves n N f (values_of new)

-- letters that are not refused, with room for a byte each
pub record Ready (m : ℕ) (letters : List ℕ) (room : ℕ) : Type 0 where
  pub some : 1 ≤ length letters
  pub few : length letters ≤ 4096
  pub fits : length letters ≤ room
  pub below : (i : ℕ) → i < length letters → get_or letters i 0 < 2 ^ m

-- what is left in the buffer, for a sheet that was read
abbrev pub Left : RuleSheet → List ℕ → List ℕ → List ℕ → Outcome → Type 0
Left x letters old new (Ok _) = OutputsWritten x letters old new
Left x letters old new (Err r) = new ≡ old
