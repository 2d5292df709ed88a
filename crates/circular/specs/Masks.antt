-- For the contracts of inner functions: the reads of the outputs, in words and as masks.
use Rattle.std.specs.Prelude.{◌≡◌, List, ℕ, ◌+◌, ◌≤◌, ◌<◌, get_or}
use Rattle.words.specs.Bits.{bit}
use Rattle.sheet.specs.RuleSheet.{RuleSheet}
use Rattle.sheet.specs.Parts.{code_at}
use Rattle.lola.specs.ByteReads.{read_in, ReadsOf}
use Rattle.circular.specs.Circular.{edges}
use Rattle.circular.specs.Table.{reads_of}

-- the word of output s: it has no reads where there is no such output
pub record OutputWord (code len : List ℕ) (n s w : ℕ) : Type 0 where
  pub there : s < n → ReadsOf (code_at code len s) w
  pub absent : n ≤ s → w ≡ 0

-- the words of the outputs
pub record OutputWords (code len : List ℕ) (n : ℕ) (ws : List ℕ) : Type 0 where
  pub rows : (s : ℕ) → s < 7 → OutputWord code len n s (get_or ws s 0)

-- the mask of the word's reads of stream q: bit o for the offset number o
pub record Mask (w q x : ℕ) : Type 0 where
  pub bits : (o : ℕ) → o ≤ 2 → bit o x ≡ read_in w q o

-- the masks of the word's reads of the outputs: entry q has the reads of stream m + q
pub record MaskRow (w m : ℕ) (masks : List ℕ) : Type 0 where
  pub cells : (q : ℕ) → q < 7 → Mask w (m + q) (get_or masks q 0)

-- the table of masks tells the reads of the sheet
pub record Tells (x : RuleSheet) (masks : List (List ℕ)) : Type 0 where
  pub reads : (s q o : ℕ) → s < 7 → q < 7 → o ≤ 2 → reads_of masks s q o ≡ edges x s q o
