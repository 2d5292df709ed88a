-- For the contracts of inner functions: the reads of an expression in one word, each at the bit of its number (`read_no` of Slots.antt).
use Rattle.std.specs.Prelude.{◌≡◌, Bool, ◌&&◌, ◌||◌, List, [], ℕ, zero, suc, ◌+◌, ◌*◌, ltb}
use Rattle.words.specs.Bits.{bit}
use Rattle.sheet.specs.Expression.{Expr, parse, tree}
use Rattle.sheet.specs.declared.Grammar.{Grammar}
use Rattle.lola.specs.Reads.{has_read}

-- where the bits of the reads at the offset with this number begin: their first byte less 0x40
abbrev pub begins : ℕ → ℕ
begins zero = 16
begins (suc zero) = 0
begins (suc (suc o)) = 32 + 16 * o

-- the word has a read of stream q, one of eight, at the offset number o, whatever the default
unfoldable pub read_in : ℕ → ℕ → ℕ → Bool
read_in w q o = ltb q 8 && (bit (begins o + q) w || bit (8 + (begins o + q)) w)

-- the word has the reads of the expression with these bytes, and no others
pub record ReadsOf (e : List ℕ) (w : ℕ) : Type 0 where
  pub reads : (s : Grammar) (x : Expr) → parse s [] e ≡ tree x → (q o : ℕ) → read_in w q o ≡ has_read x q o
