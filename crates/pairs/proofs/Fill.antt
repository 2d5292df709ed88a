-- The words of some rows, and of the ends, written.
use mathlib.Core.Path.{◌≡◌, sym, ap, ◌∙◌}
use mathlib.Core.Bool.{Bool, false, cond}
use mathlib.Core.List.{List}
use mathlib.Core.Option.{Option, none, some}
use Prim.Native.Nat.{ℕ, ◌+◌, ◌*◌, ◌/◌, ◌%◌, ◌≤◌, ◌<◌}
use native.Mathlib.Omega.{arith}
use native.Mathlib.Decide.{dec_lt}
use lib.Dec.{ltb}
use lib.ListN.{get_or}
use borrow.Author.Tests.{lt-ltb, le-ltb}
use Rattle.words.specs.Bits.{bit}
use Rattle.words.proofs.BitLaws.{bit-none}
use Rattle.completions.specs.Steps.{Within}
use Rattle.pairs.specs.Storage.{word_of, slot, stored, used}
use Rattle.pairs.specs.Changes.{Zeroed, RowsCleared}
use Rattle.pairs.proofs.Frames.{framed_then, framed_wider}

-- the rows below v, then the ends
pub rows-cleared : (base v : ℕ) (s t u : List ℕ) → v ≤ 256 → Zeroed base (4 * v) s t → Zeroed (base + 1024) 4 t u → RowsCleared base v s u
unfolding stored word_of slot used
rows-cleared base v s t u h p q = record {
  frame = framed_then (framed_wider (omega arith) (omega arith) p.frame) (framed_wider (omega arith) (omega arith) q.frame);
  emptied = at;
}
  where
    at : (x : ℕ) (y : Option ℕ) → x < 256 → Within 256 y → stored u base x y ≡ cond (used v x y) false (stored s base x y)
    at x none hx hy =
        let e : base + (1024 + x / 64) ≡ base + 1024 + x / 64 = omega arith in
        ap (λ (k : ℕ). bit (x % 64) (get_or u k 0)) e ∙ ap (bit (x % 64)) (q.zero_now (x / 64) (omega arith)) ∙ bit-none (x % 64)
    at x (some c) hx hy = go (dec_lt x v)
      where
        k : ℕ
        k = base + (4 * x + c / 64)

        go : Dec (x < v) → bit (c % 64) (get_or u k 0) ≡ cond (ltb x v) false (bit (c % 64) (get_or s k 0))
        go (yes l) =
            ap (bit (c % 64)) (q.frame.before k (omega arith) ∙ p.zero_now (4 * x + c / 64) (omega arith))
            ∙ bit-none (c % 64)
            ∙ sym (ap (λ (z : Bool). cond z false (bit (c % 64) (get_or s k 0))) (lt-ltb x v l))
        go (no n) =
            let g : v ≤ x = omega arith in
            ap (bit (c % 64)) (q.frame.before k (omega arith) ∙ p.frame.beyond k (omega arith))
            ∙ sym (ap (λ (z : Bool). cond z false (bit (c % 64) (get_or s k 0))) (le-ltb x v g))
