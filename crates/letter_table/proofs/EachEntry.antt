-- A test of a list that is computed once, entry after entry, and what it says of each entry.
use mathlib.Core.Path.{◌≡◌, sym, subst, ap, ◌∙◌}
use mathlib.Core.Bool.{Bool, true, ◌&&◌, beq}
use mathlib.Core.List.{List, [], ◌∷◌}
use Prim.Native.Nat.{ℕ, zero, suc, ◌+◌, ◌^◌, ◌<◌}
use native.Mathlib.Decide.{ℕ_discrete}
use native.Mathlib.Nat.{add-zero, zero-add}
use native.Mathlib.Omega.{arith}
use lib.ListN.{length, get_or}
use borrow.Author.Tests.{lt-ltb}
use Rattle.words.specs.Bits.{bit}
use Rattle.words.proofs.Bools.{and_split, beq_eq}
use Rattle.words.proofs.FromBits.{from_word}
use Rattle.letter_table.specs.Entry.{matches_digits, entry_of, Sets}

-- the test holds of each entry and its place, the first one's being i
unfoldable pub each : (ℕ → ℕ → Bool) → ℕ → List ℕ → Bool
each f i [] = true
each f i (x ∷ xs) = f i x && each f (suc i) xs

each_from : (f : ℕ → ℕ → Bool) (xs : List ℕ) (i : ℕ) → each f i xs ≡ true → (k : ℕ) → k < length xs → f (i + k) (get_or xs k 0) ≡ true
unfolding each
each_from f [] i t k h = absurd (omega arith)
each_from f (x ∷ xs) i t zero h = ap (λ (j : ℕ). f j x) (add-zero i) ∙ (and_split (f i x) (each f (suc i) xs) t).0
each_from f (x ∷ xs) i t (suc k) h =
    let z : i + suc k ≡ suc i + k = omega arith in
    ap (λ (j : ℕ). f j (get_or xs k 0)) z ∙ each_from f xs (suc i) (and_split (f i x) (each f (suc i) xs) t).1 k (omega arith)

each_at : (f : ℕ → ℕ → Bool) (xs : List ℕ) → each f 0 xs ≡ true → (k : ℕ) → k < length xs → f k (get_or xs k 0) ≡ true
each_at f xs t k h = ap (λ (j : ℕ). f j (get_or xs k 0)) (sym (zero-add k)) ∙ each_from f xs 0 t k h

-- the bits of x below n are those of entry e
unfoldable pub has_bits : ℕ → ℕ → ℕ → Bool
has_bits zero e x = true
has_bits (suc n) e x = beq (bit n x) (matches_digits 6 e n) && has_bits n e x

has_bit : (n e x : ℕ) → has_bits n e x ≡ true → (l : ℕ) → l < n → bit l x ≡ matches_digits 6 e l
unfolding has_bits
has_bit zero e x t l h = absurd (omega arith)
has_bit (suc n) e x t l h =
    let z = and_split (beq (bit n x) (matches_digits 6 e n)) (has_bits n e x) t in go z.0 (has_bit n e x z.1 l) (ℕ_discrete l n)
  where
    go : beq (bit n x) (matches_digits 6 e n) ≡ true → (l < n → bit l x ≡ matches_digits 6 e l) → Dec (l ≡ n) → bit l x ≡ matches_digits 6 e l
    go b rec (yes i) = subst (λ (k : ℕ). bit k x ≡ matches_digits 6 e k) (sym i) (beq_eq (bit n x) (matches_digits 6 e n) b)
    go b rec (no i) = rec (omega arith)

-- a list that passes the test is the table
pub rule-of : (t : List ℕ) → length t ≡ 729 → each (has_bits 64) 0 t ≡ true → Sets t
rule-of t e a = record { size = e; rule = λ k h l g. has_bit 64 k (get_or t k 0) (each_at (has_bits 64) t a k (rw e h)) l g }

-- and its numbers are those of the definition
pub entry_of_lem : (t : List ℕ) → Sets t → (e : ℕ) → e < 729 → get_or t e 0 < 2 ^ 64 → get_or t e 0 ≡ entry_of e
unfolding entry_of
entry_of_lem t s e h small = from_word 64 64 (get_or t e 0) (matches_digits 6 e) (omega arith) small (λ l g. s.rule e h l g ∙ ap (λ (t : Bool). t && matches_digits 6 e l) (sym (lt-ltb l 64 g)))
