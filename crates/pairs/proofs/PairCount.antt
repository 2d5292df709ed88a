-- The pairs of a stored set are the bits of its words that are 1.
use Rattle.std.proofs.Common.{◌≡◌, ℕ, ◌+◌, ◌*◌, ◌/◌, ◌%◌, ◌^◌, ◌<◌, List, get_or, sym, ap, ap₂, ◌∙◌, arith}
use Rattle.std.proofs.Math.Option.{none, some}
use lib.Count.{ones}
use Rattle.words.specs.Bits.{bit}
use Rattle.words.specs.Below.{one, sum_below, count_below}
use Rattle.words.proofs.CountLaws.{sum_cong, sum_add, sum_groups, ones_bits, sum_swap}
use Rattle.completions.specs.Live.{count_pairs}
use Rattle.pairs.specs.Storage.{stored, word_of, slot, live, set_words}
use Rattle.pairs.specs.Changes.{row_bit}

-- one word more
pub word-count : (s : List ℕ) (j : ℕ) → get_or s j 0 < 2 ^ 64 → count_below (64 * (j + 1)) (row_bit s 0) ≡ count_below (64 * j) (row_bit s 0) + ones (get_or s j 0)
unfolding count_below row_bit
word-count s j h =
    let f : ℕ → ℕ = λ x. one (row_bit s 0 x) in
    let more : 64 * (j + 1) ≡ 64 * j + 64 = omega arith in
    ap (λ (n : ℕ). sum_below n f) more ∙ sum_add (64 * j) 64 f
    ∙ ap (λ (n : ℕ). sum_below (64 * j) f + n)
    (sum_cong 64 (λ i. f (64 * j + i)) (λ i. one (bit i (get_or s j 0)))
    (λ i l.
    let p : (64 * j + i) % 64 ≡ i = omega arith in
    let q : 0 + (64 * j + i) / 64 ≡ j = omega arith in
    ap₂ (λ (x y : ℕ). one (bit x (get_or s y 0))) p q)
    ∙ sym (ones_bits 64 (get_or s j 0) h))

-- the words that the live set lies in
pub pair-count : (s t : List ℕ) → ((k : ℕ) → k < set_words → get_or t k 0 ≡ get_or s k 0) → count_below (64 * set_words) (row_bit t 0) ≡ count_pairs 256 (live s)
unfolding count_pairs count_below stored word_of slot row_bit
pair-count s t same =
    let f : ℕ → ℕ = λ x. one (row_bit t 0 x) in
    let at : (a c x : ℕ) → x < 64 * set_words → x / 64 ≡ a → x % 64 ≡ c → f x ≡ one (bit c (get_or s (0 + a) 0)) =
    λ a c x h p q.
    let zero : 0 + x / 64 ≡ x / 64 = omega arith in
    let also : x / 64 ≡ 0 + a = omega arith in
    ap (λ (k : ℕ). one (bit (x % 64) (get_or t k 0))) zero ∙ ap (λ (v : ℕ). one (bit (x % 64) v)) (same (x / 64) (omega arith))
    ∙ ap₂ (λ (x y : ℕ). one (bit x (get_or s y 0))) q also
    in
    let rows : sum_below 256 (λ b. sum_below 256 (λ a. one (live s a (some b)))) ≡ sum_below 65536 f =
    sum_swap 256 256 (λ a b. one (live s a (some b)))
    ∙ sum_cong 256 (λ a. sum_below 256 (λ b. one (live s a (some b)))) (λ a. sum_below 256 (λ b. f (a * 256 + b)))
    (λ a ha. sum_cong 256 (λ b. one (live s a (some b))) (λ b. f (a * 256 + b)) (λ b hb. sym (at (4 * a + b / 64) (b % 64) (a * 256 + b) (omega arith) (omega arith) (omega arith))))
    ∙ sym (sum_groups 256 256 f)
    in
    let ends : sum_below 256 (λ a. one (live s a none)) ≡ sum_below 256 (λ a. f (65536 + a)) =
    sum_cong 256 (λ a. one (live s a none)) (λ a. f (65536 + a)) (λ a ha. sym (at (1024 + a / 64) (a % 64) (65536 + a) (omega arith) (omega arith) (omega arith)))
    in
    omega (arith, sum_add 65536 256 f, rows, ends)
