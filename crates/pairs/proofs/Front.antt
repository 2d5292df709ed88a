-- The storage that is lent, and the words of the three sets in front of it.
use Rattle.std.proofs.Common.{◌≡◌, sym, ap, ◌∙◌, List, ◌++◌, ℕ, ◌+◌, ◌*◌, ◌≤◌, ◌<◌, length, get_or, take, drop, ◌/◌, ◌-◌, subst, length-append, length-drop, arith}
use Rattle.std.proofs.lemmas.List.{get_or-append_right}
use native.Mathlib.Decide.{dec_lt}
use Rattle.std.proofs.Math.Option.{Option, none, some}
use Rattle.std.proofs.Math.Seq.{get_or-take, get_or-drop, take-append_seam}
use Rattle.words.specs.Bits.{bit}
use Rattle.completions.specs.Steps.{Within}
use Rattle.pairs.specs.Storage.{word_of, slot, stored, scratch_at, storage_words}
use Rattle.pairs.specs.Changes.{Framed}

abbrev pub front : List ℕ → List ℕ
front s = take storage_words s

pub front-at : (s : List ℕ) (k : ℕ) → k < storage_words → get_or (front s) k 0 ≡ get_or s k 0
front-at s k h = get_or-take storage_words s k 0 h

pub front-stored : (s : List ℕ) (base a : ℕ) (c : Option ℕ) → base ≤ scratch_at → a < 256 → Within 256 c → stored (front s) base a c ≡ stored s base a c
unfolding stored word_of
front-stored s base a none h k w = ap (bit (slot a none)) (front-at s (base + (1024 + a / 64)) (omega arith))
front-stored s base a (some b) h k w = ap (bit (slot a (some b))) (front-at s (base + (4 * a + b / 64)) (omega arith))

-- the words behind are as they were
pub record Lent (s t : List ℕ) : Type 0 where
  pub same_length : length t ≡ length s
  pub behind : (k : ℕ) → storage_words ≤ k → get_or t k 0 ≡ get_or s k 0

pub front-framed : (at n : ℕ) (s t : List ℕ) → Lent s t → at + n ≤ storage_words → Framed at n (front s) (front t) → Framed at n s t
front-framed at n s t l h f = record {
  same_length = l.same_length;
  before = λ k b. sym (front-at t k (omega arith)) ∙ f.before k b ∙ front-at s k (omega arith);
  beyond = λ k b. go k b (dec_lt k storage_words);
}
  where
    go : (k : ℕ) → at + n ≤ k → Dec (k < storage_words) → get_or t k 0 ≡ get_or s k 0
    go k b (yes d) = sym (front-at t k d) ∙ f.beyond k b ∙ front-at s k d
    go k b (no d) = l.behind k (omega arith)

-- n new words in front of what is behind
behind_new : (n : ℕ) (s ws : List ℕ) → length ws ≡ n → n ≤ length s → (length (ws ++ drop n s) ≡ length s) × ((k : ℕ) → n ≤ k → get_or (ws ++ drop n s) k 0 ≡ get_or s k 0)
behind_new n s ws e h = (
  omega (arith, length-append ws (drop n s), length-drop n s),
  λ k l. get_or-append_right ws (drop n s) n k 0 e l ∙ get_or-drop n s (k - n) 0 ∙ ap (λ (i : ℕ). get_or s i 0) (omega arith),
)

front-new : (n : ℕ) (s ws : List ℕ) → length ws ≡ n → take n (ws ++ drop n s) ≡ ws
front-new n s ws e = subst (λ (k : ℕ). take k (ws ++ drop n s) ≡ ws) e (take-append_seam ws (drop n s))

pub lent-front : (s t ws : List ℕ) → t ≡ ws ++ drop storage_words s → length ws ≡ storage_words → storage_words ≤ length s → Lent s t × (front t ≡ ws)
lent-front s t ws q e h =
    let b = behind_new storage_words s ws e h in
    rw q (record { same_length = b.0; behind = b.1 }, front-new storage_words s ws e)
