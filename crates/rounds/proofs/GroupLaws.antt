-- The rows of the groups, emptied one after the other.
use Rattle.std.specs.Prelude.{Some, None}
use mathlib.Core.Path.{◌≡◌, refl, sym, ap, ap₂, ◌∙◌}
use mathlib.Core.Bool.{Bool, true, false, cond, not, ◌&&◌, ◌||◌, and-true, and-false}
use mathlib.Core.List.{List}
use mathlib.Core.Option.{Option, none, some}
use Prim.Native.Nat.{ℕ, ◌+◌, ◌≤◌, ◌<◌}
use native.Mathlib.Omega.{arith}
use native.Mathlib.Decide.{ℕ_discrete, dec_lt}
use lib.Bits.{bit_and}
use lib.Dec.{eqb, ltb}
use borrow.Author.Tests.{eq-eqb, ne_eqb, lt-ltb, le-ltb}
use Rattle.words.proofs.AnyLaws.{none_any}
use Rattle.completions.specs.Live.{Pairs}
use Rattle.completions.specs.Steps.{Within}
use Rattle.pairs.specs.Storage.{used, scratch, set_words, reached_at, scratch_at}
use Rattle.pairs.specs.Changes.{Framed, row_bit, Adds, FirstFrom, RowsCleared, RowTaken}
use Rattle.pairs.proofs.Frames.{framed_none, framed_then}
use Rattle.pairs.proofs.Sets.{framed-beyond}
use Rattle.rounds.specs.Rows.{Sparse, NoEnds, grouped}

-- of the scratch set, the groups below g are emptied
pub record Emptying (groups : List ℕ) (s t : List ℕ) (g : ℕ) : Type 0 where
  pub frame : Framed scratch_at set_words s t
  pub left : (x : ℕ) (y : Option ℕ) → x < 256 → Within 256 y → scratch t x y ≡ (scratch s x y && not (row_bit groups 0 x && ltb x g))

module _ (groups : List ℕ) where
  -- a row that is no group is left as it is
  kept : (x g : ℕ) (u : Bool) → (x < g → row_bit groups 0 x ≡ false) → (u && not (row_bit groups 0 x && ltb x g)) ≡ u
  kept x g u f = go (dec_lt x g)
    where
      go : Dec (x < g) → (u && not (row_bit groups 0 x && ltb x g)) ≡ u
      go (yes h) = ap (λ (z : Bool). u && not (z && ltb x g)) (f h) ∙ and-true u
      go (no h) =
          ap (λ (z : Bool). u && not (row_bit groups 0 x && z)) (le-ltb x g (omega arith)) ∙ ap (λ (z : Bool). u && not z) (and-false (row_bit groups 0 x)) ∙ and-true u

  pub emptying-none : (s : List ℕ) → Emptying groups s s 0
  emptying-none s = record {
    frame = framed_none scratch_at set_words s;
    left = λ x y hx hy. sym (kept x 0 (scratch s x y) (λ h. absurd (omega arith)));
  }

  -- numbers that are no groups are passed over
  wider : (s t : List ℕ) (from g : ℕ) → from ≤ g → ((x : ℕ) → from ≤ x → x < g → row_bit groups 0 x ≡ false) → Emptying groups s t from → Emptying groups s t g
  wider s t from g l f e = record { frame = e.frame; left = λ x y hx hy. e.left x y hx hy ∙ go x (scratch s x y) (dec_lt x from) }
    where
      go : (x : ℕ) (u : Bool) → Dec (x < from) → (u && not (row_bit groups 0 x && ltb x from)) ≡ (u && not (row_bit groups 0 x && ltb x g))
      go x u (yes h) = ap (λ (z : Bool). u && not (row_bit groups 0 x && z)) (lt-ltb x from h ∙ sym (lt-ltb x g (omega arith)))
      go x u (no h) = kept x from u (λ k. absurd (omega arith)) ∙ sym (kept x g u (λ k. f x (omega arith) k))

  pub emptying-more : (s t u : List ℕ) (v from g : ℕ) → FirstFrom (row_bit groups 0) v from (Some g) → Emptying groups s t from → RowTaken scratch_at g t u → Emptying groups s u (g + 1)
  emptying-more s t u v from g z e r = record {
    frame = framed_then e.frame r.frame;
    left = λ x y hx hy. r.taken x y hx hy ∙ ap (λ (b : Bool). b && not (eqb x g)) ((wider s t from g z.0 (λ x d e. z.2 x d e) e).left x y hx hy) ∙ go (scratch s x y) x (ℕ_discrete x g) (dec_lt x g);
  }
    where
      go : (b : Bool) (x : ℕ) → Dec (x ≡ g) → Dec (x < g)
          → ((b && not (row_bit groups 0 x && ltb x g)) && not (eqb x g)) ≡ (b && not (row_bit groups 0 x && ltb x (g + 1)))
      go b x (yes q) d =
          ap (λ (k : Bool). (b && not (row_bit groups 0 x && ltb x g)) && not k) (eq-eqb x g q)
          ∙ and-false (b && not (row_bit groups 0 x && ltb x g))
          ∙ sym (ap₂ (λ (k m : Bool). b && not (k && m)) (ap (row_bit groups 0) q ∙ z.3) (lt-ltb x (g + 1) (omega arith)) ∙ and-false b)
      go b x (no q) (yes l) =
          ap₂ (λ (k m : Bool). (b && not (row_bit groups 0 x && k)) && not m) (lt-ltb x g l) (ne_eqb x g q)
          ∙ and-true (b && not (row_bit groups 0 x && true))
          ∙ sym (ap (λ (k : Bool). b && not (row_bit groups 0 x && k)) (lt-ltb x (g + 1) (omega arith)))
      go b x (no q) (no l) =
          ap (λ (m : Bool). (b && not (row_bit groups 0 x && ltb x g)) && not m) (ne_eqb x g q)
          ∙ and-true (b && not (row_bit groups 0 x && ltb x g))
          ∙ kept x g b (λ k. absurd (omega arith))
          ∙ sym (kept x (g + 1) b (λ k. absurd (omega arith)))

  pub emptying-all : (s t : List ℕ) (v from : ℕ) → from ≤ v → v ≤ 256 → FirstFrom (row_bit groups 0) v from None → Sparse v groups (scratch s) → NoEnds (scratch s)
      → Emptying groups s t from → RowsCleared scratch_at v s t
  unfolding used
  emptying-all s t v from l hv z sparse ends f = record { frame = e.frame; emptied = λ x y hx hy. e.left x y hx hy ∙ go x y hx hy }
    where
      e : Emptying groups s t v
      e = wider s t from v l (λ x d e. z x d e) f

      noted : (x b : ℕ) (u : Bool) → x < v → b < 256 → row_bit groups 0 x ≡ u → (scratch s x (some b) && not (u && true)) ≡ false
      noted x b true l hb q = and-false (scratch s x (some b))
      noted x b false l hb q = ap (λ (k : Bool). k && true) (sparse x l q b hb)

      row : (x b : ℕ) → b < 256 → Dec (x < v) → (scratch s x (some b) && not (row_bit groups 0 x && ltb x v)) ≡ cond (ltb x v) false (scratch s x (some b))
      row x b hb (yes l) =
          ap (λ (k : Bool). scratch s x (some b) && not (row_bit groups 0 x && k)) (lt-ltb x v l)
          ∙ noted x b (row_bit groups 0 x) l hb refl
          ∙ sym (ap (λ (k : Bool). cond k false (scratch s x (some b))) (lt-ltb x v l))
      row x b hb (no l) =
          let i : v ≤ x = omega arith in
          kept x v (scratch s x (some b)) (λ k. absurd (omega arith)) ∙ sym (ap (λ (k : Bool). cond k false (scratch s x (some b))) (le-ltb x v i))

      go : (x : ℕ) (y : Option ℕ) → x < 256 → Within 256 y → (scratch s x y && not (row_bit groups 0 x && ltb x v)) ≡ cond (used v x y) false (scratch s x y)
      go x none hx hy = ap (λ (k : Bool). k && not (row_bit groups 0 x && ltb x v)) (ends x hx)
      go x (some b) hx hy = row x b hy (dec_lt x v)

-- changes of the reached set leave the scratch set sparse
pub sparse_brought : (v : ℕ) (groups s t : List ℕ) (P : Pairs) → v ≤ 256 → Adds reached_at s t P → Sparse v groups (scratch s) → Sparse v groups (scratch t)
sparse_brought v groups s t P hv d f g hg e k hk = framed-beyond d.frame scratch_at g (some k) (omega arith) hk (omega arith) ∙ f g hg e k hk

-- a scratch set that was cleared and has the groups put into it has no ends, and changes of the reached set leave it so
pub no_ends : (v : ℕ) (s s₁ s₂ s₃ s₄ : List ℕ) (S P : Pairs) (r : ℕ → Bool) (mask w : ℕ) → RowsCleared scratch_at v s s₁ → Adds scratch_at s₁ s₂ (grouped S r mask w v) → RowsCleared reached_at v s₂ s₃
    → Adds reached_at s₃ s₄ P → NoEnds (scratch s₄)
unfolding grouped used
no_ends v s s₁ s₂ s₃ s₄ S P r mask w a b c d k h =
    framed-beyond d.frame scratch_at k none h tt (omega arith)
    ∙ framed-beyond c.frame scratch_at k none h tt (omega arith)
    ∙ b.adds k none h tt
    ∙ ap₂ ◌||◌ (a.emptied k none h tt) (none_any v _ (λ i l. and-false (eqb k (bit_and i mask))))
