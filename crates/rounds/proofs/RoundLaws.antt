-- A round.
use mathlib.Core.Path.{◌≡◌, refl, sym, ap, ap₂, ◌∙◌, subst}
use mathlib.Core.Bool.{Bool, true, false, cond, ◌&&◌, ◌||◌, and-true, and-false, or-false}
use mathlib.Core.List.{List}
use mathlib.Core.Option.{Option, none, some}
use Prim.Native.Nat.{ℕ, ◌+◌, ◌*◌, ◌/◌, ◌%◌, ◌≤◌, ◌<◌}
use native.Mathlib.Omega.{arith}
use native.Mathlib.Decide.{ℕ_discrete, dec_lt}
use lib.Bits.{bit_and, and_le_l}
use lib.Dec.{eqb, ltb}
use borrow.Author.Tests.{eq-eqb, ne_eqb, eqb-true, lt-ltb, le-ltb, ltb-false}
use Rattle.words.specs.Bits.{bit}
use Rattle.words.specs.Below.{any_below}
use Rattle.words.proofs.BitLaws.{bit-and}
use Rattle.words.proofs.AnyLaws.{any_cong, none_any, some_any, any_some}
use Rattle.words.proofs.Bools.{iff, and_split}
use Rattle.words.proofs.BelowLaws.{words-one, below_none}
use Rattle.sheet.specs.RuleSheet.{RuleSheet}
use Rattle.lola.specs.Equations.{holds}
use Rattle.completions.specs.Live.{Pairs}
use Rattle.completions.specs.Steps.{Within, start_set, step_set, part_below}
use Rattle.pairs.specs.Storage.{used, live, reached, scratch, live_at, reached_at, scratch_at}
use Rattle.pairs.specs.Changes.{in_word, Adds, RowsCleared}
use Rattle.pairs.proofs.Frames.{framed_then, framed_wider}
use Rattle.pairs.proofs.Sets.{framed-before, framed-beyond, used-below, unused, adds_none, adds_then}
use Rattle.rounds.specs.Rows.{among, cut, gains, in_row, heard_first, brought, heard_in, grouped, Sparse}
use Rattle.rounds.specs.Round.{Rounded}
use Rattle.rounds.proofs.Bools.{merge_under}
use Rattle.rounds.proofs.WordLaws.{heard_lane}

-- ---- the words in use

-- what a set gains that was cleared where u says so, if all of it lies there
gained : (u p l : Bool) → (u ≡ false → p ≡ false) → (cond u false l || p) ≡ cond u p l
gained true p l f = refl
gained false p l f = ap (λ (z : Bool). l || z) (f refl) ∙ or-false l

-- ---- the steps of a round: cleared scratch, the set G put there, cleared reached, the pairs P brought, cleared scratch

both-cleared : (u p l : Bool) → (u ≡ false → p ≡ false) → cond u false (cond u false l || p) ≡ cond u false l
both-cleared true p l f = refl
both-cleared false p l f = ap (λ (z : Bool). l || z) (f refl) ∙ or-false l

module _ (w : ℕ) (s s₁ s₂ s₃ s₄ s₅ : List ℕ) (G P R : Pairs) (a : RowsCleared scratch_at w s s₁) (b : Adds scratch_at s₁ s₂ G) (c : RowsCleared reached_at w s₂ s₃)
    (d : Adds reached_at s₃ s₄ P) (e : RowsCleared scratch_at w s₄ s₅) where
  live_same : (k : ℕ) (y : Option ℕ) → k < 256 → Within 256 y → live s₃ k y ≡ live s k y
  live_same k y hk hy =
      framed-before c.frame live_at k y hk hy (omega arith) ∙ framed-before b.frame live_at k y hk hy (omega arith) ∙ framed-before a.frame live_at k y hk hy (omega arith)

  -- in the words in use, the scratch set is what was put there
  put_is : (g k : ℕ) → g < w → g < 256 → k < 256 → scratch s₃ g (some k) ≡ G g (some k)
  put_is g k l hg hk =
      framed-beyond c.frame scratch_at g (some k) hg hk (omega arith)
      ∙ b.adds g (some k) hg hk
      ∙ ap (λ (u : Bool). u || G g (some k))
      (a.emptied g (some k) hg hk ∙ ap (λ (u : Bool). cond u false (scratch s g (some k))) (used-below w g (some k) l))

  steps-rounded : ((k : ℕ) (y : Option ℕ) → w ≤ k → G k y ≡ false) → ((k : ℕ) (y : Option ℕ) → k < 256 → Within 256 y → P k y ≡ (ltb k w && (part_below w y && R k y)))
      → Rounded w s s₅ R
  steps-rounded low brings = record {
    frame = framed_then
        (framed_then (framed_wider (omega arith) (omega arith) (framed_then a.frame b.frame)) (framed_wider (omega arith) (omega arith) (framed_then c.frame d.frame)))
        (framed_wider (omega arith) (omega arith) e.frame);
    reached = λ k y hk hy.
        framed-before e.frame reached_at k y hk hy (omega arith)
        ∙ d.adds k y hk hy
        ∙ ap₂ ◌||◌
        (c.emptied k y hk hy
        ∙ ap (λ (l : Bool). cond (used w k y) false l) (framed-before b.frame reached_at k y hk hy (omega arith) ∙ framed-before a.frame reached_at k y hk hy (omega arith)))
        (brings k y hk hy)
        ∙ gained (used w k y) (ltb k w && (part_below w y && R k y)) (reached s k y) (λ q. ap (λ (u : Bool). u && (part_below w y && R k y)) (unused w k y q));
    scratch = λ k y hk hy.
        e.emptied k y hk hy
        ∙ ap (cond (used w k y) false)
        (framed-beyond d.frame scratch_at k y hk hy (omega arith)
        ∙ framed-beyond c.frame scratch_at k y hk hy (omega arith)
        ∙ b.adds k y hk hy
        ∙ ap (λ (l : Bool). l || G k y) (a.emptied k y hk hy))
        ∙ both-cleared (used w k y) (G k y) (scratch s k y) (λ q. low k y (ltb-false k w (unused w k y q)));
  }

-- ---- the first round

pub heard-none : (s : List ℕ) (v letters : ℕ) → Adds scratch_at s s (heard_first v (among letters) (64 * 0))
heard-none s v letters = adds_none scratch_at s (heard_first v (among letters) (64 * 0)) (λ a c. go a c)
  where
    go : (a : ℕ) (c : Option ℕ) → heard_first v (among letters) (64 * 0) a c ≡ false
    go a none = and-false (eqb a 0)
    go a (some c) = ap (λ (u : Bool). eqb a 0 && u) (below_none c (ltb c v && among letters c)) ∙ and-false (eqb a 0)

pub heard-more : (s t u : List ℕ) (v letters mask j : ℕ) → Adds scratch_at s t (heard_first v (among letters) (64 * j)) → ((i : ℕ) → i < 64 → bit i mask ≡ ltb (64 * j + i) v)
    → Adds scratch_at t u (λ a c. eqb a 0 && in_word j (bit_and mask letters) c) → Adds scratch_at s u (heard_first v (among letters) (64 * (j + 1)))
unfolding in_word
heard-more s t u v letters mask j f lanes q =
    adds_then scratch_at s t u (heard_first v (among letters) (64 * j)) (λ a c. eqb a 0 && in_word j z c) (heard_first v (among letters) (64 * (j + 1))) f q (λ a c ha hc. go a c)
  where
    z : ℕ
    z = bit_and mask letters

    word : (c : ℕ) → Dec (c / 64 ≡ j) → (eqb (c / 64) j && bit (c % 64) z) ≡ (eqb (c / 64) j && (ltb c v && among letters c))
    word c (yes e) =
        let w : 64 * j + c % 64 ≡ c = omega arith in
        let l : c % 64 < 64 = omega arith in
        ap (λ (k : Bool). eqb (c / 64) j && k)
        (bit-and (c % 64) mask letters ∙ ap₂ ◌&&◌ (lanes (c % 64) l ∙ ap (λ (i : ℕ). ltb i v) w) (heard_lane letters j (c % 64) l ∙ ap (among letters) w))
    word c (no e) = rw (ne_eqb (c / 64) j e)

    go : (a : ℕ) (c : Option ℕ) → (heard_first v (among letters) (64 * j) a c || (eqb a 0 && in_word j z c)) ≡ heard_first v (among letters) (64 * (j + 1)) a c
    go a none = ap (λ (k : Bool). (eqb a 0 && false) || k) (and-false (eqb a 0)) ∙ or-false (eqb a 0 && false)
    go a (some c) =
        ap (λ (k : Bool). (eqb a 0 && (ltb c (64 * j) && (ltb c v && among letters c))) || (eqb a 0 && k)) (word c (ℕ_discrete (c / 64) j))
        ∙ merge_under (eqb a 0) (ltb c (64 * j)) (eqb (c / 64) j) (ltb c (64 * (j + 1))) (ltb c v && among letters c) (words-one c j)

pub heard_all : (s t : List ℕ) (v letters j w : ℕ) → j ≤ w → w ≤ j → Adds scratch_at s t (heard_first v (among letters) (64 * j)) → Adds scratch_at s t (heard_first v (among letters) (64 * w))
heard_all s t v letters j w h l f = let e : j ≡ w = omega arith in subst (λ (k : ℕ). Adds scratch_at s t (heard_first v (among letters) (64 * k))) e f

module _ (x : RuleSheet) (w n : ℕ) (r : ℕ → Bool) (some_valuation : 1 ≤ w) (hn : w ≤ 64 * n) (s s₁ s₂ s₃ s₄ s₅ : List ℕ)
    (a : RowsCleared scratch_at w s s₁) (b : Adds scratch_at s₁ s₂ (heard_first w r (64 * n))) (c : RowsCleared reached_at w s₂ s₃)
    (d : Adds reached_at s₃ s₄ (gains x (in_row (scratch s₃) w 0) (part_below w) (live s₃) none)) (e : RowsCleared scratch_at w s₄ s₅) where
  abbrev First : Pairs
  First = gains x (in_row (scratch s₃) w 0) (part_below w) (live s₃) none

  first-low : (k : ℕ) (y : Option ℕ) → w ≤ k → heard_first w r (64 * n) k y ≡ false
  first-low k y h = ap (λ (u : Bool). u && cut (λ b. ltb b (64 * n) && (ltb b w && r b)) y) (ne_eqb k 0 (λ q. omega arith))

  first-brings : (k : ℕ) (y : Option ℕ) → k < 256 → Within 256 y → First k y ≡ (ltb k w && (part_below w y && start_set x (live s) r k y))
  unfolding gains start_set
  first-brings k y hk hy = at (dec_lt k w)
    where
      order : (q y l h : Bool) → (q && (y && (l && h))) ≡ (y && (l && (q && h)))
      order true y l h = refl
      order false true true h = refl
      order false true false h = refl
      order false false l h = refl

      row : k < w → scratch s₃ 0 (some k) ≡ r k
      row h =
          put_is w s s₁ s₂ s₃ s₄ s₅ (heard_first w r (64 * n)) First (start_set x (live s) r) a b c d e 0 k (omega arith) (omega arith) hk
          ∙ ap₂ (λ (u t : Bool). u && (t && r k)) (lt-ltb k (64 * n) (omega arith)) (lt-ltb k w (omega arith))

      at : Dec (k < w)
          → ((ltb k w && scratch s₃ 0 (some k)) && (part_below w y && (live s₃ k y && holds x none k y)))
          ≡ (ltb k w && (part_below w y && (live s k y && (r k && holds x none k y))))
      at (yes h) =
          rw (lt-ltb k w h)
          (ap₂ (λ (q l : Bool). q && (part_below w y && (l && holds x none k y))) (row h)
          (live_same w s s₁ s₂ s₃ s₄ s₅ (heard_first w r (64 * n)) First (start_set x (live s) r) a b c d e k y hk hy)
          ∙ order (r k) (part_below w y) (live s k y) (holds x none k y))
      at (no h) = let z : w ≤ k = omega arith in rw (le-ltb k w z)

  pub rounded-first : Rounded w s s₅ (start_set x (live s) r)
  rounded-first = steps-rounded w s s₁ s₂ s₃ s₄ s₅ (heard_first w r (64 * n)) First (start_set x (live s) r) a b c d e first-low first-brings

-- ---- groups: those that the mask leaves alike have the same successors

-- the equations see of the round before only the streams of the mask
abbrev pub Blind : RuleSheet → ℕ → Type 0
Blind x mask = (a b : ℕ) (c : Option ℕ) → holds x (some a) b c ≡ holds x (some (bit_and a mask)) b c

module _ (x : RuleSheet) (mask : ℕ) (blind : Blind x mask) (S : Pairs) (w b : ℕ) (c : Option ℕ) where
  abbrev members : ℕ → Bool
  members g = any_below w (λ a. eqb g (bit_and a mask) && S a (some b))

  groups-same : any_below w (λ g. members g && holds x (some g) b c) ≡ any_below w (λ a. S a (some b) && holds x (some a) b c)
  groups-same = iff (any_below w (λ g. members g && holds x (some g) b c)) (any_below w (λ a. S a (some b) && holds x (some a) b c)) (λ e. there e) (λ e. back e)
    where
      there : any_below w (λ g. members g && holds x (some g) b c) ≡ true → any_below w (λ a. S a (some b) && holds x (some a) b c) ≡ true
      there e =
          let y = any_some w (λ g. members g && holds x (some g) b c) e in
          let g : ℕ = y.0 in
          let k = and_split (members g) (holds x (some g) b c) y.2 in
          let z = any_some w (λ a. eqb g (bit_and a mask) && S a (some b)) k.0 in
          let a : ℕ = z.0 in
          let l = and_split (eqb g (bit_and a mask)) (S a (some b)) z.2 in
          let q : g ≡ bit_and a mask = eqb-true g (bit_and a mask) l.0 in
          some_any w (λ a. S a (some b) && holds x (some a) b c) a z.1
          (ap₂ ◌&&◌ l.1 (blind a b c ∙ ap (λ (i : ℕ). holds x (some i) b c) (sym q) ∙ k.1))

      back : any_below w (λ a. S a (some b) && holds x (some a) b c) ≡ true → any_below w (λ g. members g && holds x (some g) b c) ≡ true
      back e =
          let y = any_some w (λ a. S a (some b) && holds x (some a) b c) e in
          let a : ℕ = y.0 in
          let h : a < w = y.1 in
          let k = and_split (S a (some b)) (holds x (some a) b c) y.2 in
          let g : ℕ = bit_and a mask in
          let l : g < w = omega (arith, and_le_l a mask) in
          some_any w (λ g. members g && holds x (some g) b c) g l
          (ap₂ ◌&&◌ (some_any w (λ a. eqb g (bit_and a mask) && S a (some b)) a h (ap₂ ◌&&◌ (eq-eqb g (bit_and a mask) refl) k.0)) (sym (blind a b c) ∙ k.1))

-- tests that do not depend on the number searched for
out : (w : ℕ) (i y l : Bool) (G H : ℕ → Bool) → any_below w (λ g. (i && G g) && (y && (l && H g))) ≡ (i && (y && (l && any_below w (λ g. G g && H g))))
out w false y l G H = none_any w _ (λ g h. refl)
out w true false l G H = none_any w _ (λ g h. and-false (G g))
out w true true false G H = none_any w _ (λ g h. and-false (G g))
out w true true true G H = refl

out_heard : (w : ℕ) (q : Bool) (G H : ℕ → Bool) → any_below w (λ g. (G g && q) && H g) ≡ (q && any_below w (λ g. G g && H g))
out_heard w true G H = any_cong w _ _ (λ g h. ap (λ (u : Bool). u && H g) (and-true (G g)))
out_heard w false G H = none_any w _ (λ g h. ap (λ (u : Bool). u && H g) (and-false (G g)))

-- no group has a number beyond those of its rows
group_low : (S : Pairs) (r : ℕ → Bool) (mask n v g : ℕ) (c : Option ℕ) → v ≤ g → grouped S r mask n v g c ≡ false
unfolding grouped
group_low S r mask n v g c h =
    none_any v _
    (λ a ha. ap (λ (u : Bool). u && heard_in S r n a c) (ne_eqb g (bit_and a mask) (λ e. let l : bit_and a mask ≤ a = and_le_l a mask in omega arith)))

-- a scratch set that was cleared is sparse, and clearing another set leaves it so
pub cleared_sparse : (v : ℕ) (groups s s₁ : List ℕ) → v ≤ 256 → RowsCleared scratch_at v s s₁ → Sparse v groups (scratch s₁)
cleared_sparse v groups s s₁ hv a g hg e k hk =
    a.emptied g (some k) (omega arith) hk ∙ ap (λ (u : Bool). cond u false (scratch s g (some k))) (used-below v g (some k) hg)

pub sparse_kept : (w : ℕ) (groups s t : List ℕ) → w ≤ 256 → RowsCleared reached_at w s t → Sparse w groups (scratch s) → Sparse w groups (scratch t)
sparse_kept w groups s t hw c f g hg e k hk = framed-beyond c.frame scratch_at g (some k) (omega arith) hk (omega arith) ∙ f g hg e k hk

module _ (x : RuleSheet) (mask : ℕ) (blind : Blind x mask) (w n : ℕ) (r : ℕ → Bool) (hw : w ≤ 256) (hn : w ≤ 64 * n) where
  -- the storage: at first, cleared scratch, grouped, cleared reached, brought, cleared scratch
  module _ (s s₁ s₂ s₃ s₄ s₅ : List ℕ) (a : RowsCleared scratch_at w s s₁) (b : Adds scratch_at s₁ s₂ (grouped (reached s₁) r mask (64 * n) w)) (c : RowsCleared reached_at w s₂ s₃)
      (d : Adds reached_at s₃ s₄ (brought x (scratch s₃) w (live s₃) w)) (e : RowsCleared scratch_at w s₄ s₅) where
    abbrev G₁ : Pairs
    G₁ = grouped (reached s₁) r mask (64 * n) w

    abbrev Brought : Pairs
    Brought = brought x (scratch s₃) w (live s₃) w

    abbrev Stepped : Pairs
    Stepped = step_set x w (live s) (reached s) r

    group-same : (g k : ℕ) → g < w → k < w → scratch s₃ g (some k) ≡ any_below w (λ i. eqb g (bit_and i mask) && (reached s i (some k) && r k))
    unfolding grouped
    group-same g k hg hk =
        let hk' : k < 256 = omega arith in
        let hm : k < 64 * n = omega arith in
        put_is w s s₁ s₂ s₃ s₄ s₅ G₁ Brought Stepped a b c d e g k hg (omega arith) hk'
        ∙ any_cong w _ (λ i. eqb g (bit_and i mask) && (reached s i (some k) && r k))
        (λ i hi. ap₂ (λ (p q : Bool). eqb g (bit_and i mask) && (p && (q && r k))) (lt-ltb k (64 * n) hm) (framed-before a.frame reached_at i (some k) (omega arith) hk' (omega arith)))

    brought-is : (k : ℕ) (y : Option ℕ) → k < 256 → Within 256 y → Brought k y ≡ (ltb k w && (part_below w y && Stepped k y))
    unfolding brought gains step_set
    brought-is k y hk hy =
        out w (ltb k w) (part_below w y) (live s₃ k y) (λ g. scratch s₃ g (some k)) (λ g. holds x (some g) k y)
        ∙ ap (λ (l : Bool). ltb k w && (part_below w y && (l && any_below w (λ g. scratch s₃ g (some k) && holds x (some g) k y)))) (live_same w s s₁ s₂ s₃ s₄ s₅ G₁ Brought Stepped a b c d e k y hk hy)
        ∙ at (dec_lt k w)
      where
        at : Dec (k < w)
            → (ltb k w && (part_below w y && (live s k y && any_below w (λ g. scratch s₃ g (some k) && holds x (some g) k y))))
            ≡ (ltb k w && (part_below w y && (live s k y && (r k && any_below w (λ i. reached s i (some k) && holds x (some i) k y)))))
        at (yes h) =
            ap (λ (u : Bool). ltb k w && (part_below w y && (live s k y && u)))
            (any_cong w _ _ (λ g hg. ap (λ (u : Bool). u && holds x (some g) k y) (group-same g k hg h))
            ∙ groups-same x mask blind (λ i c. reached s i c && r k) w k y
            ∙ out_heard w (r k) (λ i. reached s i (some k)) (λ i. holds x (some i) k y))
        at (no h) = let z : w ≤ k = omega arith in rw (le-ltb k w z)

    pub rounded-later : Rounded w s s₅ Stepped
    rounded-later =
        steps-rounded w s s₁ s₂ s₃ s₄ s₅ G₁ Brought Stepped a b c d e (λ k y h. group_low (reached s₁) r mask (64 * n) w k y h) brought-is
