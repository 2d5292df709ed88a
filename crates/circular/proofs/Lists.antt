-- A trace as a list of valuations, and as values by output and round: a list satisfies all equations exactly if its values solve them.
use mathlib.Core.Path.{◌≡◌, refl, sym, ap, ap₂, ◌∙◌, subst}
use mathlib.Core.Bool.{Bool, true, false, cond, ◌&&◌, beq}
use mathlib.Core.List.{List, [], ◌∷◌, map}
use mathlib.Core.Option.{Option, none, some}
use Prim.Native.Nat.{ℕ, zero, suc, ◌+◌, ◌-◌, ◌*◌, ◌%◌, ◌^◌, ◌≤◌, ◌<◌}
use native.Mathlib.Nat.{zero-mod}
use native.Mathlib.Omega.{arith}
use lib.ListN.{length, get_or, drop, drop_of_length-le, get_or-map, length-map}
use lib.Seq.{drop-cons}
use lib.Dec.{leb, ltb, T}
use borrow.Author.Tests.{ltb-true, ltb-false, leb-true, leb-false, le-leb}
use Rattle.words.specs.Bits.{bit}
use Rattle.words.proofs.JoinLaws.{bit-of-low, bit-above, join_mod, join_lt}
use Rattle.words.proofs.Bools.{beq_eq, beq_refl}
use Rattle.words.proofs.Tests.{and_left, and_right, and_both, true_of, of_true}
use Rattle.sheet.specs.Expression.{Expr, constant}
use Rattle.sheet.specs.RuleSheet.{RuleSheet, outputs, streams}
use Rattle.sheet.specs.declared.Offset.{Offset}
use Rattle.sheet.specs.declared.Offset.TheVariants.{Earlier, Now, Later}
use Rattle.sheet.proofs.Formed.{Formed}
use Rattle.lola.specs.Value.{value, near, neighbours}
use Rattle.lola.specs.Equations.{equations, holds, first, Satisfies, letter, Letters, joined}
use Rattle.circular.specs.Circular.{edges}
use Rattle.circular.specs.Unique.{TraceOf}
use Rattle.circular.specs.Places.{Assignment, joint, look_at, right, Place, Solves}
use Rattle.circular.proofs.Sweep.{solves_of}
use Rattle.circular.proofs.Sides.{expression_of, right_of, value_same, right-reads}

-- ---- the equations one by one

same_beq : (a b : Bool) → a ≡ b → T (beq a b)
same_beq a b e = of_true (beq a b) (rw (← e) (beq_refl a))

module _ (p : Option ℕ) (v : ℕ) (n : Option ℕ) where
  equations-at : (es : List Expr) (q : ℕ) → T (equations es q p v n) → (k : ℕ) → k < length es → bit (q + k) v ≡ value (neighbours p v n) (get_or es k (constant false))
  unfolding equations
  equations-at [] q h k l = absurd (omega arith)
  equations-at (e ∷ es) q h zero l =
      let z : q + 0 ≡ q = omega arith in
      ap (λ (j : ℕ). bit j v) z ∙ beq_eq _ _ (true_of _ (and_left (beq (bit q v) (value (neighbours p v n) e)) (equations es (suc q) p v n) h))
  equations-at (e ∷ es) q h (suc k) l =
      let z : q + suc k ≡ suc q + k = omega arith in
      ap (λ (j : ℕ). bit j v) z
      ∙ equations-at es (suc q) (and_right (beq (bit q v) (value (neighbours p v n) e)) (equations es (suc q) p v n) h) k (omega arith)

  equations-from : (es : List Expr) (q : ℕ) → ((k : ℕ) → k < length es → bit (q + k) v ≡ value (neighbours p v n) (get_or es k (constant false))) → T (equations es q p v n)
  unfolding equations
  equations-from [] q h = tt
  equations-from (e ∷ es) q h =
      and_both (beq (bit q v) (value (neighbours p v n) e)) (equations es (suc q) p v n)
      (same_beq _ _ (let z : q ≡ q + 0 = omega arith in ap (λ (j : ℕ). bit j v) z ∙ h 0 (omega arith)))
      (equations-from es (suc q) (λ k l. let z : suc q + k ≡ q + suc k = omega arith in ap (λ (j : ℕ). bit j v) z ∙ h (suc k) (omega arith)))

-- ---- the rounds one by one

-- the valuation before the one at i
abbrev before : Option ℕ → List ℕ → ℕ → Option ℕ
before p vs zero = p
before p vs (suc i) = some (get_or vs i 0)

abbrev HoldsAt : RuleSheet → Option ℕ → List ℕ → ℕ → Type 0
HoldsAt x p vs i = (get_or vs i 0 < 2 ^ streams x) × T (holds x (before p vs i) (get_or vs i 0) (first (drop (suc i) vs)))

holds_at : (x : RuleSheet) (p : Option ℕ) (vs : List ℕ) → Satisfies x p vs → (i : ℕ) → i < length vs → HoldsAt x p vs i
holds_at x p [] h i l = absurd (omega arith)
holds_at x p (v ∷ vs) h zero l = (h.0, h.1)
holds_at x p (v ∷ vs) h (suc zero) l = holds_at x (some v) vs h.2 zero (omega arith)
holds_at x p (v ∷ vs) h (suc (suc i)) l = holds_at x (some v) vs h.2 (suc i) (omega arith)

satisfies-from : (x : RuleSheet) (p : Option ℕ) (vs : List ℕ) → ((i : ℕ) → i < length vs → HoldsAt x p vs i) → Satisfies x p vs
satisfies-from x p [] h = tt
satisfies-from x p (v ∷ vs) h = ((h 0 (omega arith)).0, (h 0 (omega arith)).1, satisfies-from x (some v) vs (λ i l. rest i l))
  where
    rest : (i : ℕ) → i < length vs → HoldsAt x (some v) vs i
    rest zero l = h 1 (omega arith)
    rest (suc i) l = h (suc (suc i)) (omega arith)

-- ---- lists and values

-- the inputs of letters, and the outputs of valuations, by round
abbrev pub inputs_by : List ℕ → Assignment
inputs_by ls q u = bit q (get_or ls (u - 1) 0)

abbrev pub outputs_by : ℕ → List ℕ → Assignment
outputs_by m vs s u = bit (m + s) (get_or vs (u - 1) 0)

pub letter_at : (x : RuleSheet) (ls vs : List ℕ) → map (letter x) vs ≡ ls → (i : ℕ) → get_or ls i 0 ≡ get_or vs i 0 % 2 ^ x.inputs
letter_at x ls vs e i =
    ap (λ (l : List ℕ). get_or l i 0) (sym e)
    ∙ ap (λ (z : ℕ). get_or (map (letter x) vs) i z) (sym (zero-mod (2 ^ x.inputs)))
    ∙ get_or-map (letter x) vs i 0

module _ (m : ℕ) (ls vs : List ℕ) (same : (i : ℕ) → get_or ls i 0 ≡ get_or vs i 0 % 2 ^ m) where
  joint-at : (q u k : ℕ) → u - 1 ≡ k → joint m (inputs_by ls) (outputs_by m vs) q u ≡ bit q (get_or vs k 0)
  unfolding joint
  joint-at q u k e = rw e (go (ltb q m) refl)
    where
      go : (b : Bool) → ltb q m ≡ b → cond b (bit q (get_or ls k 0)) (bit (m + (q - m)) (get_or vs k 0)) ≡ bit q (get_or vs k 0)
      go true h = ap (bit q) (same k) ∙ bit-of-low m q (get_or vs k 0) (ltb-true q m h)
      go false h = let z : m + (q - m) ≡ q = omega (arith, ltb-false q m h) in ap (λ (j : ℕ). bit j (get_or vs k 0)) z

  inside : (a q k : ℕ) (d : Bool) → 2 ≤ a → a ≤ suc (length vs) → a - 1 - 1 ≡ k
      → cond (leb 2 a && leb a (suc (length vs))) (joint m (inputs_by ls) (outputs_by m vs) q (a - 1)) d ≡ bit q (get_or vs k 0)
  inside a q k d lo hi e = rw (le-leb 2 a lo, le-leb a (suc (length vs)) hi) (joint-at q (a - 1) k e)

  late : (i q : ℕ) (d : Bool) → i < length vs → near (first (drop (suc i) vs)) q d ≡ look_at m (length vs) (inputs_by ls) (outputs_by m vs) (suc i) q Later d
  unfolding look_at near
  late i q d h = go (leb (suc i + 2) (suc (length vs))) refl
    where
      go : (b : Bool) → leb (suc i + 2) (suc (length vs)) ≡ b
          → near (first (drop (suc i) vs)) q d ≡ cond (leb 2 (suc i + 2) && leb (suc i + 2) (suc (length vs))) (joint m (inputs_by ls) (outputs_by m vs) q (suc i + 2 - 1)) d
      go true e =
          let hi : suc i + 2 ≤ suc (length vs) = leb-true (suc i + 2) (suc (length vs)) e in
          rw (drop-cons vs (suc i) 0 (omega arith)) (sym (inside (suc i + 2) q (suc i) d (omega arith) hi (omega arith)))
      go false e =
          let lo : suc (length vs) < suc i + 2 = leb-false (suc i + 2) (suc (length vs)) e in
          rw (drop_of_length-le vs {i = suc i} (omega arith), e, le-leb 2 (suc i + 2) (omega arith)) refl

  look-same : (i : ℕ) → i < length vs → (q : ℕ) (o : Offset) (d : Bool)
      → neighbours (before none vs i) (get_or vs i 0) (first (drop (suc i) vs)) q o d ≡ look_at m (length vs) (inputs_by ls) (outputs_by m vs) (suc i) q o d
  unfolding look_at near
  look-same zero h q Earlier d = refl
  look-same (suc i) h q Earlier d = sym (inside (suc (suc i) + 0) q i d (omega arith) (omega arith) (omega arith))
  look-same i h q Now d = sym (inside (suc i + 1) q i d (omega arith) (omega arith) (omega arith))
  look-same i h q Later d = late i q d h

module _ (x : RuleSheet) (ls vs : List ℕ) (letters : map (letter x) vs ≡ ls) where
  abbrev RightSides : Assignment → ℕ → ℕ → Bool
  RightSides = right_of x (length vs) (inputs_by ls)

  -- the values of a trace solve all equations
  solves : Satisfies x none vs → Solves (outputs x) (length vs) RightSides (outputs_by x.inputs vs)
  unfolding right holds
  solves h = record { all = λ s t pl. at s t pl }
    where
      at : (s t : ℕ) → Place (outputs x) (length vs) s t → outputs_by x.inputs vs s t ≡ RightSides (outputs_by x.inputs vs) s t
      at s zero pl = absurd (omega (arith, pl.t_low))
      at s (suc i) pl =
          let l : i < length vs = omega (arith, pl.t_high) in
          let z : suc i - 1 ≡ i = omega arith in
          rw z
          (equations-at (before none vs i) (get_or vs i 0) (first (drop (suc i) vs)) x.expressions x.inputs (holds_at x none vs h i l).1 s pl.s_lt
          ∙ value_same _ _ (look-same x.inputs ls vs (letter_at x ls vs letters) i l) (expression_of x s))

  -- values that solve all equations make a trace
  solved : ((i : ℕ) → i < length vs → get_or vs i 0 < 2 ^ streams x) → Solves (outputs x) (length vs) RightSides (outputs_by x.inputs vs) → Satisfies x none vs
  unfolding right holds
  solved small h = satisfies-from x none vs (λ i l. (small i l, equations-from (before none vs i) (get_or vs i 0) (first (drop (suc i) vs)) x.expressions x.inputs (λ k g. at i l k g)))
    where
      at : (i : ℕ) → i < length vs → (k : ℕ) → k < outputs x → bit (x.inputs + k) (get_or vs i 0) ≡ value (neighbours (before none vs i) (get_or vs i 0) (first (drop (suc i) vs))) (expression_of x k)
      at i l k g =
          let z : suc i - 1 ≡ i = omega arith in
          (rw z at (h.all k (suc i) (record { s_lt = g; t_low = omega arith; t_high = omega arith })))
          ∙ sym (value_same _ _ (look-same x.inputs ls vs (letter_at x ls vs letters) i l) (expression_of x k))

pub length-letters : (x : RuleSheet) (ls vs : List ℕ) → map (letter x) vs ≡ ls → length vs ≡ length ls
length-letters x ls vs e = sym (length-map vs (letter x)) ∙ ap length e

-- The values of a trace solve all equations, its valuations are small.
pub trace_solves : (x : RuleSheet) (ls vs : List ℕ) → TraceOf x ls vs → Solves (outputs x) (length ls) (right_of x (length ls) (inputs_by ls)) (outputs_by x.inputs vs)
trace_solves x ls vs h =
    subst (λ (N : ℕ). Solves (outputs x) N (right_of x N (inputs_by ls)) (outputs_by x.inputs vs)) (length-letters x ls vs h.letters)
    (solves x ls vs h.letters h.satisfies)

pub trace-small : (x : RuleSheet) (ls vs : List ℕ) → TraceOf x ls vs → (i : ℕ) → i < length vs → get_or vs i 0 < 2 ^ streams x
trace-small x ls vs h i l = (holds_at x none vs h.satisfies i l).0

-- ---- letters and output bytes, joined

joined_length : (m : ℕ) (ls os : List ℕ) → length ls ≤ length os → length (joined m ls os) ≡ length ls
joined_length m [] os h = refl
joined_length m (l ∷ ls) [] h = absurd (omega arith)
joined_length m (l ∷ ls) (o ∷ os) h = ap suc (joined_length m ls os (omega arith))

joined_at : (m : ℕ) (ls os : List ℕ) → length ls ≤ length os → (i : ℕ) → i < length ls → get_or (joined m ls os) i 0 ≡ get_or ls i 0 + 2 ^ m * get_or os i 0
joined_at m [] os h i l = absurd (omega arith)
joined_at m (a ∷ ls) [] h i l = absurd (omega arith)
joined_at m (a ∷ ls) (o ∷ os) h zero l = refl
joined_at m (a ∷ ls) (o ∷ os) h (suc i) l = joined_at m ls os (omega arith) i (omega arith)

pub joined-letters : (x : RuleSheet) (ls os : List ℕ) → Letters x.inputs ls → length ls ≤ length os → map (letter x) (joined x.inputs ls os) ≡ ls
joined-letters x [] os g h = refl
joined-letters x (l ∷ ls) [] g h = absurd (omega arith)
joined-letters x (l ∷ ls) (o ∷ os) g h = ap₂ ◌∷◌ (join_mod x.inputs l o g.0) (joined-letters x ls os g.1 (omega arith))

letter_lt : (m : ℕ) (ls : List ℕ) → Letters m ls → (i : ℕ) → i < length ls → get_or ls i 0 < 2 ^ m
letter_lt m [] g i l = absurd (omega arith)
letter_lt m (a ∷ ls) g zero l = g.0
letter_lt m (a ∷ ls) g (suc i) l = letter_lt m ls g.1 i (omega arith)

-- Output bytes whose bits solve all equations make, joined with the letters, a trace.
pub joined-trace : (x : RuleSheet) → Formed x → (ls os : List ℕ) → Letters x.inputs ls → length ls ≤ length os
    → ((i : ℕ) → i < length ls → get_or os i 0 < 2 ^ outputs x)
    → Solves (outputs x) (length ls) (right_of x (length ls) (inputs_by ls)) (outputs_by 0 os)
    → TraceOf x ls (joined x.inputs ls os)
joined-trace x formed ls os g h bytes sol = record { letters = letters; satisfies = solved x ls vs letters small good }
  where
    m : ℕ
    m = x.inputs

    vs : List ℕ
    vs = joined x.inputs ls os

    letters : map (letter x) (joined x.inputs ls os) ≡ ls
    letters = joined-letters x ls os g h

    small : (i : ℕ) → i < length (joined x.inputs ls os) → get_or (joined x.inputs ls os) i 0 < 2 ^ streams x
    small i l =
        let b : i < length ls = omega (arith, joined_length x.inputs ls os h) in
        rw (joined_at x.inputs ls os h i b) (join_lt x.inputs (outputs x) (get_or ls i 0) (get_or os i 0) (letter_lt x.inputs ls g i b) (bytes i b))

    agree : (s t : ℕ) → Place (outputs x) (length ls) s t → outputs_by x.inputs (joined x.inputs ls os) s t ≡ outputs_by 0 os s t
    agree s t pl =
        let b : t - 1 < length ls = omega (arith, pl.t_low, pl.t_high) in
        let z : s ≡ 0 + s = omega arith in
        ap (bit (x.inputs + s)) (joined_at x.inputs ls os h (t - 1) b)
        ∙ bit-above x.inputs s (get_or ls (t - 1) 0) (get_or os (t - 1) 0) (letter_lt x.inputs ls g (t - 1) b)
        ∙ ap (λ (j : ℕ). bit j (get_or os (t - 1) 0)) z

    good : Solves (outputs x) (length (joined x.inputs ls os)) (right_of x (length (joined x.inputs ls os)) (inputs_by ls)) (outputs_by x.inputs (joined x.inputs ls os))
    good =
        subst (λ (N : ℕ). Solves (outputs x) N (right_of x N (inputs_by ls)) (outputs_by x.inputs (joined x.inputs ls os))) (sym (joined_length x.inputs ls os h))
        (solves_of (outputs x) (edges x) (length ls) (right_of x (length ls) (inputs_by ls)) (right-reads x formed (length ls) (inputs_by ls)) (outputs_by 0 os)
        (outputs_by x.inputs (joined x.inputs ls os)) sol agree)
