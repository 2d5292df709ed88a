-- Every accepted sheet has, for every list of letters, exactly one whole trace.
use mathlib.Core.Path.{◌≡◌, refl, sym, ap, ◌∙◌}
use mathlib.Core.Bool.{Bool, true, false}
use mathlib.Core.List.{List, [], ◌∷◌}
use Prim.Native.Nat.{ℕ, zero, suc, ◌+◌, ◌-◌, ◌*◌, ◌^◌, ◌<◌}
use native.Mathlib.Omega.{arith}
use native.Mathlib.Decide.{dec_lt}
use lib.ListN.{length, get_or}
use lib.Seq.{ext_get_or}
use Rattle.outcomes.specs.Decided.{Decided}
use Rattle.outcomes.specs.Outcome.{unbroken}
use Rattle.words.specs.Bits.{bit}
use Rattle.words.specs.Below.{one}
use Rattle.words.proofs.BitLaws.{bits_ext}
use Rattle.words.proofs.JoinLaws.{bit-of-low, bit-low, bit-above, join_lt}
use Rattle.sheet.specs.RuleSheet.{RuleSheet, outputs, streams, accepted, read_sheet}
use Rattle.sheet.proofs.Formed.{Formed, read_formed}
use Rattle.lola.specs.Equations.{Letters, joined}
use Rattle.circular.specs.Circular.{CircularSheet, edges}
use Rattle.circular.specs.SheetChecks.{sheet_checks}
use Rattle.circular.specs.Unique.{TraceOf, OneTrace}
use Rattle.circular.specs.Places.{Assignment, Place, Solves}
use Rattle.circular.proofs.Decided.{accepted-level}
use Rattle.circular.proofs.Unique.{run}
use Rattle.circular.proofs.Sweep.{solves_of}
use Rattle.circular.proofs.Sides.{right_of, right-reads, a-solution, one_solution}
use Rattle.circular.proofs.Lists.{inputs_by, outputs_by, letter_at, length-letters, trace_solves, trace-small, joined-trace}

-- ---- bytes of values

-- the number whose bit k is f k, for k below n
unfoldable packed : ℕ → (ℕ → Bool) → ℕ
packed zero f = 0
packed (suc n) f = packed n f + 2 ^ n * one (f n)

one_lt : (b : Bool) → one b < 2 ^ 1
one_lt true = omega arith
one_lt false = omega arith

packed_lt : (n : ℕ) (f : ℕ → Bool) → packed n f < 2 ^ n
unfolding packed
packed_lt zero f = omega arith
packed_lt (suc n) f =
    let z : n + 1 ≡ suc n = omega arith in
    rw z at (join_lt n 1 (packed n f) (one (f n)) (packed_lt n f) (one_lt (f n)))

bit-one : (b : Bool) → bit 0 (one b) ≡ b
unfolding bit Rattle.words.specs.Bits.digit
bit-one true = refl
bit-one false = refl

packed_bit : (n : ℕ) (f : ℕ → Bool) (k : ℕ) → k < n → bit k (packed n f) ≡ f k
unfolding packed
packed_bit zero f k h = absurd (omega arith)
packed_bit (suc n) f k h = go (dec_lt k n) (packed_bit n f k)
  where
    go : Dec (k < n) → (k < n → bit k (packed n f) ≡ f k) → bit k (packed n f + 2 ^ n * one (f n)) ≡ f k
    go (yes l) r = bit-low n k (packed n f) (one (f n)) l (packed_lt n f) ∙ r l
    go (no l) r =
        let e : k ≡ n + 0 = omega arith in
        let g : k ≡ n = omega arith in
        ap (λ (j : ℕ). bit j (packed n f + 2 ^ n * one (f n))) e ∙ bit-above n 0 (packed n f) (one (f n)) (packed_lt n f) ∙ bit-one (f n) ∙ ap f (sym g)

-- the numbers f t, f (t + 1), .., N of them
unfoldable rounds : (ℕ → ℕ) → ℕ → ℕ → List ℕ
rounds f t zero = []
rounds f t (suc N) = f t ∷ rounds f (suc t) N

rounds-length : (f : ℕ → ℕ) (t N : ℕ) → length (rounds f t N) ≡ N
unfolding rounds
rounds-length f t zero = refl
rounds-length f t (suc N) = ap suc (rounds-length f (suc t) N)

rounds-at : (f : ℕ → ℕ) (t N i : ℕ) → i < N → get_or (rounds f t N) i 0 ≡ f (t + i)
unfolding rounds
rounds-at f t zero i h = absurd (omega arith)
rounds-at f t (suc N) zero h = ap f (omega arith)
rounds-at f t (suc N) (suc i) h = rounds-at f (suc t) N i (omega arith) ∙ ap f (omega arith)

module _ (x : RuleSheet) (formed : Formed x) (level : CircularSheet x → ⊥) (ls : List ℕ) where
  N : ℕ
  N = length ls

  -- a trace is made from the solution
  a-trace : Letters x.inputs ls → (vs : List ℕ) × TraceOf x ls vs
  a-trace g = (joined x.inputs ls os, joined-trace x formed ls os g (omega (arith, rounds-length byte 1 (length ls))) bytes good)
    where
      sol : Assignment
      sol = run (right_of x (length ls) (inputs_by ls)) (outputs x * length ls)

      byte : ℕ → ℕ
      byte t = packed (outputs x) (λ s. sol s t)

      os : List ℕ
      os = rounds byte 1 (length ls)

      bytes : (i : ℕ) → i < length ls → get_or os i 0 < 2 ^ outputs x
      bytes i l = rw (rounds-at byte 1 (length ls) i l) (packed_lt (outputs x) (λ s. sol s (1 + i)))

      agree : (s t : ℕ) → Place (outputs x) (length ls) s t → outputs_by 0 os s t ≡ sol s t
      agree s t pl =
          let z : 0 + s ≡ s = omega arith in
          let r : 1 + (t - 1) ≡ t = omega (arith, pl.t_low) in
          ap (λ (j : ℕ). bit j (get_or os (t - 1) 0)) z
          ∙ ap (bit s) (rounds-at byte 1 (length ls) (t - 1) (omega (arith, pl.t_low, pl.t_high)))
          ∙ packed_bit (outputs x) (λ q. sol q (1 + (t - 1))) s pl.s_lt
          ∙ ap (sol s) r

      good : Solves (outputs x) (length ls) (right_of x (length ls) (inputs_by ls)) (outputs_by 0 os)
      good =
          solves_of (outputs x) (edges x) (length ls) (right_of x (length ls) (inputs_by ls)) (right-reads x formed (length ls) (inputs_by ls)) sol (outputs_by 0 os)
          (a-solution x formed (length ls) (inputs_by ls) level) agree

  -- two traces with the same letters are the same
  no_other : (vs ws : List ℕ) → TraceOf x ls vs → TraceOf x ls ws → vs ≡ ws
  no_other vs ws h g = ext_get_or 0 vs ws (nv ∙ sym nw) (λ i l. bits_ext (streams x) (get_or vs i 0) (get_or ws i 0) (trace-small x ls vs h i l) (trace-small x ls ws g i (omega (arith, nv, nw))) (λ q b. at i l q b (dec_lt q x.inputs)))
    where
      nv : length vs ≡ length ls
      nv = length-letters x ls vs h.letters

      nw : length ws ≡ length ls
      nw = length-letters x ls ws g.letters

      at : (i : ℕ) → i < length vs → (q : ℕ) → q < streams x → Dec (q < x.inputs) → bit q (get_or vs i 0) ≡ bit q (get_or ws i 0)
      at i l q b (yes c) =
          sym (bit-of-low x.inputs q (get_or vs i 0) c)
          ∙ ap (bit q) (sym (letter_at x ls vs h.letters i) ∙ letter_at x ls ws g.letters i)
          ∙ bit-of-low x.inputs q (get_or ws i 0) c
      at i l q b (no c) =
          let e : x.inputs + (q - x.inputs) ≡ q = omega arith in
          let z : suc i - 1 ≡ i = omega arith in
          let pl : Place (outputs x) (length ls) (q - x.inputs) (suc i) = record { s_lt = omega arith; t_low = omega arith; t_high = omega (arith, nv) } in
          rw (z, e) at (one_solution x formed (length ls) (inputs_by ls) level (outputs_by x.inputs vs) (outputs_by x.inputs ws) (trace_solves x ls vs h) (trace_solves x ls ws g) (q - x.inputs) (suc i) pl)

-- For every accepted sheet and every list of letters, exactly one list of valuations has these letters and satisfies all equations.
one-trace : (bs : List ℕ) (x : RuleSheet) → read_sheet bs ≡ accepted x → (CircularSheet x → ⊥) → (ls : List ℕ) → Letters x.inputs ls → OneTrace x ls
one-trace bs x e level ls g =
    record { exists = a-trace x (read_formed bs x e) level ls g; only = no_other x (read_formed bs x e) level ls }

-- the same from the outcome of rules 1 to 10
pub accepted-one-trace : (bs : List ℕ) (x : RuleSheet) → Decided (sheet_checks bs) unbroken → read_sheet bs ≡ accepted x → (ls : List ℕ) → Letters x.inputs ls → OneTrace x ls
accepted-one-trace bs x d e = one-trace bs x e (accepted-level bs x e d)
