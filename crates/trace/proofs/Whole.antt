-- From a buffer that solves the equations to a trace that satisfies them.
use mathlib.Core.Path.{◌≡◌, sym, ap, ◌∙◌, subst, fun_ext}
use mathlib.Core.Bool.{false}
use mathlib.Core.List.{List, [], ◌∷◌, ◌++◌}
use mathlib.Core.Option.{none}
use Prim.Native.Nat.{ℕ, suc, ◌+◌, ◌-◌, ◌^◌, ◌≤◌, ◌<◌}
use native.Mathlib.Omega.{arith}
use lib.ListN.{length, get_or, take, drop, replicate, length-replicate, length-take, length-drop, length-append, get_or-append}
use Rattle.words.proofs.ListLaws.{zeros}
use lib.Seq.{take_at, drop_at}
use lib.Pow.{pow_pos}
use Rattle.outcomes.specs.Outcome.{Outcome}
use Rattle.std.specs.Prelude.{Ok, Err}
use Rattle.words.specs.Bits.{bit}
use Rattle.sheet.specs.Expression.{constant}
use Rattle.sheet.specs.RuleSheet.{RuleSheet, outputs, accepted, read_sheet}
use Rattle.sheet.specs.Reading.{rule_sheet}
use Rattle.sheet.specs.declared.Sheet.{Sheet}
use Rattle.sheet.proofs.Sheets.{usable, tree-at, sheet-outputs}
use Rattle.sheet.proofs.Formed.{Formed, usable_formed}
use Rattle.lola.specs.Value.{value}
use Rattle.lola.specs.Equations.{Satisfies, Letters, joined}
use Rattle.circular.specs.Circular.{Read, Circular, CircularSheet, edges}
use Rattle.circular.specs.Masks.{Tells}
use Rattle.circular.specs.Table.{reads_of}
use Rattle.circular.specs.Places.{Assignment, look_at, right, Reads, Solves}
use Rattle.circular.proofs.Sides.{right_of, right-reads}
use Rattle.circular.proofs.Lists.{inputs_by, outputs_by, joined-trace}
use Rattle.trace.specs.Evaluated.{OutputsWritten, Evaluated}
use Rattle.trace.specs.Passes.{values_of, sides, RoundBytes, Solved, Ready, Left}

letters-of : (m : ℕ) (ls : List ℕ) → ((i : ℕ) → i < length ls → get_or ls i 0 < 2 ^ m) → Letters m ls
letters-of m [] h = tt
letters-of m (l ∷ ls) h = (h 0 (omega arith), letters-of m ls (λ i g. h (suc i) (omega arith)))

module _ (x : Sheet) (letters : List ℕ) where
  abbrev n : ℕ
  n = x.outputs

  abbrev f : Assignment → Assignment
  f = sides x letters

  abbrev g : Assignment → Assignment
  g = right_of (rule_sheet x) (length letters) (inputs_by letters)

  side_same : (v : Assignment) (s t : ℕ) → s < n → f v s t ≡ g v s t
  unfolding sides right values_of
  side_same v s t h =
      ap (value (look_at x.inputs (length letters) (inputs_by letters) v t))
      (sym (tree-at (x.inputs + x.outputs) x.code x.len x.outputs s (constant false) h))

  formed : Formed (rule_sheet x)
  formed = usable_formed x (usable x)

  side-reads : Reads n (edges (rule_sheet x)) (length letters) f
  side-reads =
      let r : Reads n (edges (rule_sheet x)) (length letters) g =
      subst (λ (k : ℕ). Reads k (edges (rule_sheet x)) (length letters) g) (sheet-outputs x) (right-reads (rule_sheet x) formed (length letters) (inputs_by letters))
      in
      record { only = λ v w s t pl a. side_same v s t pl.s_lt ∙ r.only v w s t pl a ∙ sym (side_same w s t pl.s_lt) }

  told : {masks : List (List ℕ)} {s t q v : ℕ} → Tells (rule_sheet x) masks → Read n (edges (rule_sheet x)) (length letters) s t q v → Read n (reads_of masks) (length letters) s t q v
  told {s = s} {q = q} tells r =
      let a = r.edge in
      record {
        o = r.o;
        edge =
            record {
              from = a.from;
              to = a.to;
              off = a.off;
              is = tells.reads s q r.o (omega (arith, a.from, x.ranges.outputs)) (omega (arith, a.to, x.ranges.outputs)) a.off ∙ a.is;
            };
        shift = r.shift;
        t_low = r.t_low;
        t_high = r.t_high;
        u_low = r.u_low;
        u_high = r.u_high;
      }

  pub told-reads : (masks : List (List ℕ)) → Tells (rule_sheet x) masks → Reads n (reads_of masks) (length letters) f
  told-reads masks tells = record { only = λ v w s t pl a. side-reads.only v w s t pl (λ q z r. a q z (told tells r)) }

  not_circular : (CircularSheet (rule_sheet x) → ⊥) → Circular n (edges (rule_sheet x)) → ⊥
  not_circular h c = h (subst (λ (k : ℕ). Circular k (edges (rule_sheet x))) (sym (sheet-outputs x)) c)

  bytes-as : (os : List ℕ) → values_of os ≡ outputs_by 0 os
  unfolding values_of
  bytes-as os = fun_ext (λ s. fun_ext (λ t. let e : s ≡ 0 + s = omega arith in ap (λ (k : ℕ). bit k (get_or os (t - 1) 0)) e))

  solves-as : (os : List ℕ) → Solves n (length letters) f (values_of os) → Solves (outputs (rule_sheet x)) (length letters) g (outputs_by 0 os)
  solves-as os h =
      let a : Solves n (length letters) g (outputs_by 0 os) =
      subst (λ (v : Assignment). Solves n (length letters) g v) (bytes-as os)
      (record { all = λ s t pl. h.all s t pl ∙ side_same (values_of os) s t pl.s_lt })
      in
      subst (λ (k : ℕ). Solves k (length letters) g (outputs_by 0 os)) (sym (sheet-outputs x)) a

  bytes_lt : (b : ℕ) → b < 2 ^ n → b < 2 ^ outputs (rule_sheet x)
  bytes_lt b h = rw (sheet-outputs x) h

  trace-of : (os : List ℕ) → length os ≡ length letters → ((i : ℕ) → i < length letters → get_or letters i 0 < 2 ^ x.inputs)
      → ((i : ℕ) → i < length os → get_or os i 0 < 2 ^ n) → Solves n (length letters) f (values_of os)
      → Satisfies (rule_sheet x) none (joined x.inputs letters os)
  trace-of os e b c h =
      (joined-trace (rule_sheet x) formed letters os (letters-of x.inputs letters b) (omega arith)
      (λ i l. bytes_lt (get_or os i 0) (c i (omega arith))) (solves-as os h)
      ).satisfies

-- ---- the part of the buffer that is written

pub part_length : (N : ℕ) (l : List ℕ) → N ≤ length l → N ≡ length (take N l)
part_length N l h = simp length-take (omega arith)

module _ (N : ℕ) (out c : List ℕ) (h : N ≤ length out) (e : length c ≡ length (take N out)) where
  cleared-length : length c ≡ N
  cleared-length = e ∙ sym (part_length N out h)

  cleared-part : take N (c ++ drop N out) ≡ c
  cleared-part = take_at c (drop N out) N cleared-length

  cleared-rest : drop N (c ++ drop N out) ≡ drop N out
  cleared-rest = drop_at c (drop N out) N cleared-length

  pub cleared-room : N ≡ length (take N (c ++ drop N out))
  cleared-room = rw cleared-part (sym cleared-length)

module _ (x : Sheet) (letters out c : List ℕ) (ready : Ready x.inputs letters (length out))
    (cleared : c ≡ replicate (length (take (length letters) out)) 0) where
  e : length c ≡ length (take (length letters) out)
  e = ap length cleared ∙ length-replicate (length (take (length letters) out)) 0

  zero : (i : ℕ) → get_or c i 0 ≡ 0
  zero i = rw cleared (zeros (length (take (length letters) out)) i)

  pub bytes-start : RoundBytes x letters (take (length letters) (c ++ drop (length letters) out))
  bytes-start =
      record {
        rounds = ready.few;
        same = sym (cleared-room (length letters) out c ready.fits e);
        letters_below = ready.below;
        bytes_below = rw (cleared-part (length letters) out c ready.fits e) (λ i l. rw (zero i) (pow_pos x.outputs));
      }

  module _ (level : CircularSheet (rule_sheet x) → ⊥) (a : List ℕ)
      (solved : Solved x.outputs (length letters) (sides x letters) (take (length letters) (c ++ drop (length letters) out)) a) where
    whole : length a ≡ length letters
    whole = solved.kept.same_length ∙ bytes-start.same

    below : (i : ℕ) → i < length a → get_or a i 0 < 2 ^ x.outputs
    below = solved.kept.below bytes-start.bytes_below

    pub written_of : OutputsWritten (rule_sheet x) letters out (a ++ drop (length letters) (c ++ drop (length letters) out))
    written_of =
        record {
          same_length =
              length-append a (drop (length letters) (c ++ drop (length letters) out))
              ∙ rw (cleared-rest (length letters) out c ready.fits e) (omega (arith, whole, ready.fits, length-drop (length letters) out));
          rest = drop_at a (drop (length letters) (c ++ drop (length letters) out)) (length letters) whole ∙ cleared-rest (length letters) out c ready.fits e;
          bytes = λ i l.
              rw (get_or-append a (drop (length letters) (c ++ drop (length letters) out)) 0 i (omega (arith, whole)))
              (bytes_lt x letters (get_or a i 0) (below i (omega (arith, whole))));
          satisfies =
              rw (take_at a (drop (length letters) (c ++ drop (length letters) out)) (length letters) whole)
              (trace-of x letters a whole ready.below below (solved.holds (edges (rule_sheet x)) (side-reads x letters) (not_circular x letters level)));
        }

-- the sheet is the one that was read
pub evaluated_of : (bs letters old new : List ℕ) (x : RuleSheet) → read_sheet bs ≡ accepted x → (o : Outcome) → Left x letters old new o → Evaluated bs letters old new o
evaluated_of bs letters old new x e (Ok _) h = (x, e, h)
evaluated_of bs letters old new x e (Err r) h = h
