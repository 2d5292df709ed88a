-- What a step, the verdicts and the tallies come to: a round and a closing as they are defined.
use lib.ListN.{length, drop}
use mathlib.Core.Path.{◌≡◌, refl, sym, ap, ap₂, ◌∙◌, subst}
use mathlib.Core.Bool.{Bool, true, false, cond}
use mathlib.Core.List.{List, ◌++◌}
use mathlib.Core.Option.{Option}
use Prim.Native.Nat.{ℕ, ◌+◌, ◌%◌, ◌^◌, ◌<◌, ◌≤◌}
use native.Mathlib.Omega.{arith}
use lib.Pow.{pow_mono}
use Rattle.outcomes.specs.Numbers.{Verdicts}
use Rattle.outcomes.specs.declared.Verdict.{Verdict}
use Rattle.words.specs.Bits.{bit}
use Rattle.sheet.specs.RuleSheet.{RuleSheet, outputs}
use Rattle.sheet.specs.Reading.{rule_sheet, Usable}
use Rattle.sheet.specs.declared.Sheet.{Sheet}
use Rattle.sheet.proofs.Sheets.{length-trees, sheet-outputs}
use Rattle.lola.specs.Equations.{output}
use Rattle.record.specs.Record.{Counted, Fresh}
use Rattle.record.specs.declared.JournalRecord.{JournalRecord}
use Rattle.completions.specs.Live.{Pairs, ExactReach}
use Rattle.completions.specs.Steps.{Within, step_set, pairs_verdict, ends_verdict, pairs_within}
use Rattle.completions.proofs.Range.{wider}
use Rattle.pairs.specs.Storage.{used, live, reached, scratch}
use Rattle.lanes.specs.Sheets.{sheet_by}
use Rattle.lanes.specs.declared.Equations.{Equations}
use Rattle.rounds.specs.Rows.{among}
use Rattle.rounds.specs.Round.{Rounded}
use Rattle.verdicts.specs.Firsts.{Passing}
use Rattle.effects.specs.Results.{width, heard, next_set, Prepared, RoundDone, ClosingDone, Shares}
use Rattle.preparation.specs.Searched.{Searched}
use Rattle.effects.specs.declared.PrepareAnswer.{PrepareAnswer}
use Rattle.effects.specs.declared.RoundAnswer.{RoundAnswer}
use Rattle.effects.specs.declared.ClosingAnswer.{ClosingAnswer}
use Rattle.sheet.specs.RuleSheet.{required_of}
use Rattle.pairs.specs.Storage.{storage_words}
use Rattle.pairs.proofs.Front.{front, lent-front}
use Rattle.sheet.proofs.Sheets.{usable}
use Rattle.effects.proofs.Front.{rounded-front, rounds-front, prepared-by}
use Rattle.effects.proofs.Rounding.{sheet-width, heard_as, next-later, pairs_verdict_as, reached-below, only-heard}

pub later-step : (e : Equations) (ks : List ℕ) (L S : Pairs) (r : ℕ → Bool) (t : ℕ) → (t ≡ 0 → ⊥)
    → next_set (sheet_by e ks) L t S r ≡ step_set (sheet_by e ks) e.size.valuations L S r
later-step e ks L S r t h =
    next-later (sheet_by e ks) L S r t h
    ∙ ap (λ (v : ℕ). step_set (sheet_by e ks) v L S r) (ap (λ (k : ℕ). 2 ^ (e.size.inputs + k)) (length-trees (e.size.inputs + e.size.outputs) e.code.now e.len.now e.size.outputs) ∙ sym e.size.sized.power)

module _ (x : Sheet) (u : Usable x) where
  abbrev X : RuleSheet
  X = rule_sheet x

  small : width X ≤ 256
  small = let g : 2 ^ (x.inputs + x.outputs) ≤ 2 ^ 8 = pow_mono u.ranges.streams in omega (arith, sheet-width x)

  -- after a round, only what was heard is a first part
  pub heard-firsts : (s t : List ℕ) (n letters : ℕ) → Rounded (2 ^ (x.inputs + x.outputs)) s t (next_set X (live s) n (reached s) (among letters))
      → Passing (2 ^ (x.inputs + x.outputs)) (among letters) (reached t)
  heard-firsts s t n letters d = only-heard (2 ^ (x.inputs + x.outputs)) s t X (live s) n (reached s) (among letters) (pow_mono u.ranges.streams) d

  -- verdicts over the valuations of the sheet
  verdicts-of : (f g : ℕ → Verdict) (vs : List Verdict) → ((k : ℕ) → f k ≡ g k) → Verdicts x.outputs f vs → Verdicts (outputs X) g vs
  verdicts-of f g vs e v = record {
    size = v.size;
    each = λ k h. v.each k (omega (arith, sheet-outputs x)) ∙ e k;
    beyond = λ k h. v.beyond k (omega (arith, sheet-outputs x));
  }

  pub round-done : (s t : List ℕ) (r : JournalRecord) (letters lanes : ℕ) (a : RoundAnswer)
      → ((l : ℕ) → l < 64 → bit l lanes ≡ bit (l % 2 ^ x.inputs) letters)
      → Rounded (2 ^ (x.inputs + x.outputs)) s t (next_set X (live s) r.rounds (reached s) (among lanes))
      → Verdicts x.outputs (λ k. pairs_verdict (2 ^ (x.inputs + x.outputs)) (reached t) (bit (x.inputs + k))) a.verdicts
      → a.record.rounds ≡ r.rounds + 1 → a.record.closed ≡ r.closed → Counted x.outputs a.verdicts r.counts a.record.counts
      → RoundDone X s t r (λ l. bit l letters) a
  round-done s t r letters lanes a f d v e₁ e₂ e₃ =
      let H : among lanes ≡ heard X (λ l. bit l letters) = heard_as X letters lanes u.ranges.inputs f in
      let R : Pairs = next_set X (live s) r.rounds (reached s) (heard X (λ l. bit l letters)) in
      let same : (b : ℕ) (c : Option ℕ) → b < 256 → Within 256 c → reached t b c ≡ cond (used (width X) b c) (pairs_within (width X) R b c) (reached s b c) =
      λ b c hb hc.
      d.reached b c hb hc
      ∙ ap₂ (λ (w : ℕ) (S : Pairs). cond (used w b c) (pairs_within w S b c) (reached s b c)) (sym (sheet-width x)) (ap (next_set X (live s) r.rounds (reached s)) H) in
      record {
        kept = record { same_length = d.frame.same_length; beyond = d.frame.beyond };
        same_live = d.frame.before;
        steps = same;
        cleared = λ b c hb hc. d.scratch b c hb hc ∙ ap (λ (w : ℕ). cond (used w b c) false (scratch s b c)) (sym (sheet-width x));
        verdicts = verdicts-of _ (λ k. pairs_verdict (width X) R (output X k)) a.verdicts
            (λ k.
            ap (λ (w : ℕ). pairs_verdict w (reached t) (bit (x.inputs + k))) (sym (sheet-width x))
            ∙ pairs_verdict_as (width X) (reached t) R (output X k)
            (λ b c hb hc. same b c (omega (arith, small)) (wider (width X) 256 small c hc) ∙ reached-below (width X) R (reached s b c) b c hb hc))
            v;
        rounds = e₁;
        closed = e₂;
        counts = subst (λ (n : ℕ). Counted n a.verdicts r.counts a.record.counts) (sym (sheet-outputs x)) e₃;
      }

  pub closing-done : (s : List ℕ) (r : JournalRecord) (a : ClosingAnswer)
      → Verdicts x.outputs (λ k. ends_verdict (2 ^ (x.inputs + x.outputs)) (reached s) (bit (x.inputs + k))) a.verdicts
      → Shares x.outputs r a.shares
      → a.record.rounds ≡ r.rounds → a.record.closed ≡ true → a.record.counts ≡ r.counts → ClosingDone X s r a
  closing-done s r a v h e₁ e₂ e₃ =
      record {
        verdicts = verdicts-of _ (λ k. ends_verdict (width X) (reached s) (output X k)) a.verdicts
            (λ k. ap (λ (w : ℕ). ends_verdict w (reached s) (bit (x.inputs + k))) (sym (sheet-width x))) v;
        shares = record {
          size = h.size;
          each = λ k l. h.each k (omega (arith, sheet-outputs x));
          beyond = λ k l. h.beyond k (omega (arith, sheet-outputs x));
        };
        rounds = e₁;
        closed = e₂;
        counts = e₃;
      }

-- ---- by the words in front of the storage, and the equations as the code has them

record SameSheet (x : Sheet) (e : Equations) : Type 0 where
  inputs : e.size.inputs ≡ x.inputs
  outputs : e.size.outputs ≡ x.outputs
  code : e.code.now ≡ x.code
  len : e.len.now ≡ x.len

same-rules : (x : Sheet) (e : Equations) → SameSheet x e → sheet_by e (required_of x.assumed) ≡ rule_sheet x
same-rules x e h = rw (h.inputs, h.outputs, h.code, h.len) refl

module _ (x : Sheet) (e : Equations) (p : e.size.inputs ≡ x.inputs) (q : e.size.outputs ≡ x.outputs) (k : e.code.now ≡ x.code) (l : e.len.now ≡ x.len) where
  h : SameSheet x e
  h = record { inputs = p; outputs = q; code = k; len = l }

  power : e.size.valuations ≡ 2 ^ (x.inputs + x.outputs)
  power = e.size.sized.power ∙ rw (p, q) refl

  pub round-front : (s ws t : List ℕ) (r : JournalRecord) (letters lanes : ℕ) (a : RoundAnswer)
      → t ≡ ws ++ drop storage_words s → length ws ≡ storage_words → storage_words ≤ length s
      → ((i : ℕ) → i < 64 → bit i lanes ≡ bit (i % 2 ^ e.size.inputs) letters)
      → Rounded e.size.valuations (front s) ws (next_set (sheet_by e (required_of x.assumed)) (live (front s)) r.rounds (reached (front s)) (among lanes))
      → (Passing (2 ^ (e.size.inputs + e.size.outputs)) (among lanes) (reached ws)
      → Verdicts e.size.outputs (λ i. pairs_verdict (2 ^ (e.size.inputs + e.size.outputs)) (reached ws) (bit (e.size.inputs + i))) a.verdicts)
      → a.record.rounds ≡ r.rounds + 1 → a.record.closed ≡ r.closed → Counted e.size.outputs a.verdicts r.counts a.record.counts
      → RoundDone (rule_sheet x) s t r (λ i. bit i letters) a
  round-front s ws t r letters lanes a y n g f d v e₁ e₂ e₃ =
      let z = lent-front s t ws y n g in
      let few = x.ranges.streams in
      let d₁ : Rounded (2 ^ (x.inputs + x.outputs)) (front s) (front t) (next_set (rule_sheet x) (live (front s)) r.rounds (reached (front s)) (among lanes)) =
      rw (z.1, ← power, ← same-rules x e h) d in
      let v₁ = rw (p, q) at v in
      let fits : width (rule_sheet x) ≤ 256 = small x (usable x) in
      let w = v₁ (rw (z.1) at (only-heard (2 ^ (x.inputs + x.outputs)) (front s) (front t) (rule_sheet x) (live (front s)) r.rounds (reached (front s)) (among lanes) (pow_mono few) d₁)) in
      round-done x (usable x) s t r letters lanes a (rw p at f)
      (rounded-front (2 ^ (x.inputs + x.outputs)) (rule_sheet x) s t r.rounds (among lanes) fits z.0 d₁)
      (rounds-front x.inputs x.outputs t a.verdicts few (rw (← z.1) at w))
      e₁ e₂ (rw q at e₃)

  pub prepare-done : (s t : List ℕ) (a : PrepareAnswer) (count reach : ℕ)
      → Searched (sheet_by e (required_of x.assumed)) s t count → ExactReach (sheet_by e (required_of x.assumed)) reach
      → a.live ≡ count → a.reach ≡ reach → Fresh a.record → Prepared (rule_sheet x) s t a
  prepare-done s t a count reach d r e₁ e₂ f =
      prepared-by (rule_sheet x) s t a count (rw (← same-rules x e h) d) e₁ (rw (e₂, ← same-rules x e h) r) f
