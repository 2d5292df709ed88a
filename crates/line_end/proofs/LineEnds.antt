-- What the end of a line writes.
use mathlib.Core.Path.{◌≡◌, sym, ap, ◌∙◌, subst}
use mathlib.Core.Bool.{Bool, true, false, cond}
use mathlib.Core.List.{List, [], ◌∷◌, ◌++◌}
use Prim.Native.Nat.{ℕ, ◌+◌, ◌≤◌}
use native.Mathlib.Omega.{arith}
use lib.ListN.{take}
use lib.Seq.{get_or-take}
use Rattle.outcomes.specs.declared.Refusal.{Refusal}
use Rattle.outcomes.specs.declared.Refusal.TheVariants.{Closed, Line}
use Rattle.outcomes.specs.declared.Verdict.{Verdict}
use Rattle.buffer.specs.Wrote.{Wrote, Placed}
use Rattle.buffer.proofs.PlacedLaws.{placed-wrote}
use Rattle.sheet.specs.RuleSheet.{RuleSheet, outputs}
use Rattle.record.specs.Record.{count_at}
use Rattle.record.specs.declared.JournalRecord.{JournalRecord}
use Rattle.text.specs.Text.{verdict_line, tally_lines, closing_text, line_refusal}
use Rattle.text.proofs.TallyLaws.{tally-lines-same}
use Rattle.claims.specs.Book.{Call, closing, refused, verdicts, closed, Book, counted}
use Rattle.claims.specs.Session.{Held, held}
use Rattle.line_scan.specs.Lines.{blank, calls, malformed, read_line, asked, asks}
use Rattle.line_scan.specs.Meaning.{line_of}
use Rattle.line_scan.specs.declared.Meaning.{Meaning}
use Rattle.line_end.specs.Printed.{next_line, malformed_rule, passed, rounded, shut, turned_down, unread}
use Rattle.line_end.specs.LineEnd.{Serves, Answered, LineEnded, most_bytes, due}
use Rattle.std.specs.Prelude.{None, Some}
use Rattle.line_end.specs.declared.Place.{Place}
use Rattle.line_end.specs.declared.Ended.{Ended}
use Rattle.line_end.proofs.Serving.{serves-matches}

-- ---- the end of a line

-- what the line asks of the record's journal, it asks of the book's
pub asks-told : (sheet : List ℕ) (x : RuleSheet) (b : Book) (j : JournalRecord) (s part : List ℕ) (m v : Meaning) → Serves sheet x b (held s j)
    → asked x.inputs j.closed (read_line x.inputs part) ≡ line_of m → m ≡ v → asks x b part ≡ line_of v
asks-told sheet x b j s part m v sv l e = rw (← (serves-matches sheet x b (held s j) sv).shut) (l ∙ ap line_of e)

module _ (sheet : List ℕ) (x : RuleSheet) (b : Book) (line : ℕ) (part d : List ℕ) (at : ℕ) (e t : List ℕ) (r : Ended) where
  -- the run is over
  pub refused-ends : (c : Call) (q : Refusal) (h : Held) → asks x b part ≡ calls c → Answered sheet x b c (refused q) h
      → r.next ≡ None → Placed d at (line_refusal q line) e r.at → LineEnded sheet x b line part d at e t r
  refused-ends c q h l a o w = record { text = line_refusal q line; wrote = placed-wrote w; ends = rw o (λ ls. turned_down l a.step) }

  pub malformed-ends : (j : JournalRecord) (s : List ℕ) → Serves sheet x b (held s j) → asks x b part ≡ malformed
      → r.next ≡ None → Placed d at (line_refusal (cond j.closed Closed Line) line) e r.at → LineEnded sheet x b line part d at e t r
  malformed-ends j s sv l o w =
      let m = serves-matches sheet x b (held s j) sv in
      record { text = line_refusal (malformed_rule b) line; wrote = rw m.shut at (placed-wrote w); ends = rw o (λ ls. unread l) }

  -- it goes on
  module _ (p : Place) (o : r.next ≡ Some p) (n : p.line ≡ next_line line) where
    pub blank-ends : asks x b part ≡ blank → Serves sheet x b (held t p.record) → Wrote d at [] e r.at → LineEnded sheet x b line part d at e t r
    blank-ends l sv w = record { text = []; wrote = w; ends = rw (o, n) (record { book = b; serves = sv; onward = λ ls u f. passed l f }) }

    pub round-ends : (c : Call) (vs : List Verdict) → asks x b part ≡ calls c → Answered sheet x b c (verdicts vs) (held t p.record)
        → Placed d at (verdict_line vs) e r.at → LineEnded sheet x b line part d at e t r
    round-ends c vs l a w = record { text = verdict_line vs; wrote = placed-wrote w; ends = rw (o, n) (record { book = a.book; serves = a.serves; onward = λ ls u f. rounded l a.step f }) }

    pub closing-ends : (m : ℕ) (vs : List Verdict) (counts shares : List ℕ) → outputs x ≡ m → counts ≡ p.record.counts → asks x b part ≡ calls closing
        → Answered sheet x b closing (closed vs (take m shares)) (held t p.record)
        → Placed d at (closing_text m vs (count_at counts) shares) e r.at → LineEnded sheet x b line part d at e t r
    closing-ends m vs counts shares f g l a w =
        let xs : List ℕ = take m shares in
        let tally : ℕ → Verdict → ℕ = counted a.book.told in
        let ma = serves-matches sheet x a.book (held t p.record) a.serves in
        let same : tally_lines (count_at counts) shares 0 m ≡ tally_lines tally xs 0 (outputs x) =
        tally-lines-same (count_at counts) tally shares xs 0 m
        (λ j z i. (
          λ v. ap (λ (c : List ℕ). count_at c j v) g ∙ ma.counts j v (omega (arith, f)),
          sym (get_or-take m shares j 0 (omega arith)),
        ))
        ∙ ap (tally_lines tally xs 0) (sym f) in
        record {
          text = closing_text (outputs x) vs tally xs;
          wrote = subst (λ (u : List ℕ). Wrote d at (61 ∷ (verdict_line vs ++ u)) e r.at) same (placed-wrote w);
          ends = rw (o, n) (record { book = a.book; serves = a.serves; onward = λ ls u h. shut l a.step h });
        }

-- ---- room in the buffer

pub bytes-least : (c : Bool) → 40 ≤ most_bytes c
bytes-least true = omega arith
bytes-least false = omega arith

-- a run that is over asks for nothing more
pub over_bound : (r : Ended) (k : Bool) (at : ℕ) → r.next ≡ None → r.at ≤ at + 40 → r.at + due r.next ≤ at + most_bytes k + 8
over_bound r k at e h = rw e (omega (arith, bytes-least k))
