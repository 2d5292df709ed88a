-- How a run goes on: by a byte, by a line, by a chunk, to the end of the input.
use mathlib.Core.Path.{◌≡◌, refl, sym, ap, ◌∙◌, subst}
use mathlib.Core.Bool.{Bool, true, false}
use mathlib.Core.List.{List, [], ◌∷◌, ◌++◌, append_assoc, append-nil}
use Prim.Native.Nat.{ℕ, ◌+◌, ◌≤◌, ◌<◌}
use native.Mathlib.Omega.{arith}
use native.Mathlib.Numerals.{add-one}
use lib.ListN.{length, take, drop, get_or, take-append-drop}
use lib.Seq.{append_snoc, take-suc}
use borrow.Author.Tests.{eq-eqb, ne_eqb}
use Rattle.outcomes.specs.Decided.{Decided}
use Rattle.outcomes.specs.declared.Refusal.{Refusal}
use Rattle.std.specs.Prelude.{Option, None, Some, Err}
use Rattle.buffer.specs.Wrote.{Wrote, Placed}
use Rattle.buffer.proofs.PlacedLaws.{take-placed}
use Rattle.sheet.specs.Reading.{rule_sheet}
use Rattle.sheet.specs.declared.Sheet.{Sheet}
use Rattle.circular.specs.SheetChecks.{sheet_checks, AcceptedSheet}
use Rattle.text.specs.Text.{sheet_refusal}
use Rattle.claims.specs.Book.{empty_book}
use Rattle.claims.specs.Session.{Held, held}
use Rattle.line_scan.specs.Lines.{lines_from, has_feed, whole_lines}
use Rattle.line_scan.specs.Scan.{Scanned}
use Rattle.line_scan.specs.declared.Pending.{Pending}
use Rattle.line_end.specs.Printed.{Written, ended, Printed, refused_sheet, journal}
use Rattle.line_end.specs.LineEnd.{Serves, Onward, Ends, LineEnded, most_bytes}
use Rattle.line_end.specs.declared.Place.{Place}
use Rattle.line_end.specs.declared.Ended.{Ended}
use Rattle.protocol.specs.Machine.{Midway, Over, Stands, Goes, Finishes}
use Rattle.protocol.specs.declared.Progress.{Progress}
use Rattle.protocol.proofs.WholeLines.{whole-more, whole_same, whole_byte, whole_feed}

-- ---- lines

lines_byte : (p : List ℕ) (b : ℕ) (rest : List ℕ) → (b ≡ 10 → ⊥) → lines_from p (b ∷ rest) ≡ lines_from (p ++ b ∷ []) rest
unfolding lines_from
lines_byte p b rest n = rw (ne_eqb b 10 n) refl

lines_feed : (p : List ℕ) (b : ℕ) (rest : List ℕ) → b ≡ 10 → lines_from p (b ∷ rest) ≡ p ∷ lines_from [] rest
unfolding lines_from
lines_feed p b rest e = rw (eq-eqb b 10 e) refl

lines_none : lines_from [] [] ≡ []
unfolding lines_from
lines_none = refl

lines_last : (p : List ℕ) → (p ≡ [] → ⊥) → lines_from p [] ≡ p ∷ []
unfolding lines_from
lines_last [] n = absurd (n refl)
lines_last (b ∷ p) n = refl

-- ---- places in the input and in the buffer

pub seen_more : (seen chunk : List ℕ) (i : ℕ) → i < length chunk → seen ++ take (i + 1) chunk ≡ seen ++ take i chunk ++ get_or chunk i 0 ∷ []
seen_more seen chunk i h = rw (add-one, take-suc chunk i 0 h) (sym (append_assoc seen (take i chunk) (get_or chunk i 0 ∷ [])))

pub wrote-more : (wrote d e text : List ℕ) (at r : ℕ) → Wrote d at text e r → wrote ++ take r e ≡ wrote ++ take at d ++ text
wrote-more wrote d e text at r w = ap (λ (z : List ℕ). wrote ++ z) w.text ∙ sym (append_assoc wrote (take at d) text)

-- ---- between two bytes

module _ (sheet : List ℕ) (x : Sheet) (line : ℕ) (q : Pending) (h : Held) (seen wrote : List ℕ) (m : Midway sheet x line q h seen wrote) where
  -- a byte of a line
  pub byte_more : (b : ℕ) (q₁ : Pending) → (b ≡ 10 → ⊥) → ((part : List ℕ) → Scanned x.inputs part q → Scanned x.inputs (part ++ b ∷ []) q₁)
      → Midway sheet x line q₁ h (seen ++ b ∷ []) wrote
  byte_more b q₁ n f = record {
    book = m.book;
    part = m.part ++ b ∷ [];
    serves = m.serves;
    scanned = f m.part m.scanned;
    whole = rw (whole_byte seen b n) m.whole;
    more = λ rest t w. rw (append_snoc seen b rest) (m.more (b ∷ rest) t (rw (lines_byte m.part b rest n) w));
  }

  module _ (d : List ℕ) (at : ℕ) (e t : List ℕ) (r : Ended) (le : LineEnded sheet (rule_sheet x) m.book line m.part d at e t r) where
    -- a line feed, and the next line
    pub line-more : (b : ℕ) (q₁ : Pending) (p : Place) → b ≡ 10 → r.next ≡ Some p → Scanned x.inputs [] q₁
        → Midway sheet x p.line q₁ (held t p.record) (seen ++ b ∷ []) (wrote ++ le.text)
    line-more b q₁ p f o s =
        let on : Onward sheet (rule_sheet x) m.book line m.part le.text p.line (held t p.record) = rw o at le.ends in
        let more : (rest u : List ℕ) → Written (rule_sheet x) on.book p.line (lines_from [] rest) u → Printed sheet (seen ++ b ∷ [] ++ rest) (wrote ++ le.text ++ u) =
        λ rest u w.
        rw (append_snoc seen b rest, append_assoc wrote le.text u)
        (m.more (b ∷ rest) (le.text ++ u) (rw (lines_feed m.part b rest f) (on.onward (lines_from [] rest) u w))) in
        record {
          book = on.book;
          part = [];
          serves = on.serves;
          scanned = s;
          whole = rw (whole_feed seen b f) (rw (append-nil (seen ++ b ∷ []), append-nil (wrote ++ le.text)) at (more [] [] (rw lines_none ended)));
          more = more;
        }

    -- a line feed, and the run is over
    pub line-over : (b : ℕ) → b ≡ 10 → r.next ≡ None → Over sheet (seen ++ b ∷ []) (wrote ++ le.text)
    line-over b f o =
        let last : (ls : List (List ℕ)) → Written (rule_sheet x) m.book line (m.part ∷ ls) le.text = rw o at le.ends in
        let whatever : (rest : List ℕ) → Printed sheet (seen ++ b ∷ [] ++ rest) (wrote ++ le.text) =
        λ rest. rw (append_snoc seen b rest) (m.more (b ∷ rest) le.text (rw (lines_feed m.part b rest f) (last (lines_from [] rest)))) in
        record { whole = rw (whole_feed seen b f) (rw (append-nil (seen ++ b ∷ [])) at (whatever [])); whatever = whatever }

    -- the end of the input, with no line feed
    pub line-last : (m.part ≡ [] → ⊥) → Printed sheet seen (wrote ++ le.text)
    line-last n = rw (append-nil seen) at (m.more [] le.text (rw (lines_last m.part n) (go r.next le.ends)))
      where
        go : (o : Option Place) → Ends sheet (rule_sheet x) m.book line m.part le.text t o → Written (rule_sheet x) m.book line (m.part ∷ []) le.text
        go None f = f []
        go (Some p) f = rw (append-nil le.text) at (f.onward [] [] ended)

  -- the end of the input, right after a line feed
  pub none_last : m.part ≡ [] → Printed sheet seen (wrote ++ [])
  none_last e = rw (append-nil seen) at (m.more [] [] (rw (e, lines_none) ended))

-- from one place to another, by these bytes of input and output
abbrev pub Way : Sheet → ℕ → Pending → Held → ℕ → Pending → Held → List ℕ → List ℕ → Type 0
Way x line q h line₁ q₁ h₁ xs ys = (sheet seen wrote : List ℕ) → AcceptedSheet sheet x → Midway sheet x line q h seen wrote → Midway sheet x line₁ q₁ h₁ (seen ++ xs) (wrote ++ ys)

-- ---- a run that is over

pub over_more : (sheet seen wrote : List ℕ) → Over sheet seen wrote → (more : List ℕ) → Over sheet (seen ++ more) wrote
over_more sheet seen wrote o more = record { whole = go (has_feed more) refl; whatever = λ rest. rw (append_assoc seen more rest) (o.whatever (more ++ rest)) }
  where
    go : (t : Bool) → has_feed more ≡ t → Printed sheet (whole_lines (seen ++ more)) wrote
    go true e = rw (whole-more seen more e) (o.whatever (whole_lines more))
    go false e = rw (whole_same seen more e) o.whole

pub over_all : (sheet seen chunk wrote : List ℕ) (i : ℕ) → Over sheet (seen ++ take i chunk) wrote → Over sheet (seen ++ chunk) wrote
over_all sheet seen chunk wrote i o =
    subst (λ (z : List ℕ). Over sheet z wrote)
    (append_assoc seen (take i chunk) (drop i chunk) ∙ ap (λ (z : List ℕ). seen ++ z) (take-append-drop i chunk))
    (over_more sheet (seen ++ take i chunk) wrote o (drop i chunk))

over-then : (sheet : List ℕ) (x : Sheet) (t seen wrote chunk : List ℕ) → Stands sheet x None t seen wrote → Stands sheet x None t (seen ++ chunk) (wrote ++ [])
over-then sheet x t seen wrote chunk st = record { accepts = st.accepts; stage = rw (append-nil wrote) (over_more sheet seen wrote st.stage chunk) }

pub goes-none : (x : Sheet) (s : Option Progress) (t chunk : List ℕ) → s ≡ None → Goes x s t chunk None t []
goes-none x s t chunk n sheet seen wrote st = over-then sheet x t seen wrote chunk (rw n at st)

pub finishes-none : (x : Sheet) (s : Option Progress) (t : List ℕ) → s ≡ None → Finishes x s t []
finishes-none x s t n sheet seen wrote st =
    let f : Stands sheet x None t seen wrote = rw n at st in
    rw (append-nil wrote) (rw (append-nil seen) at (f.stage.whatever []))

-- ---- the beginning

pub midway_start : (sheet : List ℕ) (x : Sheet) (q : Pending) (h : Held) → AcceptedSheet sheet x → Serves sheet (rule_sheet x) empty_book h → Scanned x.inputs [] q → Midway sheet x 1 q h [] []
unfolding lines_from whole_lines
midway_start sheet x q h o sv s = record { book = empty_book; part = []; serves = sv; scanned = s; whole = journal {t = []} o.decided o.reads ended; more = λ rest t w. journal o.decided o.reads w }

pub refused_start : (sheet input d e : List ℕ) (q : Refusal) (r : ℕ) → Decided (sheet_checks sheet) (Err q) → Placed d 0 (sheet_refusal q) e r → Printed sheet input (take r e)
refused_start sheet input d e q r h w = subst (λ (z : List ℕ). Printed sheet input z) (sym (take-placed w)) (refused_sheet q h)

-- ---- room

pub bytes_most : (c : Bool) → most_bytes c ≤ 462
bytes_most true = omega arith
bytes_most false = omega arith
