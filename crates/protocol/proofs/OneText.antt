-- What is to be written is settled: no two texts fit, and what the whole lines earn stays when the input goes on.
use mathlib.Core.Path.{◌≡◌, refl, sym, ap, ap₂, ◌∙◌, subst}
use mathlib.Core.List.{List, [], ◌∷◌, ◌++◌, append_assoc, append-nil}
use mathlib.Core.Bool.{Bool, true, false, true≢false}
use Prim.Native.Nat.{ℕ}
use native.Mathlib.Omega.{arith}
use lib.ListN.{length, length-append}
use Rattle.outcomes.specs.declared.Refusal.{Refusal}
use Rattle.std.specs.Prelude.{Err}
use Rattle.outcomes.specs.Outcome.{unbroken}
use Rattle.outcomes.specs.declared.Verdict.{Verdict}
use Rattle.outcomes.proofs.Decisions.{decided_once}
use Rattle.outcomes.proofs.NumberLaws.{not-both}
use Rattle.sheet.specs.RuleSheet.{RuleSheet, outputs}
use Rattle.sheet.proofs.Formed.{one-sheet}
use Rattle.circular.specs.SheetChecks.{sheet_checks}
use Rattle.text.specs.Text.{verdict_line, closing_text, line_refusal, sheet_refusal}
use Rattle.claims.specs.Book.{Call, Answer, refused, verdicts, closed, Book, empty_book, counted, BookStep}
use Rattle.claims.proofs.BookLaws.{step-unique}
use Rattle.line_scan.specs.Lines.{Line, blank, calls, malformed, lines_from, lines_of, has_feed, whole_lines}
use Rattle.line_end.specs.Printed.{next_line, Written, ended, passed, rounded, shut, turned_down, unread, refused_sheet, journal}
use Rattle.protocol.specs.Chunks.{Beginning, OneText}
use Rattle.protocol.proofs.WholeLines.{no_whole, last_feed, lines_split}

-- ---- what a line asks for

no_call : {y : Line} {c : Call} → y ≡ blank → y ≡ calls c → ⊥
no_call {c = c} e f = let z : blank ≡ calls c = sym e ∙ f in true≢false cc

not-malformed : {y : Line} → y ≡ blank → y ≡ malformed → ⊥
not-malformed e f = let z : blank ≡ malformed = sym e ∙ f in true≢false cc

one_reading : {y : Line} {c : Call} → y ≡ calls c → y ≡ malformed → ⊥
one_reading {y} {c} e f = let z : calls c ≡ malformed = sym e ∙ f in true≢false cc

module _ (x : RuleSheet) {b : Book} where
  same_step : {y : Line} {c d : Call} {a₁ a₂ : Answer} {b₁ b₂ : Book} → y ≡ calls c → y ≡ calls d → BookStep x b c a₁ b₁ → BookStep x b d a₂ b₂ → (a₁ ≡ a₂) × (b₁ ≡ b₂)
  same_step {c = c} {d = d} {a₂ = a₂} {b₂ = b₂} e f s r =
      let z : calls d ≡ calls c = sym f ∙ e in
      let g : d ≡ c = cc in
      step-unique x b s (subst (λ (k : Call). BookStep x b k a₂ b₂) g r)

-- answers of different kinds
no_close : {vs ws : List Verdict} {xs : List ℕ} → verdicts vs ≡ closed ws xs → ⊥
no_close e = true≢false cc

no_refusal : {vs : List Verdict} {r : Refusal} → verdicts vs ≡ refused r → ⊥
no_refusal e = true≢false cc

closed-not-refused : {vs : List Verdict} {xs : List ℕ} {r : Refusal} → closed vs xs ≡ refused r → ⊥
closed-not-refused e = true≢false cc

same-verdicts : {vs ws : List Verdict} → verdicts vs ≡ verdicts ws → vs ≡ ws
same-verdicts e = cc

same-closed : {vs ws : List Verdict} {xs ys : List ℕ} → closed vs xs ≡ closed ws ys → (vs ≡ ws) × (xs ≡ ys)
same-closed {vs} {ws} {xs} {ys} e = let p : vs ≡ ws = cc in let q : xs ≡ ys = cc in (p, q)

same-refused : {r q : Refusal} → refused r ≡ refused q → r ≡ q
same-refused e = cc

-- ---- the lines

-- two texts for the first lines and for all of them: the first is a beginning of the second
abbrev Begins : List ℕ → List ℕ → Type 0
Begins t u = (v : List ℕ) × (u ≡ t ++ v)

begins-same : {t u : List ℕ} → u ≡ t → Begins t u
begins-same {t} e = ([], e ∙ sym (append-nil t))

begins_behind : (s t : List ℕ) {r u : List ℕ} → r ≡ s → Begins t u → Begins (s ++ t) (r ++ u)
begins_behind s t e g = (g.0, ap₂ (λ (a b : List ℕ). a ++ b) e g.1 ∙ sym (append_assoc s t g.0))

close_text : RuleSheet → List Verdict → List ℕ → Book → List ℕ
close_text x vs xs b = closing_text (outputs x) vs (counted b.told) xs

written-begins : (x : RuleSheet) {b : Book} {l : ℕ} {ls : List (List ℕ)} (ms : List (List ℕ)) {t u : List ℕ} → Written x b l ls t → Written x b l (ls ++ ms) u → Begins t u
unfolding close_text
written-begins x ms {u = u} ended q = (u, refl)
written-begins x ms (passed e p) (passed f q) = written-begins x ms p q
written-begins x ms (passed e p) (rounded f s q) = absurd (no_call e f)
written-begins x ms (passed e p) (shut f s q) = absurd (no_call e f)
written-begins x ms (passed e p) (turned_down f s) = absurd (no_call e f)
written-begins x ms (passed e p) (unread f) = absurd (not-malformed e f)
written-begins x ms (rounded e s p) (passed f q) = absurd (no_call f e)
written-begins x ms (rounded {b₁ = b₁} {l = l} {ls = ls} {vs = vs} {t = t} e s p) (rounded {b₁ = b₂} {vs = ws} {t = u} f r q) =
    let g = same_step x e f s r in
    begins_behind (verdict_line vs) t (sym (ap verdict_line (same-verdicts g.0))) (written-begins x ms p (subst (λ (k : Book). Written x k (next_line l) (ls ++ ms) u) (sym g.1) q))
written-begins x ms (rounded e s p) (shut f r q) = absurd (no_close (same_step x e f s r).0)
written-begins x ms (rounded e s p) (turned_down f r) = absurd (no_refusal (same_step x e f s r).0)
written-begins x ms (rounded e s p) (unread f) = absurd (one_reading e f)
written-begins x ms (shut e s p) (passed f q) = absurd (no_call f e)
written-begins x ms (shut e s p) (rounded f r q) = absurd (no_close (sym (same_step x e f s r).0))
written-begins x ms (shut {b₁ = b₁} {l = l} {ls = ls} {vs = vs} {xs = xs} {t = t} e s p) (shut {b₁ = b₂} {vs = ws} {xs = ys} {t = u} f r q) =
    let g = same_step x e f s r in
    let k = same-closed g.0 in
    begins_behind (close_text x vs xs b₁) t (sym (λ i. close_text x (k.0 i) (k.1 i) (g.1 i))) (written-begins x ms p (subst (λ (k : Book). Written x k (next_line l) (ls ++ ms) u) (sym g.1) q))
written-begins x ms (shut e s p) (turned_down f r) = absurd (closed-not-refused (same_step x e f s r).0)
written-begins x ms (shut e s p) (unread f) = absurd (one_reading e f)
written-begins x ms (turned_down e s) (passed f q) = absurd (no_call f e)
written-begins x ms (turned_down e s) (rounded f r q) = absurd (no_refusal (sym (same_step x e f s r).0))
written-begins x ms (turned_down e s) (shut f r q) = absurd (closed-not-refused (sym (same_step x e f s r).0))
written-begins x ms (turned_down {l = l} e s) (turned_down f r) = begins-same (sym (ap (λ (q : Refusal). line_refusal q l) (same-refused (same_step x e f s r).0)))
written-begins x ms (turned_down e s) (unread f) = absurd (one_reading e f)
written-begins x ms (unread e) (passed f q) = absurd (not-malformed f e)
written-begins x ms (unread e) (rounded f r q) = absurd (one_reading f e)
written-begins x ms (unread e) (shut f r q) = absurd (one_reading f e)
written-begins x ms (unread e) (turned_down f r) = absurd (one_reading f e)
written-begins x ms (unread e) (unread f) = begins-same refl

written_once : (x : RuleSheet) {b : Book} {l : ℕ} {ls : List (List ℕ)} {t u : List ℕ} → Written x b l ls t → Written x b l ls u → t ≡ u
written_once x {b} {l} {ls} {t} {u} p q =
    let all : (z : List ℕ) → Written x b l ls z → Written x b l (ls ++ []) z = λ z w. rw (append-nil ls) w in
    same t u (written-begins x [] p (all u q)) (written-begins x [] q (all t p))
  where
    same : (t u : List ℕ) → Begins t u → Begins u t → t ≡ u
    same t u (v, e) (w, f) = go v (omega (arith, ap length e, ap length f, length-append t v, length-append u w)) e
      where
        go : (v : List ℕ) → length v ≡ 0 → u ≡ t ++ v → t ≡ u
        go [] n e = sym (e ∙ append-nil t)
        go (b ∷ v) n e = absurd (omega (arith, n))

-- ---- the program

pub one-text : OneText
one-text sheet input t u (refused_sheet r d) (refused_sheet q e) =
    let z : Err r ≡ Err q = decided_once (sheet_checks sheet) (Err r) (Err q) d e in
    let g : r ≡ q = cc in
    ap sheet_refusal g
one-text sheet input t u (refused_sheet r d) (journal e f w) = absurd (not-both (decided_once (sheet_checks sheet) (Err r) unbroken d e))
one-text sheet input t u (journal e f w) (refused_sheet r d) = absurd (not-both (decided_once (sheet_checks sheet) (Err r) unbroken d e))
one-text sheet input t u (journal {x = x} d e v) (journal {x = y} f g w) =
    written_once x v (subst (λ (k : RuleSheet). Written k empty_book 1 (lines_of input) u) (one-sheet sheet y x g e) w)

-- ---- an input that goes on

whole-begins : (x : RuleSheet) (input rest : List ℕ) {t u : List ℕ} → Written x empty_book 1 (lines_of (whole_lines input)) t → Written x empty_book 1 (lines_of (input ++ rest)) u → Begins t u
unfolding lines_from
whole-begins x input rest {t} {u} p q = go (has_feed input) refl
  where
    go : (f : Bool) → has_feed input ≡ f → Begins t u
    go true e =
        let l = last_feed input e in
        let ends : lines_of (input ++ rest) ≡ lines_of (l.0 ++ 10 ∷ []) ++ lines_of (l.1 ++ rest) =
        ap (λ (z : List ℕ). lines_of (z ++ rest)) l.2 ∙ ap lines_of (append_assoc l.0 (10 ∷ l.1) rest) ∙ lines_split [] l.0 (l.1 ++ rest) in
        written-begins x (lines_of (l.1 ++ rest)) (subst (λ (z : List ℕ). Written x empty_book 1 (lines_of z) t) l.3 p) (subst (λ (z : List (List ℕ)). Written x empty_book 1 z u) ends q)
    go false e = (u, ap (λ (z : List ℕ). z ++ u) (written_once x (subst (λ (z : List ℕ). Written x empty_book 1 (lines_of z) []) (sym (no_whole input e)) ended) p))

pub beginning : Beginning
beginning sheet input rest t u (refused_sheet r d) q = begins-same (one-text sheet (input ++ rest) u (sheet_refusal r) q (refused_sheet r d))
beginning sheet input rest t u (journal e f w) (refused_sheet r d) = absurd (not-both (decided_once (sheet_checks sheet) (Err r) unbroken d e))
beginning sheet input rest t u (journal {x = x} d e v) (journal {x = y} f g w) =
    whole-begins x input rest v (subst (λ (k : RuleSheet). Written k empty_book 1 (lines_of (input ++ rest)) u) (one-sheet sheet y x g e) w)
