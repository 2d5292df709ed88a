-- Rule 21 is never met by the program.
use mathlib.Core.Path.{◌≡◌, refl, sym, ap, ap₂, ◌∙◌}
use mathlib.Core.Bool.{Bool, true, false, cond, not, ◌&&◌, true≢false, false≢true}
use mathlib.Core.List.{List, [], ◌∷◌, ◌++◌, append-nil}
use mathlib.Core.Logic.{inl, inr}
use mathlib.Core.Option.{none, some}
use Prim.Native.Nat.{ℕ, zero, suc, ◌+◌, ◌/◌, ◌%◌, ◌^◌, ◌<◌}
use native.Mathlib.Omega.{arith}
use lib.Dec.{eqb, leb, ltb}
use lib.ListN.{length, get_or, drop, length-append}
use borrow.Author.Tests.{ltb-true, ltb-false, eq-eqb, ne_eqb}
use Rattle.outcomes.specs.Numbers.{refusal_no}
use Rattle.outcomes.specs.Decided.{Check, Decided}
use Rattle.outcomes.specs.Outcome.{Outcome}
use Rattle.outcomes.specs.declared.Refusal.{Refusal}
use Rattle.outcomes.specs.declared.Refusal.TheVariants.{Closed, Full, NoRound, Line}
use Rattle.std.specs.Prelude.{Err}
use Rattle.outcomes.specs.declared.Verdict.{Verdict}
use Rattle.outcomes.specs.declared.Verdict.TheVariants.{False, True, Open, Broken}
use Rattle.outcomes.proofs.NumberLaws.{refusal_range}
use Rattle.words.proofs.Bools.{and_split}
use Rattle.words.proofs.Options.{nothing, same_some}
use Rattle.buffer.specs.Decimal.{decimal_of, decimal}
use Rattle.sheet.specs.RuleSheet.{RuleSheet, outputs}
use Rattle.sheet.specs.ReadingChecks.{outputs_of, length_at, byte_checks, output_checks, reading_checks}
use Rattle.circular.specs.SheetChecks.{sheet_checks}
use Rattle.record.specs.Record.{max_rounds}
use Rattle.text.specs.Text.{verdict_line, tally_line, tally_lines, closing_text, refused_word, line_refusal, sheet_refusal}
use Rattle.claims.specs.Book.{Call, round, closing, refused, Book, counted, refusal, BookStep, refuse}
use Rattle.line_scan.specs.Lines.{calls, asks}
use Rattle.line_scan.proofs.Standing.{good_line}
use Rattle.line_scan.proofs.Blanks.{good_asked}
use Rattle.line_end.specs.Printed.{malformed_rule, Written, ended, passed, rounded, shut, turned_down, unread, Printed, refused_sheet, journal}
use Rattle.protocol.specs.NeverWritten.{NoBadLine, NeverWritten}

pub no_bad_line : NoBadLine
no_bad_line = good_line

-- ---- the rules that are met

-- the number isn't 21
abbrev other : Refusal → Bool
other r = not (eqb (refusal_no r) 21)

unfoldable others : List Check → Bool
others [] = true
others (c ∷ cs) = other c.rule && others cs

others-both : (cs ds : List Check) → others cs ≡ true → others ds ≡ true → others (cs ++ ds) ≡ true
unfolding others
others-both [] ds p q = q
others-both (c ∷ cs) ds p q = let z = and_split (other c.rule) (others cs) p in ap₂ ◌&&◌ z.0 (others-both cs ds z.1 q)

same-refusal : {a b : Refusal} → ◌≡◌ {A = Outcome} (Err a) (Err b) → a ≡ b
same-refusal e = cc

-- the rule of a refusal is one of the list's
by_others : (cs : List Check) (r : Refusal) → others cs ≡ true → Decided cs (Err r) → other r ≡ true
unfolding others
by_others [] r p d = absurd (true≢false cc)
by_others (c ∷ cs) r p (inl d) = ap other (same-refusal d.1) ∙ (and_split (other c.rule) (others cs) p).0
by_others (c ∷ cs) r p (inr d) = by_others cs r (and_split (other c.rule) (others cs) p).1 d.1

bytes_other : (bs : List ℕ) (k i r : ℕ) → others (byte_checks bs k i r) ≡ true
unfolding byte_checks others
bytes_other bs k i zero = refl
bytes_other bs k i (suc r) = bytes_other bs k (suc i) r

outputs_other : (bs : List ℕ) (k r : ℕ) → others (output_checks bs k r) ≡ true
unfolding output_checks others
outputs_other bs k zero = refl
outputs_other bs k (suc r) = others-both (byte_checks bs k 0 (length_at bs k)) _ (bytes_other bs k 0 (length_at bs k)) (outputs_other bs (suc k) r)

sheet_other : (bs : List ℕ) (r : Refusal) → Decided (sheet_checks bs) (Err r) → other r ≡ true
unfolding reading_checks others
sheet_other bs r d = by_others (sheet_checks bs) r (others-both (reading_checks bs) _ (others-both (output_checks bs 0 (outputs_of bs)) _ (outputs_other bs 0 (outputs_of bs)) refl) refl) d

-- that of a line's call
call_other : (x : RuleSheet) (b : Book) (t : ℕ) (shut : Bool) (c : Call) (r : Refusal) (line : List ℕ) → asks x b line ≡ calls c → refusal x t shut c ≡ some r → other r ≡ true
unfolding refusal
call_other x b t true (round w) r line l e = ap other (sym (same_some e))
call_other x b t false (round w) r line l e = go (leb max_rounds t) (rw (good_asked x b line w l) at e)
  where
    go : (b : Bool) → cond b (some Full) none ≡ some r → other r ≡ true
    go true e = ap other (sym (same_some e))
    go false e = absurd (nothing e)
call_other x b t true closing r line l e = ap other (sym (same_some e))
call_other x b t false closing r line l e = go (eqb t 0) e
  where
    go : (b : Bool) → cond b (some NoRound) none ≡ some r → other r ≡ true
    go true e = ap other (sym (same_some e))
    go false e = absurd (nothing e)

step_other : (x : RuleSheet) {b b₁ : Book} {c : Call} {r : Refusal} (line : List ℕ) → asks x b line ≡ calls c → BookStep x b c (refused r) b₁ → other r ≡ true
step_other x {b = b} {c = c} {r = r} line l (refuse e) = call_other x b _ b.shut c r line l e

malformed_other : (shut : Bool) → other (cond shut Closed Line) ≡ true
malformed_other true = refl
malformed_other false = refl

-- ---- bytes that are no `r`

unfoldable plain : List ℕ → Bool
plain [] = true
plain (b ∷ bs) = not (eqb b 114) && plain bs

plain_both : (s t : List ℕ) → plain s ≡ true → plain t ≡ true → plain (s ++ t) ≡ true
unfolding plain
plain_both [] t p q = q
plain_both (b ∷ s) t p q = let z = and_split (not (eqb b 114)) (plain s) p in ap₂ ◌&&◌ z.0 (plain_both s t z.1 q)

digit_plain : (n : ℕ) → n < 10 → plain ((48 + n) ∷ []) ≡ true
unfolding plain
digit_plain n h = rw (ne_eqb (48 + n) 114 (λ e. omega arith)) refl

decimal_plain : (k n : ℕ) → plain (decimal_of k n) ≡ true
unfolding decimal_of plain
decimal_plain zero n = refl
decimal_plain (suc k) n = go (ltb n 10) refl (decimal_plain k (n / 10))
  where
    go : (t : Bool) → ltb n 10 ≡ t → plain (decimal_of k (n / 10)) ≡ true → plain (cond t ((48 + n) ∷ []) (decimal_of k (n / 10) ++ ((48 + n % 10) ∷ []))) ≡ true
    go true e p = digit_plain n (ltb-true n 10 e)
    go false e p = plain_both (decimal_of k (n / 10)) ((48 + n % 10) ∷ []) p (digit_plain (n % 10) (omega arith))

verdicts_plain : (vs : List Verdict) → plain (verdict_line vs) ≡ true
unfolding plain
verdicts_plain [] = refl
verdicts_plain (False ∷ vs) = verdicts_plain vs
verdicts_plain (True ∷ vs) = verdicts_plain vs
verdicts_plain (Open ∷ vs) = verdicts_plain vs
verdicts_plain (Broken ∷ vs) = verdicts_plain vs

-- a number, and what comes behind it
number_plain : (n : ℕ) (t : List ℕ) → plain t ≡ true → plain (decimal n ++ t) ≡ true
number_plain n t p = plain_both (decimal n) t (decimal_plain 20 n) p

tally_plain : (count : ℕ → Verdict → ℕ) (shares : List ℕ) (k : ℕ) → plain (tally_line count shares k) ≡ true
unfolding tally_line plain
tally_plain count shares k =
    number_plain k _ (number_plain (count k True) _ (number_plain (count k False) _ (number_plain (count k Open) _ (number_plain (count k Broken) _ (number_plain (get_or shares k 0) (10 ∷ []) refl)))))

tallies_plain : (count : ℕ → Verdict → ℕ) (shares : List ℕ) (k n : ℕ) → plain (tally_lines count shares k n) ≡ true
unfolding tally_lines plain
tallies_plain count shares k zero = refl
tallies_plain count shares k (suc n) =
    plain_both (tally_line count shares k) (tally_lines count shares (suc k) n) (tally_plain count shares k) (tallies_plain count shares (suc k) n)

closing_plain : (n : ℕ) (vs : List Verdict) (count : ℕ → Verdict → ℕ) (shares : List ℕ) → plain (closing_text n vs count shares) ≡ true
unfolding plain
closing_plain n vs count shares = plain_both (verdict_line vs) (tally_lines count shares 0 n) (verdicts_plain vs) (tallies_plain count shares 0 n)

-- ---- where an `r` stands

same_head : {a b : ℕ} {s t : List ℕ} → a ∷ s ≡ b ∷ t → a ≡ b
same_head e = cc

same_tail : {a b : ℕ} {s t : List ℕ} → a ∷ s ≡ b ∷ t → s ≡ t
same_tail e = cc

-- no byte of s is one, so it stands behind
behind : (s t before tail : List ℕ) → plain s ≡ true → s ++ t ≡ before ++ (114 ∷ tail) → (w : List ℕ) × (t ≡ w ++ (114 ∷ tail))
unfolding plain
behind [] t before tail p e = (before, e)
behind (b ∷ s) t [] tail p e = absurd (false≢true (rw (same_head e) at p))
behind (b ∷ s) t (c ∷ before) tail p e = behind s t before tail (and_split (not (eqb b 114)) (plain s) p).1 (same_tail e)

nowhere : (s before tail : List ℕ) → plain s ≡ true → s ≡ before ++ (114 ∷ tail) → ⊥
nowhere s before tail p e = let w = behind s [] before tail p (append-nil s ∙ e) in past w.0 (ap length w.1)
  where
    past : (w : List ℕ) → 0 ≡ length (w ++ (114 ∷ tail)) → ⊥
    past w e = omega (arith, length-append w (114 ∷ tail))

-- it begins a refusal by another rule
abbrev Refusing : List ℕ → Type 0
Refusing t =
    (before tail : List ℕ) → t ≡ before ++ (114 ∷ tail)
    → (r : Refusal) × (other r ≡ true) × (u : List ℕ) × (114 ∷ tail ≡ refused_word ++ (decimal (refusal_no r) ++ (32 ∷ u)))

refusing_behind : (s t : List ℕ) → plain s ≡ true → Refusing t → Refusing (s ++ t)
refusing_behind s t p f before tail e = let w = behind s t before tail p e in f w.0 tail w.1

refusing_word : (r : Refusal) (u : List ℕ) → other r ≡ true → plain u ≡ true → Refusing (refused_word ++ (decimal (refusal_no r) ++ (32 ∷ u)))
unfolding plain
refusing_word r u o p [] tail e = (r, o, u, sym e)
refusing_word r u o p (c ∷ before) tail e = absurd (nowhere _ before tail (number_plain (refusal_no r) (32 ∷ u) p) (same_tail e))

line_refusing : (r : Refusal) (l : ℕ) → other r ≡ true → Refusing (line_refusal r l)
unfolding plain
line_refusing r l o = refusing_word r (108 ∷ 105 ∷ 110 ∷ 101 ∷ 32 ∷ (decimal l ++ (10 ∷ []))) o (number_plain l (10 ∷ []) refl)

sheet_refusing : (r : Refusal) → other r ≡ true → Refusing (sheet_refusal r)
unfolding plain
sheet_refusing r o = refusing_word r (115 ∷ 104 ∷ 101 ∷ 101 ∷ 116 ∷ 10 ∷ []) o refl

written_refusing : (x : RuleSheet) {b : Book} {l : ℕ} {ls : List (List ℕ)} {t : List ℕ} → Written x b l ls t → Refusing t
unfolding plain
written_refusing x ended = λ before tail e. absurd (nowhere [] before tail refl e)
written_refusing x (passed l p) = written_refusing x p
written_refusing x (rounded {vs = vs} {t = t} l s p) = refusing_behind (verdict_line vs) t (verdicts_plain vs) (written_refusing x p)
written_refusing x (shut {b₁ = b₁} {vs = vs} {xs = xs} {t = t} l s p) =
    refusing_behind (closing_text (outputs x) vs (counted b₁.told) xs) t (closing_plain (outputs x) vs (counted b₁.told) xs) (written_refusing x p)
written_refusing x (turned_down {l = n} {line = line} {r = r} l s) = line_refusing r n (step_other x line l s)
written_refusing x (unread {b = b} {l = n} l) = line_refusing (malformed_rule b) n (malformed_other b.shut)

printed_refusing : (sheet input t : List ℕ) → Printed sheet input t → Refusing t
printed_refusing sheet input t (refused_sheet r d) = sheet_refusing r (sheet_other sheet r d)
printed_refusing sheet input t (journal {x = x} d e w) = written_refusing x w

-- ---- no other number of two digits begins with 21

decimal_21 : (n : ℕ) (u v : List ℕ) → n < 10 ^ 2 → decimal n ++ (32 ∷ u) ≡ decimal 21 ++ (32 ∷ v) → n ≡ 21
unfolding decimal_of
decimal_21 n u v h e = go (ltb n 10) (ltb (n / 10) 10) refl e
  where
    go : (t w : Bool) → ltb (n / 10) 10 ≡ w
        → cond t ((48 + n) ∷ []) (cond w ((48 + n / 10) ∷ []) (decimal_of 18 (n / 10 / 10) ++ ((48 + n / 10 % 10) ∷ [])) ++ ((48 + n % 10) ∷ [])) ++ (32 ∷ u) ≡ 50 ∷ 49 ∷ 32 ∷ v → n ≡ 21
    go true w f e = let z : ◌≡◌ {A = ℕ} 32 49 = ap (λ (t : List ℕ). get_or t 1 0) e in absurd (omega arith)
    go false true f e =
        let tens : 48 + n / 10 ≡ 50 = ap (λ (t : List ℕ). get_or t 0 0) e in
        let ones : 48 + n % 10 ≡ 49 = ap (λ (t : List ℕ). get_or t 1 0) e in
        omega arith
    go false false f e = absurd (let z = ltb-false (n / 10) 10 f in omega arith)

word_gone : (s t : List ℕ) → refused_word ++ s ≡ refused_word ++ t → s ≡ t
word_gone s t e = ap (drop 8) e

pub never_written : NeverWritten
never_written sheet input before after p =
    let z = printed_refusing sheet input _ p before _ refl in
    let n : refusal_no z.0 ≡ 21 = decimal_21 (refusal_no z.0) z.2 after (refusal_range z.0).1 (word_gone _ _ (sym z.3)) in
    false≢true (sym (ap not (eq-eqb (refusal_no z.0) 21 n)) ∙ z.1)
