-- The marked examples hold, by one computed test over the table.
use mathlib.Core.Bool.{Bool, true, false, cond, not, ◌&&◌}
use mathlib.Core.Path.{◌≡◌, refl, sym, ap, subst, ◌∙◌}
use mathlib.Core.List.{List, [], ◌∷◌, cons-ne-nil}
use mathlib.Core.Option.{Option, none, some}
use Prim.Native.Nat.{ℕ, zero, suc, ◌+◌, ◌-◌, ◌^◌, ◌≤◌, ◌<◌}
use native.Mathlib.Nat.{add-zero, zero-add, add-suc, suc-add, le_refl}
use native.Mathlib.Omega.{arith}
use lib.Dec.{T, eqb, leb, ltb, eqb→eq, ltb→lt}
use lib.ListN.{length, get_or, get_elem?}
use borrow.Author.Tests.{leb-true}
use Rattle.outcomes.specs.Numbers.{refusal_no, verdict_no}
use Rattle.outcomes.specs.declared.Refusal.TheVariants.{Circular}
use Rattle.outcomes.specs.declared.Verdict.{Verdict}
use Rattle.outcomes.specs.declared.Verdict.TheVariants.{False, True, Open, Broken}
use Rattle.words.specs.Bits.{bit, digit}
use Rattle.words.specs.Below.{any_below, sum_below, count_below}
use Rattle.words.proofs.Tests.{and_left, and_right, true_of, of_true}
use Rattle.words.proofs.Options.{nothing, same_some}
use Rattle.sheet.specs.Bytes.{op_of, reads_of}
use Rattle.sheet.specs.Expression.{apply_op, final, parse}
use Rattle.sheet.specs.Header.{mark_ok, version_of, version_ok, counts_ok, assumed_at, header_of}
use Rattle.sheet.specs.RuleSheet.{RuleSheet, outputs, streams, read_outputs, read_sheet}
use Rattle.sheet.proofs.Formed.{read_formed}
use Rattle.lola.specs.Value.{value, near}
use Rattle.lola.specs.Equations.{equations, holds, first, Satisfies, Letters, joined, output}
use Rattle.lola.specs.Reads.{has_read}
use Rattle.circular.specs.Circular.{edges}
use Rattle.circular.specs.Unique.{TraceOf}
use Rattle.circular.proofs.Decide.{circular?, circular_at, at_least0, turned}
use Rattle.circular.proofs.Closure.{Best, top, larger, plus, loop, pick, blow}
use Rattle.circular.proofs.Lists.{joined-letters}
use Rattle.circular.proofs.OneTrace.{accepted-one-trace}
use Rattle.completions.specs.Live.{all_true, allowed, Pairs, Live, count_pairs}
use Rattle.completions.specs.Completion.{masked}
use Rattle.completions.specs.Judged.{RoundVerdict, ClosingVerdict}
use Rattle.completions.specs.Steps.{any_next, any_pair, Represents, start_set, pairs_verdict, ends_verdict}
use Rattle.completions.proofs.Backward.{end_set, back_set, live_within, layer, settled-exact, live-count}
use Rattle.completions.proofs.Letters.{on_letter}
use Rattle.completions.proofs.Steps.{start-exact}
use Rattle.effects.specs.Results.{width}
use Rattle.claims.proofs.Further.{live-set}
use Rattle.claims.proofs.BookLaws.{Reaches, round-right, reaches-closing}
use Rattle.examples.specs.Table.{Case, judged, closing, turned_down, lives, values, unheard, AcceptedAs, EvaluatesTo, Holds, one_input, session, table, Examples}
use Rattle.examples.proofs.Accepted.{all_of, of_reading, read-passed, circular_test, level_test, accepted-as, refused-circular}

-- ---- the tests

-- how far the backward search goes
abbrev depth : ℕ
depth = 2

unfoldable pub gives : (ℕ → Verdict) → ℕ → List Verdict → Bool
gives f k [] = true
gives f k (v ∷ vs) = eqb (verdict_no (f k)) (verdict_no v) && gives f (suc k) vs

unfoldable pub live_set : RuleSheet → Pairs
live_set x = live_within x (width x) depth

unfoldable pub deep : RuleSheet → Bool
deep x = not (any_pair (width x) (layer x (width x) depth))

unfoldable pub reached_set : RuleSheet → Pairs
reached_set x = start_set x (live_set x) (on_letter x unheard)

unfoldable satisfied : RuleSheet → Option ℕ → List ℕ → Bool
satisfied x p [] = true
satisfied x p (v ∷ vs) = ltb v (2 ^ streams x) && (holds x p v (first vs) && satisfied x (some v) vs)

-- every number is below 2 ^ m
unfoldable below : ℕ → List ℕ → Bool
below m [] = true
below m (l ∷ ls) = ltb l (2 ^ m) && below m ls

module _ (x : RuleSheet) where
  abbrev pub byRounds : ℕ → Verdict
  byRounds k = pairs_verdict (width x) (reached_set x) (output x k)

  abbrev byClosing : ℕ → Verdict
  byClosing k = ends_verdict (width x) (reached_set x) (output x k)

  abbrev judgedTests : (ℕ → Verdict) → List Verdict → List Bool
  judgedTests f vs = level_test x ∷ deep x ∷ eqb (length vs) (outputs x) ∷ gives f 0 vs ∷ []

  abbrev livesTests : ℕ → List Bool
  livesTests n = level_test x ∷ deep x ∷ leb (width x) 256 ∷ eqb (count_pairs (width x) (live_set x)) n ∷ []

  abbrev valuesTests : List ℕ → List ℕ → List Bool
  valuesTests ls os =
      level_test x ∷ eqb (length os) (length ls) ∷ below (outputs x) os ∷ below x.inputs ls ∷ satisfied x none (joined x.inputs ls os) ∷ []

unfoldable works : Case → Bool
works (judged bs vs) = of_reading (read_sheet bs) (λ x. judgedTests x (byRounds x) vs)
works (closing bs vs) = of_reading (read_sheet bs) (λ x. judgedTests x (byClosing x) vs)
works (turned_down bs n) = of_reading (read_sheet bs) (λ x. circular_test x ∷ eqb (refusal_no Circular) n ∷ [])
works (lives bs n) = of_reading (read_sheet bs) (λ x. livesTests x n)
works (values bs ls os) = of_reading (read_sheet bs) (λ x. valuesTests x ls os)

-- the places of the cases that fail, counted from k
unfoldable failing : ℕ → List Case → List ℕ
failing k [] = []
failing k (c ∷ cs) = cond (works c) (failing (suc k) cs) (k ∷ failing (suc k) cs)

-- ---- what the tests show

-- two verdicts with one number are the same
abbrev with_no : ℕ → Verdict
with_no zero = False
with_no (suc zero) = True
with_no (suc (suc zero)) = Open
with_no (suc (suc (suc n))) = Broken

back : (v : Verdict) → with_no (verdict_no v) ≡ v
back False = refl
back True = refl
back Open = refl
back Broken = refl

pub verdict-same : (v w : Verdict) → T (eqb (verdict_no v) (verdict_no w)) → v ≡ w
verdict-same v w t = sym (back v) ∙ ap with_no (eqb→eq (verdict_no v) (verdict_no w) t) ∙ back w

gives_at : (f : ℕ → Verdict) (k : ℕ) (vs : List Verdict) (i : ℕ) (v : Verdict) → T (gives f k vs) → get_elem? vs i ≡ some v → f (k + i) ≡ v
unfolding gives
gives_at f k [] i v t e = absurd (nothing e)
gives_at f k (u ∷ vs) zero v t e = rw add-zero (verdict-same (f k) u (and_left (eqb (verdict_no (f k)) (verdict_no u)) (gives f (suc k) vs) t) ∙ same_some e)
gives_at f k (u ∷ vs) (suc i) v t e =
    rw (add-suc, ← suc-add) (gives_at f (suc k) vs i v (and_right (eqb (verdict_no (f k)) (verdict_no u)) (gives f (suc k) vs) t) e)

module _ (x : RuleSheet) (d : T (deep x)) where
  fits : 2 ^ streams x ≤ width x
  fits = le_refl (2 ^ streams x)

  pub live : Represents (width x) (live_set x) (Live x)
  unfolding deep live_set
  live = settled-exact x (width x) fits depth d

  pub after-round : Reaches x (live_set x) live (on_letter x unheard ∷ []) (reached_set x)
  unfolding reached_set
  after-round = start-exact x (width x) fits (live_set x) live (on_letter x unheard)

  pub judged-round : (vs : List Verdict) → T (gives (byRounds x) 0 vs) → (k : ℕ) (v : Verdict) → get_elem? vs k ≡ some v → RoundVerdict x (unheard ∷ []) k v
  judged-round vs t k v e =
      subst (λ (u : Verdict). RoundVerdict x (unheard ∷ []) k u) (ap (byRounds x) (sym (zero-add k)) ∙ gives_at (byRounds x) 0 vs k v t e)
      (round-right x (live_set x) live [] unheard (reached_set x) after-round k)

  judged-closing : (vs : List Verdict) → T (gives (byClosing x) 0 vs) → (k : ℕ) (v : Verdict) → get_elem? vs k ≡ some v → ClosingVerdict x (unheard ∷ []) k v
  judged-closing vs t k v e =
      subst (λ (u : Verdict). ClosingVerdict x (unheard ∷ []) k u) (ap (byClosing x) (sym (zero-add k)) ∙ gives_at (byClosing x) 0 vs k v t e)
      (reaches-closing x (live_set x) live unheard [] (reached_set x) after-round k)

  lives-is : (n : ℕ) → T (leb (width x) 256) → T (eqb (count_pairs (width x) (live_set x)) n) → (L : Pairs) → Represents 256 L (Live x) → count_pairs 256 L ≡ n
  unfolding deep live_set
  lives-is n t u L h =
      let small : width x ≤ 256 = leb-true (width x) 256 (true_of (leb (width x) 256) t) in
      let e : width x + (256 - width x) ≡ 256 = omega arith in
      ap (λ (w : ℕ). count_pairs w L) (sym e)
      ∙ live-count x depth d (256 - width x) L (subst (λ (w : ℕ). Represents w L (Live x)) (sym e) h)
      ∙ eqb→eq (count_pairs (width x) (live_set x)) n u

satisfied_is : (x : RuleSheet) (p : Option ℕ) (vs : List ℕ) → T (satisfied x p vs) → Satisfies x p vs
unfolding satisfied
satisfied_is x p [] t = tt
satisfied_is x p (v ∷ vs) t =
    let small = ltb v (2 ^ streams x) in
    let here = holds x p v (first vs) in
    let rest = satisfied x (some v) vs in
    let u = and_right small (here && rest) t in
    (ltb→lt v (2 ^ streams x) (and_left small (here && rest) t), and_left here rest u, satisfied_is x (some v) vs (and_right here rest u))

small-letters : (m : ℕ) (ls : List ℕ) → T (below m ls) → Letters m ls
unfolding below
small-letters m [] t = tt
small-letters m (l ∷ ls) t = (ltb→lt l (2 ^ m) (and_left (ltb l (2 ^ m)) (below m ls) t), small-letters m ls (and_right (ltb l (2 ^ m)) (below m ls) t))

small_at : (m : ℕ) (ls : List ℕ) → Letters m ls → (i : ℕ) → i < length ls → get_or ls i 0 < 2 ^ m
small_at m [] g i h = absurd (omega arith)
small_at m (l ∷ ls) g zero h = g.0
small_at m (l ∷ ls) g (suc i) h = small_at m ls g.1 i (omega arith)

evaluates : (bs : List ℕ) (x : RuleSheet) → AcceptedAs bs x → (ls os : List ℕ) → length os ≡ length ls → Letters (outputs x) os → Letters x.inputs ls
    → Satisfies x none (joined x.inputs ls os) → EvaluatesTo x ls os
evaluates bs x a ls os e small letters s =
    let t : TraceOf x ls (joined x.inputs ls os) = record { letters = joined-letters x ls os letters (omega (arith, e)); satisfies = s } in
    record {
      size = e;
      bytes = small_at (outputs x) os small;
      trace = t;
      only = λ vs h. (accepted-one-trace bs x a.decided a.read ls letters).only vs (joined x.inputs ls os) h t;
    }

holds_case : (c : Case) → T (works c) → Holds c
unfolding works
holds_case (judged bs vs) t =
    let (x, e, p) = read-passed bs (λ x. judgedTests x (byRounds x) vs) t in
    (x, accepted-as bs x e p.0, record { size = eqb→eq (length vs) (outputs x) p.1.1.0; right = judged-round x p.1.0 vs p.1.1.1.0 })
holds_case (closing bs vs) t =
    let (x, e, p) = read-passed bs (λ x. judgedTests x (byClosing x) vs) t in
    (x, accepted-as bs x e p.0, record { size = eqb→eq (length vs) (outputs x) p.1.1.0; right = judged-closing x p.1.0 vs p.1.1.1.0 })
holds_case (turned_down bs n) t =
    let (x, e, p) = read-passed bs (λ x. circular_test x ∷ eqb (refusal_no Circular) n ∷ []) t in
    (Circular, refused-circular bs x e p.0, eqb→eq (refusal_no Circular) n p.1.0)
holds_case (lives bs n) t =
    let (x, e, p) = read-passed bs (λ x. livesTests x n) t in
    let (L, h) = live-set x (read_formed bs x e).ranges.streams in
    (x, accepted-as bs x e p.0, L, h, lives-is x p.1.0 n p.1.1.0 p.1.1.1.0 L h)
holds_case (values bs ls os) t =
    let (x, e, p) = read-passed bs (λ x. valuesTests x ls os) t in
    let a = accepted-as bs x e p.0 in (
      x,
      a,
      evaluates bs x a ls os (eqb→eq (length os) (length ls) p.1.0) (small-letters (outputs x) os p.1.1.0) (small-letters x.inputs ls p.1.1.1.0)
          (satisfied_is x none (joined x.inputs ls os) p.1.1.1.1.0),
    )

none_fails : (k : ℕ) (cs : List Case) → failing k cs ≡ [] → (i : ℕ) (c : Case) → get_elem? cs i ≡ some c → T (works c)
unfolding failing
none_fails k [] h i c e = absurd (nothing e)
none_fails k (d ∷ cs) h i c e = go (works d) refl h (none_fails (suc k) cs) i e
  where
    go : (b : Bool) → works d ≡ b → cond b (failing (suc k) cs) (k ∷ failing (suc k) cs) ≡ []
        → (failing (suc k) cs ≡ [] → (j : ℕ) (a : Case) → get_elem? cs j ≡ some a → T (works a))
        → (j : ℕ) → get_elem? (d ∷ cs) j ≡ some c → T (works c)
    go false w h more j e = absurd (cons-ne-nil _ _ h)
    go true w h more zero e = subst (λ (a : Case). T (works a)) (same_some e) (of_true (works d) w)
    go true w h more (suc j) e = more h j c e

computed : failing 0 table ≡ []
unfolding failing works table one_input session all_of below satisfied gives deep live_set reached_set masked start_set pairs_verdict ends_verdict layer live_within end_set back_set any_pair any_next any_below count_pairs count_below sum_below holds equations value near bit digit allowed all_true read_sheet header_of mark_ok version_of version_ok counts_ok assumed_at read_outputs parse final apply_op op_of reads_of circular? circular_at at_least0 Best top larger plus loop pick blow turned edges has_read
computed = refl

-- The marked examples.
pub examples : Examples
examples i c e = holds_case c (none_fails 0 table computed i c e)
