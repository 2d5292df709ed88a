-- The verdicts read off the reached set are the book's, and the book leaves nothing open.
use mathlib.Core.Bool.{Bool, true, false}
use mathlib.Core.Path.{◌≡◌, refl, sym, ap, ap₂, subst, ◌∙◌}
use mathlib.Core.List.{List, [], ◌∷◌, ◌++◌, map, append-nil, append_assoc}
use mathlib.Core.Option.{none, some}
use Prim.Native.Nat.{ℕ, zero, suc, ◌^◌, ◌≤◌}
use native.Mathlib.Omega.{arith}
use lib.ListN.{length, get_elem?, length-map}
use Rattle.outcomes.specs.declared.Verdict.{Verdict}
use Rattle.outcomes.specs.declared.Verdict.TheVariants.{True}
use Rattle.words.proofs.Options.{nothing, same_some}
use Rattle.sheet.specs.RuleSheet.{RuleSheet, outputs, streams}
use Rattle.lola.specs.Equations.{output}
use Rattle.record.specs.Record.{share}
use Rattle.completions.specs.Live.{Pairs, Live}
use Rattle.completions.specs.Completion.{LetterSet, members, Completion, Closing}
use Rattle.completions.specs.Judged.{Judged, in_round, RoundVerdict, ClosingVerdict}
use Rattle.completions.specs.Together.{together, TogetherVerdict}
use Rattle.completions.specs.Steps.{Represents, pairs_verdict, ends_verdict}
use Rattle.completions.proofs.Runs.{Round, Reached}
use Rattle.completions.proofs.Steps.{start-exact, step-exact}
use Rattle.completions.proofs.Verdicts.{one-verdict, test-verdict, test-closing}
use Rattle.completions.proofs.Letters.{on_letter, on_letters, letters-verdict, letters-closing}
use Rattle.effects.specs.Results.{width, next_set}
use Rattle.claims.specs.Book.{Call, closing, Answer, refused, verdicts, closed, Book, counted, refusal, Each, BookStep, refuse, accept, close, BookRun, finish, next}
use Rattle.claims.specs.Further.{OneBook}

-- ---- lists with an entry for each output

module _ {A : Type 0} where
  same-list : (xs ys : List A) → length xs ≡ length ys → ((k : ℕ) (y z : A) → get_elem? xs k ≡ some y → get_elem? ys k ≡ some z → y ≡ z) → xs ≡ ys
  same-list [] [] l h = refl
  same-list [] (z ∷ ys) l h = absurd (omega arith)
  same-list (y ∷ xs) [] l h = absurd (omega arith)
  same-list (y ∷ xs) (z ∷ ys) l h =
      let e : y ≡ z = h 0 y z refl refl in
      let r : xs ≡ ys = same-list xs ys (omega arith) (λ k a b p q. h (suc k) a b p q) in
      cc

  -- where R allows one entry for each output, there is one list
  pub each-unique : (n : ℕ) (R : ℕ → A → Type 0) → ((k : ℕ) (y z : A) → R k y → R k z → y ≡ z) → (xs ys : List A) → Each n R xs → Each n R ys → xs ≡ ys
  each-unique n R same xs ys a b = same-list xs ys (a.size ∙ sym b.size) (λ k y z p q. same k y z (a.right k y p) (b.right k z q))

-- ---- the machine keeps to the book

pub map_snoc : {A B : Type 0} (f : A → B) (xs : List A) (y : A) → map f (xs ++ y ∷ []) ≡ map f xs ++ f y ∷ []
map_snoc f [] y = refl
map_snoc f (x ∷ xs) y = ap (λ (zs : List _). f x ∷ zs) (map_snoc f xs y)

module _ (x : RuleSheet) (L : Pairs) (live : Represents (width x) L (Live x)) where
  abbrev w : ℕ
  w = width x

  small : 2 ^ streams x ≤ w
  small = omega arith

  -- after one round or more the set holds exactly the reached pairs
  abbrev pub Reaches : List Round → Pairs → Type 0
  Reaches [] S = Unit {0}
  Reaches (q ∷ qs) S = Represents w S (Reached x (q ∷ qs))

  pub next-reaches : (rs : List Round) (S : Pairs) (t : ℕ) (r : Round) → t ≡ length rs → Reaches rs S → Reaches (rs ++ r ∷ []) (next_set x L t S r)
  next-reaches [] S zero r e h = start-exact x w small L live r
  next-reaches [] S (suc t) r e h = absurd (omega arith)
  next-reaches (q ∷ qs) S zero r e h = absurd (omega arith)
  next-reaches (q ∷ qs) S (suc t) r e h = step-exact x w small L live S q qs h r

  -- some set holds what any list of rounds reaches
  reached-from : (rest done : List LetterSet) (S : Pairs) → Reaches (on_letters x done) S → (T : Pairs) × Reaches (on_letters x (done ++ rest)) T
  reached-from [] done S h = (S, subst (λ (z : List LetterSet). Reaches (on_letters x z) S) (sym (append-nil done)) h)
  reached-from (r ∷ rest) done S h =
      let N : Pairs = next_set x L (length (on_letters x done)) S (on_letter x r) in
      let e : Reaches (on_letters x (done ++ r ∷ [])) N = rw (map_snoc (on_letter x) done r) (next-reaches (on_letters x done) S (length (on_letters x done)) (on_letter x r) refl h) in
      let z = reached-from rest (done ++ r ∷ []) N e in
      (z.0, subst (λ (y : List LetterSet). Reaches (on_letters x y) z.0) (append_assoc done (r ∷ []) rest) z.1)

  pub reached-by : (rs : List LetterSet) → (T : Pairs) × Reaches (on_letters x rs) T
  reached-by rs = reached-from rs [] L tt

  -- the verdicts of rounds, of which there is one or more, on any test of the last one's valuation
  reaches-test : (q : LetterSet) (qs : List LetterSet) (S : Pairs) → Reaches (on_letters x (q ∷ qs)) S
      → (g : ℕ → Bool) → Judged (Completion x (q ∷ qs)) (λ ls c. in_round (suc (length qs)) g c.trace) (pairs_verdict w S g)
  reaches-test q qs S h g =
      letters-verdict x (q ∷ qs) (suc (length qs)) g _ (rw (length-map qs (on_letter x)) at (test-verdict x w small (on_letter x q) (on_letters x qs) S h g))

  pub reaches-round : (q : LetterSet) (qs : List LetterSet) (S : Pairs) → Reaches (on_letters x (q ∷ qs)) S → (k : ℕ) → RoundVerdict x (q ∷ qs) k (pairs_verdict w S (output x k))
  unfolding RoundVerdict
  reaches-round q qs S h k = reaches-test q qs S h (output x k)

  pub reaches-together : (q : LetterSet) (qs : List LetterSet) (S : Pairs) → Reaches (on_letters x (q ∷ qs)) S
      → (O : ℕ → Bool) → TogetherVerdict x (q ∷ qs) O (pairs_verdict w S (together x O))
  unfolding TogetherVerdict
  reaches-together q qs S h O = reaches-test q qs S h (together x O)

  pub reaches-closing : (q : LetterSet) (qs : List LetterSet) (S : Pairs) → Reaches (on_letters x (q ∷ qs)) S → (k : ℕ) → ClosingVerdict x (q ∷ qs) k (ends_verdict w S (output x k))
  unfolding ClosingVerdict
  reaches-closing q qs S h k =
      letters-closing x (q ∷ qs) (suc (length qs)) (output x k) _
      (rw (length-map qs (on_letter x)) at (test-closing x w small (on_letter x q) (on_letters x qs) S h (output x k)))

  pub round-right : (rs : List LetterSet) (r : LetterSet) (S : Pairs) → Reaches (on_letters x (rs ++ r ∷ [])) S → (k : ℕ) → RoundVerdict x (rs ++ r ∷ []) k (pairs_verdict w S (output x k))
  round-right [] r S h k = reaches-round r [] S h k
  round-right (q ∷ qs) r S h k = reaches-round q (qs ++ r ∷ []) S h k

  -- a closing that is not refused has a round
  pub closing-right : (rs : List LetterSet) (S : Pairs) (shut : Bool) → refusal x (length rs) shut closing ≡ none → Reaches (on_letters x rs) S
      → (k : ℕ) → ClosingVerdict x rs k (ends_verdict w S (output x k))
  unfolding refusal
  closing-right [] S true e h k = absurd (nothing (sym e))
  closing-right [] S false e h k = absurd (nothing (sym e))
  closing-right (q ∷ qs) S shut e h k = reaches-closing q qs S h k

-- ---- the book leaves nothing open: one answer and one book after each call

module _ (x : RuleSheet) (b : Book) where
  round-unique : (rs : List LetterSet) (k : ℕ) (v w : Verdict) → RoundVerdict x rs k v → RoundVerdict x rs k w → v ≡ w
  unfolding RoundVerdict
  round-unique rs k v w p q = one-verdict (Completion x rs) (λ ls c. in_round (length rs) (output x k) c.trace) v w p q

  closing-unique : (rs : List LetterSet) (k : ℕ) (v w : Verdict) → ClosingVerdict x rs k v → ClosingVerdict x rs k w → v ≡ w
  unfolding ClosingVerdict
  closing-unique rs k v w p q = one-verdict (Closing x rs) (λ ls c. in_round (length rs) (output x k) c.complete.trace) v w p q

  pub step-unique : {c : Call} {a₁ a₂ : Answer} {b₁ b₂ : Book} → BookStep x b c a₁ b₁ → BookStep x b c a₂ b₂ → (a₁ ≡ a₂) × (b₁ ≡ b₂)
  step-unique (refuse p) (refuse q) = (ap refused (same_some (sym p ∙ q)), refl)
  step-unique (refuse p) (accept q each) = absurd (nothing (sym q ∙ p))
  step-unique (refuse p) (close q each shares) = absurd (nothing (sym q ∙ p))
  step-unique (accept p each) (refuse q) = absurd (nothing (sym p ∙ q))
  step-unique (accept {letters = letters} {vs = us} p each) (accept {vs = ws} q each') =
      let rs : List LetterSet = b.rounds ++ members letters ∷ [] in
      let e : us ≡ ws = each-unique (outputs x) (RoundVerdict x rs) (round-unique rs) us ws each each' in
      (ap verdicts e, λ i. record { rounds = rs; told = e i ∷ b.told; shut = b.shut })
  step-unique (close p each shares) (refuse q) = absurd (nothing (sym p ∙ q))
  step-unique (close {vs = us} {xs = xs} p each shares) (close {vs = ws} {xs = ys} q each' shares') =
      let e : us ≡ ws = each-unique (outputs x) (ClosingVerdict x b.rounds) (closing-unique b.rounds) us ws each each' in
      let d : xs ≡ ys = each-unique (outputs x) (λ k s. s ≡ share (counted b.told k True) (length b.rounds)) (λ k y z p q. p ∙ sym q) xs ys shares shares' in
      (ap₂ closed e d, refl)

run_unique : (x : RuleSheet) {b₀ b₁ b₂ : Book} {cs : List Call} {xs ys : List Answer} → BookRun x b₀ cs xs b₁ → BookRun x b₀ cs ys b₂ → (xs ≡ ys) × (b₁ ≡ b₂)
run_unique x finish finish = (refl, refl)
run_unique x (next {b = b} p r) (next {b₂ = d} {cs = cs} {as' = ys} q t) =
    let e = step-unique x b p q in
    let h = run_unique x r (subst (λ (z : Book). BookRun x z cs ys d) (sym e.1) t) in
    (ap₂ (λ (a : Answer) (xs : List Answer). a ∷ xs) e.0 h.0, h.1)

pub one-book : OneBook
one-book x b b₁ b₂ cs as₁ as₂ p q = run_unique x p q
