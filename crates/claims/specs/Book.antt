-- The book (01, "Completions and verdicts", the book of the third demand; 02, W4): what each call of a journal is answered, said by completions
-- alone. It is fed the sheet and the calls, and nothing else.
-- Manual: "Completions and verdicts".
use Rattle.std.specs.Prelude.{Bool, true, false, cond, ◌≡◌, List, [], ◌∷◌, ◌++◌, ℕ, ◌+◌, eqb, leb, length}
use Rattle.std.proofs.Math.Option.{Option, none, some}
use Rattle.std.proofs.Math.ListN.{get_elem?}
use Rattle.outcomes.specs.declared.Refusal.{Refusal}
use Rattle.outcomes.specs.declared.Refusal.TheVariants.{Closed, Full, NoRound, RoundSet}
use Rattle.outcomes.specs.declared.Verdict.{Verdict}
use Rattle.outcomes.specs.declared.Verdict.TheVariants.{True}
use Rattle.words.specs.Below.{one}
use Rattle.sheet.specs.RuleSheet.{RuleSheet, outputs}
use Rattle.record.specs.Record.{max_rounds, share, same_verdict}
use Rattle.completions.specs.Completion.{LetterSet, members}
use Rattle.completions.specs.Judged.{RoundVerdict, ClosingVerdict}
use Rattle.letters.specs.Sets.{bad_set}

-- a round with its set of letters, as a number, or a closing
pub data Call : Type 0 where
  round : ℕ → Call
  closing : Call

-- a refusal, each output's verdict, or on closing also each output's share
pub data Answer : Type 0 where
  refused : Refusal → Answer
  verdicts : List Verdict → Answer
  closed : List Verdict → List ℕ → Answer

-- the rounds accepted, in their order; the verdicts that they were answered with, the last first; whether the book is closed
pub record Book : Type 0 where
  pub rounds : List LetterSet
  pub told : List (List Verdict)
  pub shut : Bool

abbrev pub empty_book : Book
empty_book = record { rounds = []; told = []; shut = false }

-- the entry is this verdict
abbrev pub is_at : Option Verdict → Verdict → Bool
is_at none v = false
is_at (some u) v = same_verdict u v

-- the number of accepted rounds that were answered with the verdict v on output k
unfoldable pub counted : List (List Verdict) → ℕ → Verdict → ℕ
counted [] k v = 0
counted (vs ∷ told) k v = one (is_at (get_elem? vs k) v) + counted told k v

-- what a call is refused with, or none, when the list has t rounds
unfoldable pub refusal : RuleSheet → ℕ → Bool → Call → Option Refusal
refusal x t shut (round letters) = cond shut (some Closed) (cond (bad_set x.inputs letters) (some RoundSet) (cond (leb max_rounds t) (some Full) none))
refusal x t shut closing = cond shut (some Closed) (cond (eqb t 0) (some NoRound) none)

-- a list with one entry for each of n outputs, of which R holds
pub record Each {A : Type 0} (n : ℕ) (R : ℕ → A → Type 0) (xs : List A) : Type 0 where
  pub size : length xs ≡ n
  pub right : (k : ℕ) (y : A) → get_elem? xs k ≡ some y → R k y

-- the book before a call, the call, its answer, and the book after
pub data BookStep (x : RuleSheet) (b : Book) : Call → Answer → Book → Type 0 where
  refuse : {c : Call} {r : Refusal} → refusal x (length b.rounds) b.shut c ≡ some r → BookStep x b c (refused r) b
  accept : {letters : ℕ} {vs : List Verdict} → refusal x (length b.rounds) b.shut (round letters) ≡ none
      → Each (outputs x) (RoundVerdict x (b.rounds ++ members letters ∷ [])) vs
      → BookStep x b (round letters) (verdicts vs) (record { rounds = b.rounds ++ members letters ∷ []; told = vs ∷ b.told; shut = b.shut })
  close : {vs : List Verdict} {xs : List ℕ} → refusal x (length b.rounds) b.shut closing ≡ none
      → Each (outputs x) (ClosingVerdict x b.rounds) vs
      → Each (outputs x) (λ k s. s ≡ share (counted b.told k True) (length b.rounds)) xs
      → BookStep x b closing (closed vs xs) (record { rounds = b.rounds; told = b.told; shut = true })

-- a list of calls, their answers, and the book after
pub data BookRun (x : RuleSheet) : Book → List Call → List Answer → Book → Type 0 where
  finish : {b : Book} → BookRun x b [] [] b
  next : {b b₁ b₂ : Book} {c : Call} {a : Answer} {cs : List Call} {as' : List Answer} → BookStep x b c a b₁ → BookRun x b₁ cs as' b₂ → BookRun x b (c ∷ cs) (a ∷ as') b₂
