-- Lists of calls of the exported functions (01, "Completions and verdicts", the third demand): what a caller in C or Rust gets back, in numbers and
-- slices, is the book's answer.
-- Manual: "Calling it".
use Rattle.std.specs.Prelude.{◌≡◌, List, [], ◌∷◌, map, ℕ, ◌+◌, ◌≤◌, ◌<◌, length, take, drop}
use Rattle.outcomes.specs.Numbers.{refusal_no, verdict_no}
use Rattle.sheet.specs.RuleSheet.{RuleSheet, outputs}
use Rattle.circular.specs.SheetChecks.{OfSheet}
use Rattle.record.specs.declared.JournalRecord.{JournalRecord}
use Rattle.slices.specs.Slices.{numbers_of}
use Rattle.claims.specs.Book.{Call, round, closing, Answer, refused, verdicts, closed, Book, empty_book, BookRun}
use Rattle.claims.specs.Session.{Matches}
use Rattle.jigwaret.specs.Numbered.{Checked, EvaluatedAs, LettersAs}
use Rattle.jigwaret.specs.Journal.{Slices, slices, PreparedAs, RoundAs, ClosedAs, TogetherAs}

-- what a caller in C or Rust holds between two calls: the storage, and the record as its numbers
pub record HeldSlices : Type 0 where
  pub storage : List ℕ
  pub numbers : List ℕ

-- what a call gives back: the number returned, and the answer slice, as it was handed in and as it is afterwards
pub record Reply : Type 0 where
  pub number : ℕ
  pub before : List ℕ
  pub after : List ℕ

-- the record's and the answer's slices of one call
abbrev pub slices_of : HeldSlices → Reply → HeldSlices → Slices
slices_of h y k = slices h.numbers k.numbers y.before y.after

-- One call with the sheet bs, as the contracts of `jigwaret_round` and `jigwaret_close` have it: what is held before, the call, what it gives back,
-- what is held after. `jigwaret_close` is lent the storage for reading only.
abbrev pub ExportedStep : List ℕ → HeldSlices → Call → Reply → HeldSlices → Type 0
ExportedStep bs h (round letters) y k = RoundAs bs h.storage k.storage letters (slices_of h y k) y.number
ExportedStep bs h closing y k = (k.storage ≡ h.storage) × ClosedAs bs h.storage (slices_of h y k) y.number

-- A list of calls (01, "Completions and verdicts"): each gets the storage and the record's numbers from the one before it, and an answer slice,
-- whatever it holds. Where that has fewer than 16 numbers, the call returns 255 and is a step that changes nothing and is no call of the book; the
-- record's slice has 30 numbers from the preparation on.
pub data ExportedRun (bs : List ℕ) : HeldSlices → List Call → List Reply → HeldSlices → Type 0 where
  finish : {h : HeldSlices} → ExportedRun bs h [] [] h
  next : {h h₁ h₂ : HeldSlices} {c : Call} {y : Reply} {cs : List Call} {ys : List Reply}
      → 16 ≤ length y.before → ExportedStep bs h c y h₁ → ExportedRun bs h₁ cs ys h₂
      → ExportedRun bs h (c ∷ cs) (y ∷ ys) h₂
  unanswered : {h h₁ h₂ : HeldSlices} (c : Call) (y : Reply) {cs : List Call} {ys : List Reply}
      → length y.before < 16 → ExportedStep bs h c y h₁ → ExportedRun bs h₁ cs ys h₂
      → ExportedRun bs h cs ys h₂

-- The book's answer as the caller sees it, for a sheet of n outputs. Refused: the refusal's number, which is not 0, and the answer slice is as it
-- was (01, "What is turned down"). Accepted: 0; a round's slice begins with the n verdicts by their numbers, a closing's with these and then the n
-- shares, and what stands behind is as it was.
abbrev pub Shows : ℕ → Answer → Reply → Type 0
Shows n (refused e) y = (y.number ≡ refusal_no e) × (0 < y.number) × (y.after ≡ y.before)
Shows n (verdicts vs) y = (y.number ≡ 0) × (take n y.after ≡ map verdict_no vs) × (drop n y.after ≡ drop n y.before)
Shows n (closed vs xs) y =
    (y.number ≡ 0)
    × (take n y.after ≡ map verdict_no vs)
    × (take n (drop n y.after) ≡ xs)
    × (drop (n + n) y.after ≡ drop (n + n) y.before)

-- each call shows the answer in its place, and there are as many of both
pub data AllShow (n : ℕ) : List Answer → List Reply → Type 0 where
  empty : AllShow n [] []
  more : {a : Answer} {y : Reply} {as' : List Answer} {ys : List Reply} → Shows n a y → AllShow n as' ys → AllShow n (a ∷ as') (y ∷ ys)

-- the numbers are the 30 of a record that is the book's
abbrev pub NumbersMatch : RuleSheet → Book → List ℕ → Type 0
NumbersMatch x b ns = (length ns ≡ 30) × ((r : JournalRecord) × (ns ≡ numbers_of r) × Matches x b r)

-- The third demand for callers in C and Rust (01, "Completions and verdicts"): after one `jigwaret_prepare` with the sheet bs that returned 0, which
-- it does only if its slices have the right sizes, and whatever the storage s and the slices held, for every list of `jigwaret_round` and
-- `jigwaret_close` with that sheet, refused ones included, every call shows the book's answer, and the record's numbers afterwards are the
-- book's too.
abbrev pub ExportedCalls : Type 0
ExportedCalls =
    (bs s t : List ℕ) (z : Slices) → PreparedAs bs s t z 0
    → (cs : List Call) (ys : List Reply) (k : HeldSlices) → ExportedRun bs (record { storage = t; numbers = z.rec' }) cs ys k
    → OfSheet bs (λ x. (as' : List Answer) × (b : Book) × BookRun x empty_book cs as' b × AllShow (outputs x) as' ys × NumbersMatch x b k.numbers)

-- The first demand for callers in C and Rust (01, "What is turned down"; 02, W4 and W8): which number a function returns is settled by what it is handed, and
-- with every number but 0 all that was lent to it is what it was. That it returns one is its contract.
pub record ExportedRefusals : Type 0 where
  pub check : (bs : List ℕ) (r q : ℕ) → Checked bs r → Checked bs q → r ≡ q
  pub evaluation : (bs ls old new other : List ℕ) (r q : ℕ) → EvaluatedAs bs ls old new r → EvaluatedAs bs ls old other q → r ≡ q
  pub evaluation_refused : (bs ls old new : List ℕ) (r : ℕ) → EvaluatedAs bs ls old new r → 0 < r → new ≡ old
  pub letters : (m known val old new other r q : ℕ) → LettersAs m known val old new r → LettersAs m known val old other q → r ≡ q
  pub letters_refused : (m known val old new r : ℕ) → LettersAs m known val old new r → 0 < r → new ≡ old
  pub preparation : (bs s t u rec ans rec₁ ans₁ rec₂ ans₂ : List ℕ) (r q : ℕ)
      → PreparedAs bs s t (slices rec rec₁ ans ans₁) r → PreparedAs bs s u (slices rec rec₂ ans ans₂) q → r ≡ q
  pub preparation_refused : (bs s t : List ℕ) (z : Slices) (r : ℕ) → PreparedAs bs s t z r → 0 < r → (t ≡ s) × (z.rec' ≡ z.rec) × (z.ans' ≡ z.ans)
  pub call : (bs : List ℕ) (h k l : HeldSlices) (c : Call) (y z : Reply) → y.before ≡ z.before
      → ExportedStep bs h c y k → ExportedStep bs h c z l → y.number ≡ z.number
  pub call_refused : (bs : List ℕ) (h k : HeldSlices) (c : Call) (y : Reply) → ExportedStep bs h c y k → 0 < y.number
      → (k.storage ≡ h.storage) × (k.numbers ≡ h.numbers) × (y.after ≡ y.before)
  pub together : (bs s rec ans ans₁ ans₂ : List ℕ) (set r q : ℕ)
      → TogetherAs bs s set (slices rec rec ans ans₁) r → TogetherAs bs s set (slices rec rec ans ans₂) q → r ≡ q
  pub together_refused : (bs s rec ans ans' : List ℕ) (set r : ℕ) → TogetherAs bs s set (slices rec rec ans ans') r → 0 < r → ans' ≡ ans
