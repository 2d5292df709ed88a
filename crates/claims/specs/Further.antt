-- Further sentences of 01, "The sheet", "Completions and verdicts" and "Tallies", and of 02, W1, W4 and W13, as types.
-- Manual: "The sheet", "Completions and verdicts", "Preparation", "Tallies".
use Rattle.std.specs.Prelude.{◌≡◌, false, List, [], ◌∷◌, ◌++◌, map, ◌↔◌, ℕ, ◌+◌, ◌≤◌, ◌<◌, length, get_or}
use Rattle.std.proofs.Math.Option.{Option, none}
use Rattle.outcomes.specs.declared.Verdict.{Verdict}
use Rattle.outcomes.specs.declared.Verdict.TheVariants.{Broken}
use Rattle.outcomes.specs.Outcome.{unbroken}
use Rattle.sheet.specs.Expression.{constant}
use Rattle.sheet.specs.Header.{version_of}
use Rattle.sheet.specs.Postfix.{InSheet}
use Rattle.sheet.specs.RuleSheet.{RuleSheet, outputs, streams, accepted, read_sheet}
use Rattle.circular.specs.SheetChecks.{OfSheet}
use Rattle.record.specs.Record.{max_rounds, sum_at}
use Rattle.completions.specs.Live.{Live, ExactReach, Pairs, count_pairs}
use Rattle.completions.specs.Completion.{LetterSet, members, masked, Completion}
use Rattle.completions.specs.Judged.{RoundVerdict, ClosingVerdict}
use Rattle.completions.specs.Steps.{Represents, Within, pairs_within}
use Rattle.letters.specs.Masks.{bad_masks}
use Rattle.letters.specs.Sets.{bad_set, MaskSet}
use Rattle.pairs.specs.Storage.{storage_words, live, reached, scratch}
use Rattle.effects.specs.Results.{width, Prepared}
use Rattle.effects.specs.declared.PrepareAnswer.{PrepareAnswer}
use Rattle.monitor.specs.Entries.{PrepareCall}
use Rattle.claims.specs.Book.{Call, Answer, Book, BookRun}
use Rattle.claims.specs.Session.{Held, held, Session}

-- a sheet that is read has at most 463 bytes (01, "The sheet")
abbrev pub LongestSheet : Type 0
LongestSheet = (bs : List ℕ) (x : RuleSheet) → read_sheet bs ≡ accepted x → length bs ≤ 463

-- a sheet of version 1 has no equality in any expression (02, W1)
abbrev pub VersionOne : Type 0
VersionOne =
    (bs : List ℕ) (x : RuleSheet) → version_of bs ≡ 1 → read_sheet bs ≡ accepted x
    → (k : ℕ) → k < outputs x → InSheet (record { version = 1; streams = streams x }) (get_or x.expressions k (constant false))

-- what is read as a sheet of version 1 is read as the same sheet where its bytes say version 2 (02, W1)
abbrev pub VersionsAgree : Type 0
VersionsAgree =
    (a b c : ℕ) (bs : List ℕ) (x : RuleSheet)
    → read_sheet (a ∷ (b ∷ (c ∷ (1 ∷ (0 ∷ bs))))) ≡ accepted x → read_sheet (a ∷ (b ∷ (c ∷ (2 ∷ (0 ∷ bs))))) ≡ accepted x

-- every sheet of at most 8 streams (01, "The sheet", allows no more) has a set of just its live pairs, so that they have an exact number (01,
-- "Completions and verdicts")
abbrev pub LiveSet : Type 0
LiveSet = (x : RuleSheet) → streams x ≤ 8 → (L : Pairs) × Represents 256 L (Live x)

-- no two verdicts fit a round, nor a closing
abbrev pub OneVerdict : Type 0
OneVerdict =
    (x : RuleSheet) (rs : List LetterSet) (k : ℕ) (v w : Verdict)
    → (RoundVerdict x rs k v → RoundVerdict x rs k w → v ≡ w) × (ClosingVerdict x rs k v → ClosingVerdict x rs k w → v ≡ w)

-- and one does, on every output, whatever was heard
abbrev pub SomeVerdict : Type 0
SomeVerdict =
    (x : RuleSheet) → streams x ≤ 8 → (r : LetterSet) (rs : List LetterSet) (k : ℕ)
    → ((v : Verdict) × RoundVerdict x (r ∷ rs) k v) × ((v : Verdict) × ClosingVerdict x (r ∷ rs) k v)

-- once broken, every later round is broken
abbrev pub StaysBroken : Type 0
StaysBroken = (x : RuleSheet) (rs : List LetterSet) (r : LetterSet) (k j : ℕ) → RoundVerdict x rs k Broken → RoundVerdict x (rs ++ r ∷ []) j Broken

-- the book of the third demand leaves nothing open: no two lists of answers and no two books after it fit a list of calls
abbrev pub OneBook : Type 0
OneBook =
    (x : RuleSheet) (b b₁ b₂ : Book) (cs : List Call) (as₁ as₂ : List Answer)
    → BookRun x b cs as₁ b₁ → BookRun x b cs as₂ b₂ → (as₁ ≡ as₂) × (b₁ ≡ b₂)

-- no two numbers are the exact reach of a sheet, and every sheet that is read has one (02, W13)
abbrev pub OneReach : Type 0
OneReach = (x : RuleSheet) (r r' : ℕ) → ExactReach x r → ExactReach x r' → r ≡ r'

abbrev pub SomeReach : Type 0
SomeReach = (bs : List ℕ) (x : RuleSheet) → read_sheet bs ≡ accepted x → (r : ℕ) × ExactReach x r

-- a live pair with the end mark needs no further round, and every sheet that is read has such a pair (02, W13)
pub record EndNeedsNone : Type 0 where
  pub no_round : (x : RuleSheet) (a : ℕ) (h : Live x a none) → length h.rest ≡ 0
  pub some_end : (bs : List ℕ) (x : RuleSheet) → read_sheet bs ≡ accepted x → (a : ℕ) × Live x a none

-- the exact reach is below the number of live pairs, which are those of L, and so it is in the answer of an accepted preparation (02, W13)
pub record ReachBelow : Type 0 where
  pub of_sheet : (x : RuleSheet) → streams x ≤ 8 → (L : Pairs) → Represents 256 L (Live x) → (r : ℕ) → ExactReach x r → r < count_pairs 256 L
  pub answered : (bs s t : List ℕ) (a : PrepareAnswer) → PrepareCall bs s t a → a.outcome ≡ unbroken → a.reach < a.live

-- a prefix of one or more rounds that has a completion has one with at most as many further rounds as the exact reach (02, W13)
abbrev pub WithinReach : Type 0
WithinReach =
    (x : RuleSheet) (n : ℕ) → ExactReach x n → (r : LetterSet) (rs : List LetterSet) (ls : List ℕ) → Completion x (r ∷ rs) ls
    → (ms : List ℕ) × Completion x (r ∷ rs) ms × (length ms ≤ length (r ∷ rs) + n)

-- a prefix of one or more rounds that has a completion has one with fewer further rounds than there are live pairs, which are those of L
abbrev pub ShortCompletion : Type 0
ShortCompletion =
    (x : RuleSheet) → streams x ≤ 8 → (L : Pairs) → Represents 256 L (Live x) → (r : LetterSet) (rs : List LetterSet) (ls : List ℕ) → Completion x (r ∷ rs) ls
    → (ms : List ℕ) × Completion x (r ∷ rs) ms × (length ms < length (r ∷ rs) + count_pairs 256 L)

-- rounds given by masks, and the sets made from these masks with m inputs
pub data MadeFrom (m : ℕ) : List LetterSet → List ℕ → Type 0 where
  empty : MadeFrom m [] []
  more : {known val w : ℕ} {rs : List LetterSet} {ws : List ℕ} → MaskSet m known val w → MadeFrom m rs ws → MadeFrom m (masked known val ∷ rs) (w ∷ ws)

-- masks stand for one set, which a round takes, and over such sets the verdicts are those over the masks (02, W4)
pub record MaskedRounds : Type 0 where
  pub only : (m known val w u : ℕ) → MaskSet m known val w → MaskSet m known val u → w ≡ u
  pub taken : (m known val w : ℕ) → bad_masks m known val ≡ false → MaskSet m known val w → bad_set m w ≡ false
  pub rounds : (x : RuleSheet) (rs : List LetterSet) (ws : List ℕ) → MadeFrom x.inputs rs ws
      → (k : ℕ) (v : Verdict) → RoundVerdict x (map members ws) k v ↔ RoundVerdict x rs k v
  pub closings : (x : RuleSheet) (rs : List LetterSet) (ws : List ℕ) → MadeFrom x.inputs rs ws
      → (k : ℕ) (v : Verdict) → ClosingVerdict x (map members ws) k v ↔ ClosingVerdict x rs k v

-- two storages hold the same pairs in each of the three sets
pub record SameSets (t t' : List ℕ) : Type 0 where
  pub same_live : (b : ℕ) (c : Option ℕ) → b < 256 → Within 256 c → live t b c ≡ live t' b c
  pub same_reached : (b : ℕ) (c : Option ℕ) → b < 256 → Within 256 c → reached t b c ≡ reached t' b c
  pub same_scratch : (b : ℕ) (c : Option ℕ) → b < 256 → Within 256 c → scratch t b c ≡ scratch t' b c

-- nothing hangs on what the storage held before preparation (01, "Completions and verdicts"): two preparations of a sheet, on any storages s and
-- s', leave the same sets and answer with the same number of live pairs, the same reach (02, W13) and the same record
abbrev pub StorageForgotten : Type 0
StorageForgotten =
    (x : RuleSheet) (s s' t t' : List ℕ) (a a' : PrepareAnswer) → Prepared x s t a → Prepared x s' t' a'
    → SameSets t t' × (a.live ≡ a'.live) × (a.reach ≡ a'.reach) × (a.record ≡ a'.record)

-- P holds of what is held after one accepted preparation and any calls with the same sheet
abbrev pub AfterCalls : (RuleSheet → Held → Type 0) → Type 0
AfterCalls P =
    (bs s t : List ℕ) (p : PrepareAnswer) → PrepareCall bs s t p → p.outcome ≡ unbroken
    → (cs : List Call) (as' : List Answer) (h : Held) → Session bs (held t p.record) cs as' h
    → OfSheet bs (λ x. P x h)

-- the four counts of each output add up to the rounds, of which there are at most 1,000,000, and the storage is as long as it has to be: rules
-- 15 and 18 are never met
pub record InOrder (x : RuleSheet) (h : Held) : Type 0 where
  pub sums : (k : ℕ) → k < outputs x → sum_at h.record.counts k ≡ h.record.rounds
  pub few : h.record.rounds ≤ max_rounds
  pub long : storage_words ≤ length h.storage

abbrev pub StaysInOrder : Type 0
StaysInOrder = AfterCalls InOrder

-- the scratch set is empty, and the reached set has no pair beyond the sheet's valuations: nothing is left in the words that rounds don't write
-- (builders' choice, docs/LAYOUT)
pub record Tidy (x : RuleSheet) (h : Held) : Type 0 where
  pub within : (b : ℕ) (c : Option ℕ) → b < 256 → Within 256 c → reached h.storage b c ≡ pairs_within (width x) (reached h.storage) b c
  pub cleared : (b : ℕ) (c : Option ℕ) → b < 256 → Within 256 c → scratch h.storage b c ≡ false

abbrev pub StaysTidy : Type 0
StaysTidy = AfterCalls Tidy
