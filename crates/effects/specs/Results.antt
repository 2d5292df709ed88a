-- What an accepted preparation, round and closing answer, and what they leave in the storage (01, "Completions and verdicts", "Tallies"). On
-- storage that preparation never filled, rounds and closing follow the same steps on the sets found there.
-- Manual: "Preparation".
use Rattle.std.specs.Prelude.{◌≡◌, Bool, true, false, cond, List, ℕ, zero, suc, ◌+◌, ◌^◌, ◌<◌, ◌≤◌, length, get_or}
use Rattle.std.proofs.Math.Option.{Option}
use Rattle.outcomes.specs.Numbers.{Verdicts}
use Rattle.outcomes.specs.declared.Verdict.TheVariants.{True}
use Rattle.sheet.specs.RuleSheet.{RuleSheet, outputs, streams}
use Rattle.lola.specs.Equations.{output, letter}
use Rattle.record.specs.Record.{Fresh, Counted, count_at, share}
use Rattle.record.specs.declared.JournalRecord.{JournalRecord}
use Rattle.completions.specs.Live.{Pairs, Live, ExactReach, count_pairs}
use Rattle.completions.specs.Completion.{LetterSet}
use Rattle.completions.specs.Steps.{Within, Represents, start_set, step_set, pairs_verdict, ends_verdict, pairs_within}
use Rattle.pairs.specs.Storage.{storage_words, used, live, max_pairs, reached, reached_at, scratch}
use Rattle.effects.specs.declared.PrepareAnswer.{PrepareAnswer}
use Rattle.effects.specs.declared.RoundAnswer.{RoundAnswer}
use Rattle.effects.specs.declared.ClosingAnswer.{ClosingAnswer}

-- how many valuations the sheet has
abbrev pub width : RuleSheet → ℕ
width x = 2 ^ streams x

-- a round's test of a valuation: its letter is in the round's set
abbrev pub heard : RuleSheet → LetterSet → ℕ → Bool
heard x r v = r (letter x v)

-- the set after one round more than t: the first round is known by t = 0
abbrev pub next_set : RuleSheet → Pairs → ℕ → Pairs → (ℕ → Bool) → Pairs
next_set x L zero S r = start_set x L r
next_set x L (suc t) S r = step_set x (width x) L S r

-- the reached set after a round whose letter is in h, from the sets in the storage
abbrev pub after_round : RuleSheet → List ℕ → JournalRecord → LetterSet → Pairs
after_round x s r h = next_set x (live s) r.rounds (reached s) (heard x h)

-- the words that the sets don't take are untouched
pub record Kept (s t : List ℕ) : Type 0 where
  pub same_length : length t ≡ length s
  pub beyond : (k : ℕ) → storage_words ≤ k → get_or t k 0 ≡ get_or s k 0

-- the words from `from` on, below `to`, are 0
abbrev pub Zero : ℕ → ℕ → List ℕ → Type 0
Zero from to t = (k : ℕ) → from ≤ k → k < to → get_or t k 0 ≡ 0

-- Preparation: the live set is the set of all live pairs, the other two are empty, and the numbers returned are that of the live pairs and their
-- exact reach (02, W13).
pub record Prepared (x : RuleSheet) (s t : List ℕ) (a : PrepareAnswer) : Type 0 where
  pub kept : Kept s t
  pub lives : Represents 256 (live t) (Live x)
  pub empty : Zero reached_at storage_words t
  pub count : a.live ≡ count_pairs 256 (live t)
  pub bound : a.live ≤ max_pairs
  pub reach : ExactReach x a.reach
  pub fresh : Fresh a.record

-- A round whose letter is in the set h: the reached set makes one step, each output's verdict is read off it and counted. Of the scratch set the
-- words in use are left empty. Words that the sheet's valuations don't use stay as found: 0, where preparation filled the storage.
pub record RoundDone (x : RuleSheet) (s t : List ℕ) (r : JournalRecord) (h : LetterSet) (a : RoundAnswer) : Type 0 where
  pub kept : Kept s t
  pub same_live : (k : ℕ) → k < reached_at → get_or t k 0 ≡ get_or s k 0
  pub steps : (b : ℕ) (c : Option ℕ) → b < 256 → Within 256 c
      → reached t b c
      ≡ cond (used (width x) b c) (pairs_within (width x) (after_round x s r h) b c) (reached s b c)
  pub cleared : (b : ℕ) (c : Option ℕ) → b < 256 → Within 256 c → scratch t b c ≡ cond (used (width x) b c) false (scratch s b c)
  pub verdicts : Verdicts (outputs x)
      (λ k. pairs_verdict (width x) (after_round x s r h) (output x k)) a.verdicts
  pub rounds : a.record.rounds ≡ r.rounds + 1
  pub closed : a.record.closed ≡ r.closed
  pub counts : Counted (outputs x) a.verdicts r.counts a.record.counts

-- the shares of n outputs in an answer of seven, and 0 for outputs that the sheet doesn't have
pub record Shares (n : ℕ) (r : JournalRecord) (xs : List ℕ) : Type 0 where
  pub size : length xs ≡ 7
  pub each : (k : ℕ) → k < n → get_or xs k 0 ≡ share (count_at r.counts k True) r.rounds
  pub beyond : (k : ℕ) → n ≤ k → get_or xs k 0 ≡ 0

-- A closing: each output's verdict is read off the pairs with the end mark; counts and storage are left alone.
pub record ClosingDone (x : RuleSheet) (s : List ℕ) (r : JournalRecord) (a : ClosingAnswer) : Type 0 where
  pub verdicts : Verdicts (outputs x) (λ k. ends_verdict (width x) (reached s) (output x k)) a.verdicts
  pub shares : Shares (outputs x) r a.shares
  pub rounds : a.record.rounds ≡ r.rounds
  pub closed : a.record.closed ≡ true
  pub counts : a.record.counts ≡ r.counts
