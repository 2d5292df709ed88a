-- The steps of the monitor on sets of pairs, and the verdicts read off a set. On the sets that preparation made they give the verdicts
-- over completions; on any other sets they say what the entries do with them (01, "Completions and verdicts").
-- Manual: "Completions and verdicts".
use Rattle.std.specs.Prelude.{Bool, true, false, not, ◌&&◌, ◌||◌, ◌↔◌, ℕ, ◌<◌, T, ltb}
use Rattle.std.proofs.Math.Option.{Option, none, some}
use Rattle.outcomes.specs.declared.Verdict.{Verdict}
use Rattle.outcomes.specs.declared.Verdict.TheVariants.{False, True, Open, Broken}
use Rattle.words.specs.Below.{any_below}
use Rattle.sheet.specs.RuleSheet.{RuleSheet}
use Rattle.lola.specs.Equations.{holds}
use Rattle.completions.specs.Live.{Pairs}

-- the end mark, or a valuation below w
abbrev pub Within : ℕ → Option ℕ → Type 0
Within w none = Unit {0}
Within w (some c) = c < w

-- the same as a test
abbrev pub part_below : ℕ → Option ℕ → Bool
part_below w none = true
part_below w (some c) = ltb c w

-- the pairs of valuations below w that are in the set
abbrev pub pairs_within : ℕ → Pairs → Pairs
pairs_within w S b c = ltb b w && (part_below w c && S b c)

-- the set S holds exactly the pairs of R, among the pairs below w
abbrev pub Represents : ℕ → Pairs → (ℕ → Option ℕ → Type 0) → Type 0
Represents w S R = (b : ℕ) (c : Option ℕ) → b < w → Within w c → T (S b c) ↔ R b c

-- the end mark or some number below w passes the test
unfoldable pub any_next : ℕ → (Option ℕ → Bool) → Bool
any_next w f = f none || any_below w (λ b. f (some b))

-- some pair passes the test
unfoldable pub any_pair : ℕ → Pairs → Bool
any_pair w f = any_below w (λ a. any_next w (f a))

-- the set after the first round, from the live set L; r is the test of the round's valuation
unfoldable pub start_set : RuleSheet → Pairs → (ℕ → Bool) → Pairs
start_set x L r b c = L b c && (r b && holds x none b c)

-- the set after one round more, from the live set L and the set S before
unfoldable pub step_set : RuleSheet → ℕ → Pairs → Pairs → (ℕ → Bool) → Pairs
step_set x w L S r b c = L b c && (r b && any_below w (λ a. S a (some b) && holds x (some a) b c))

-- the verdict, from whether the test passes somewhere and whether it fails somewhere
abbrev pub verdict_of : Bool → Bool → Verdict
verdict_of true true = Open
verdict_of true false = True
verdict_of false true = False
verdict_of false false = Broken

-- the verdict on a test of the pairs' first part
unfoldable pub pairs_verdict : ℕ → Pairs → (ℕ → Bool) → Verdict
pairs_verdict w S g = verdict_of (any_pair w (λ b c. S b c && g b)) (any_pair w (λ b c. S b c && not (g b)))

-- the same from the pairs with the end mark only
unfoldable pub ends_verdict : ℕ → Pairs → (ℕ → Bool) → Verdict
ends_verdict w S g = verdict_of (any_below w (λ b. S b none && g b)) (any_below w (λ b. S b none && not (g b)))
