-- From what a step leaves in the storage to what a round is defined to do.
use mathlib.Core.Path.{◌≡◌, refl, ap, ap₂, ◌∙◌, fun_ext}
use mathlib.Core.Bool.{Bool, false, cond, not, ◌&&◌, ◌||◌, and-false}
use mathlib.Core.List.{List}
use mathlib.Core.Option.{Option, none, some}
use Prim.Native.Nat.{ℕ, zero, suc, ◌+◌, ◌%◌, ◌^◌, ◌<◌, ◌≤◌}
use native.Mathlib.Omega.{arith}
use borrow.Author.Tests.{lt-ltb}
use Rattle.words.specs.Bits.{bit}
use Rattle.words.specs.Below.{any_below}
use Rattle.words.proofs.AnyLaws.{any_cong}
use Rattle.sheet.specs.RuleSheet.{RuleSheet}
use Rattle.sheet.specs.Reading.{rule_sheet}
use Rattle.sheet.specs.declared.Sheet.{Sheet}
use Rattle.sheet.proofs.Sheets.{sheet-outputs}
use Rattle.lola.specs.Equations.{holds}
use Rattle.completions.specs.Live.{Pairs}
use Rattle.completions.specs.Steps.{Within, start_set, step_set, any_next, any_pair, verdict_of, pairs_verdict, pairs_within}
use Rattle.completions.proofs.Range.{wider}
use Rattle.letters.proofs.Lanes.{mod_less}
use Rattle.pairs.specs.Storage.{used, reached}
use Rattle.pairs.proofs.Sets.{used-below}
use Rattle.rounds.specs.Rows.{among}
use Rattle.rounds.specs.Round.{Rounded}
use Rattle.verdicts.specs.Firsts.{Passing}
use Rattle.effects.specs.Results.{width, heard, next_set}

-- ---- the sheet's numbers

pub sheet-width : (x : Sheet) → width (rule_sheet x) ≡ 2 ^ (x.inputs + x.outputs)
sheet-width x = ap (λ (n : ℕ). 2 ^ (x.inputs + n)) (sheet-outputs x)

-- ---- the step that a number of rounds asks for

pub next-first : (x : RuleSheet) (L S : Pairs) (r : ℕ → Bool) (t : ℕ) → t ≡ 0 → next_set x L t S r ≡ start_set x L r
next-first x L S r zero e = refl
next-first x L S r (suc t) e = absurd (omega arith)

pub next-later : (x : RuleSheet) (L S : Pairs) (r : ℕ → Bool) (t : ℕ) → (t ≡ 0 → ⊥) → next_set x L t S r ≡ step_set x (width x) L S r
next-later x L S r zero e = absurd (e refl)
next-later x L S r (suc t) e = refl

-- ---- the letters of a round

-- lanes that repeat the letters of a set hear what the set does
pub heard_as : (x : RuleSheet) (letters lanes : ℕ) → x.inputs ≤ 6 → ((l : ℕ) → l < 64 → bit l lanes ≡ bit (l % 2 ^ x.inputs) letters)
    → among lanes ≡ heard x (λ l. bit l letters)
unfolding among
heard_as x letters lanes h f = fun_ext (λ v. f (v % 64) (omega arith) ∙ ap (λ (l : ℕ). bit l letters) (mod_less x.inputs 6 v h))

-- ---- verdicts read off sets that are the same below w

next_cong : (w : ℕ) (f g : Option ℕ → Bool) → ((c : Option ℕ) → Within w c → f c ≡ g c) → any_next w f ≡ any_next w g
unfolding any_next
next_cong w f g e = ap₂ ◌||◌ (e none tt) (any_cong w (λ b. f (some b)) (λ b. g (some b)) (λ i h. e (some i) h))

pair_cong : (w : ℕ) (S R : Pairs) → ((b : ℕ) (c : Option ℕ) → b < w → Within w c → S b c ≡ R b c) → any_pair w S ≡ any_pair w R
unfolding any_pair
pair_cong w S R e = any_cong w (λ a. any_next w (S a)) (λ a. any_next w (R a)) (λ i h. next_cong w (S i) (R i) (λ c k. e i c h k))

pub pairs_verdict_as : (w : ℕ) (S R : Pairs) (g : ℕ → Bool) → ((b : ℕ) (c : Option ℕ) → b < w → Within w c → S b c ≡ R b c) → pairs_verdict w S g ≡ pairs_verdict w R g
unfolding pairs_verdict
pairs_verdict_as w S R g e =
    ap₂ verdict_of
    (pair_cong w (λ b c. S b c && g b) (λ b c. R b c && g b) (λ b c h k. ap (λ (z : Bool). z && g b) (e b c h k)))
    (pair_cong w (λ b c. S b c && not (g b)) (λ b c. R b c && not (g b)) (λ b c h k. ap (λ (z : Bool). z && not (g b)) (e b c h k)))

-- a set cut down to the valuations below w is the same there
within_same : (w : ℕ) (S : Pairs) (b : ℕ) (c : Option ℕ) → b < w → Within w c → pairs_within w S b c ≡ S b c
within_same w S b none h i = rw (lt-ltb b w h)
within_same w S b (some c) h i = rw (lt-ltb b w h, lt-ltb c w i)

-- and so is a set that is so cut down in the words that w valuations use
pub reached-below : (w : ℕ) (S : Pairs) (l : Bool) (b : ℕ) (c : Option ℕ) → b < w → Within w c → cond (used w b c) (pairs_within w S b c) l ≡ S b c
reached-below w S l b c h i = ap (λ (u : Bool). cond u (pairs_within w S b c) l) (used-below w b c h) ∙ within_same w S b c h i

-- ---- after a round, only what was heard is a first part

next-unheard : (x : RuleSheet) (L : Pairs) (t : ℕ) (S : Pairs) (r : ℕ → Bool) (b : ℕ) (c : Option ℕ) → r b ≡ false → next_set x L t S r b c ≡ false
unfolding start_set step_set
next-unheard x L zero S r b c e = ap (λ (u : Bool). L b c && (u && holds x none b c)) e ∙ and-false (L b c)
next-unheard x L (suc t) S r b c e = ap (λ (u : Bool). L b c && (u && any_below (width x) (λ a. S a (some b) && holds x (some a) b c))) e ∙ and-false (L b c)

pub only-heard : (w : ℕ) (s t : List ℕ) (x : RuleSheet) (L : Pairs) (n : ℕ) (S : Pairs) (r : ℕ → Bool) → w ≤ 256 → Rounded w s t (next_set x L n S r) → Passing w r (reached t)
only-heard w s t x L n S r h d b c hb hc e =
    d.reached b c (omega arith) (wider w 256 h c hc) ∙ reached-below w (next_set x L n S r) (reached s b c) b c hb hc ∙ next-unheard x L n S r b c e
