-- What the words in front of the storage come to, said of the storage.
use Rattle.std.proofs.Common.{◌≡◌, Bool, false, cond, not, ◌&&◌, sym, ap, ap₂, subst, ◌∙◌, ◌↔◌, T, List, ◌++◌, ℕ, zero, suc, ◌+◌, ◌*◌, ◌^◌, ◌≤◌, ◌<◌, drop, ltb, arith}
use Rattle.std.proofs.Math.Option.{Option, none, some}
use lib.Pow.{pow_mono}
use Rattle.words.specs.Bits.{bit}
use Rattle.words.specs.Below.{any_below}
use Rattle.words.proofs.AnyLaws.{any_cong}
use Rattle.sheet.specs.RuleSheet.{RuleSheet}
use Rattle.lola.specs.Equations.{holds}
use Rattle.completions.specs.Live.{Pairs, Live, ExactReach}
use Rattle.completions.proofs.Count.{pairs_same}
use Rattle.completions.proofs.Range.{wider}
use Rattle.completions.specs.Steps.{Within, part_below, start_set, step_set, pairs_within, verdict_of, pairs_verdict, ends_verdict}
use Rattle.pairs.specs.Storage.{used, stored, live, reached, scratch, reached_at, scratch_at, set_words, storage_words}
use Rattle.pairs.proofs.Front.{front, front-at, front-stored, Lent, front-framed}
use Rattle.rounds.specs.Round.{Rounded}
use Rattle.outcomes.specs.Numbers.{Verdicts}
use Rattle.outcomes.specs.declared.Verdict.{Verdict}
use Rattle.verdicts.proofs.VerdictLaws.{verdicts_as}
use Rattle.preparation.specs.Searched.{Searched}
use Rattle.record.specs.Record.{Fresh}
use Rattle.effects.specs.Results.{width, next_set, Prepared}
use Rattle.effects.specs.declared.PrepareAnswer.{PrepareAnswer}
use Rattle.effects.proofs.Rounding.{pairs_verdict_as}

pub front-live : (s : List ℕ) (b : ℕ) (c : Option ℕ) → b < 256 → Within 256 c → live (front s) b c ≡ live s b c
front-live s b c h w = front-stored s 0 b c (omega arith) h w

pub front-reached : (s : List ℕ) (b : ℕ) (c : Option ℕ) → b < 256 → Within 256 c → reached (front s) b c ≡ reached s b c
front-reached s b c h w = front-stored s reached_at b c (omega arith) h w

front-scratch : (s : List ℕ) (b : ℕ) (c : Option ℕ) → b < 256 → Within 256 c → scratch (front s) b c ≡ scratch s b c
front-scratch s b c h w = front-stored s scratch_at b c (omega arith) h w

-- the step takes no pair from elsewhere
next-front : (x : RuleSheet) (s : List ℕ) (t : ℕ) (r : ℕ → Bool) → width x ≤ 256 → (b : ℕ) (c : Option ℕ) → b < 256 → Within 256 c
    → next_set x (live (front s)) t (reached (front s)) r b c ≡ next_set x (live s) t (reached s) r b c
unfolding start_set step_set
next-front x s zero r h b c l w = ap (λ (u : Bool). u && (r b && holds x none b c)) (front-live s b c l w)
next-front x s (suc t) r h b c l w =
    ap₂ (λ (u v : Bool). u && (r b && v)) (front-live s b c l w)
    (any_cong (width x) _ _ (λ a k. ap (λ (u : Bool). u && holds x (some a) b c) (front-reached s a (some b) (omega arith) l)))

-- a round
pub rounded-front : (v : ℕ) (x : RuleSheet) (s t : List ℕ) (n : ℕ) (r : ℕ → Bool) → width x ≤ 256 → Lent s t
    → Rounded v (front s) (front t) (next_set x (live (front s)) n (reached (front s)) r) → Rounded v s t (next_set x (live s) n (reached s) r)
rounded-front v x s t n r h l d = record {
  frame = front-framed reached_at (2 * set_words) s t l (omega arith) d.frame;
  reached = λ b c k w.
      sym (front-reached t b c k w) ∙ d.reached b c k w
      ∙ ap₂ (cond (used v b c)) (ap (λ (u : Bool). ltb b v && (part_below v c && u)) (next-front x s n r h b c k w)) (front-reached s b c k w);
  scratch = λ b c k w. sym (front-scratch t b c k w) ∙ d.scratch b c k w ∙ ap (cond (used v b c) false) (front-scratch s b c k w);
}

-- ---- verdicts

module _ (w : ℕ) (h : w ≤ 256) (s : List ℕ) (g : ℕ → Bool) where
  ends-front : ends_verdict w (reached (front s)) g ≡ ends_verdict w (reached s) g
  unfolding ends_verdict
  ends-front =
      ap₂ verdict_of
      (any_cong w _ _ (λ b k. ap (λ (u : Bool). u && g b) (front-reached s b none (omega arith) tt)))
      (any_cong w _ _ (λ b k. ap (λ (u : Bool). u && not (g b)) (front-reached s b none (omega arith) tt)))

  pub pairs-front : pairs_verdict w (reached (front s)) g ≡ pairs_verdict w (reached s) g
  pairs-front = pairs_verdict_as w (reached (front s)) (reached s) g (λ b c k l. front-reached s b c (omega arith) (wider w 256 h c l))

pub valuations : (m n : ℕ) → m + n ≤ 8 → 2 ^ (m + n) ≤ 256
valuations m n h = let g : 2 ^ (m + n) ≤ 2 ^ 8 = pow_mono h in omega arith

pub closings-front : (m n : ℕ) (s : List ℕ) (vs : List Verdict) → m + n ≤ 8
    → Verdicts n (λ k. ends_verdict (2 ^ (m + n)) (reached (front s)) (bit (m + k))) vs → Verdicts n (λ k. ends_verdict (2 ^ (m + n)) (reached s) (bit (m + k))) vs
closings-front m n s vs h v = verdicts_as n _ _ vs (λ k l. ends-front (2 ^ (m + n)) (valuations m n h) s (bit (m + k))) v

pub rounds-front : (m n : ℕ) (s : List ℕ) (vs : List Verdict) → m + n ≤ 8
    → Verdicts n (λ k. pairs_verdict (2 ^ (m + n)) (reached (front s)) (bit (m + k))) vs → Verdicts n (λ k. pairs_verdict (2 ^ (m + n)) (reached s) (bit (m + k))) vs
rounds-front m n s vs h v = verdicts_as n _ _ vs (λ k l. pairs-front (2 ^ (m + n)) (valuations m n h) s (bit (m + k))) v

-- ---- preparation

pub prepared-by : (x : RuleSheet) (s t : List ℕ) (a : PrepareAnswer) (count : ℕ) → Searched x s t count
    → a.live ≡ count → ExactReach x a.reach → Fresh a.record → Prepared x s t a
prepared-by x s t a count d e r f = record {
  kept = record { same_length = d.frame.same_length; beyond = d.frame.beyond };
  lives = d.live;
  empty = d.cleared;
  count = e ∙ d.counted;
  bound = omega (arith, e, d.bound);
  reach = r;
  fresh = f;
}
