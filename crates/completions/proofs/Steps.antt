-- The monitor's steps on sets keep exactly the reached pairs, whatever the list of rounds.
use mathlib.Core.Bool.{Bool, ◌&&◌}
use mathlib.Core.List.{List, [], ◌∷◌, ◌++◌}
use mathlib.Core.Option.{none, some}
use Prim.Native.Nat.{ℕ, ◌^◌, ◌≤◌, ◌<◌}
use lib.Dec.{T}
use Rattle.words.specs.Below.{any_below}
use Rattle.words.proofs.Tests.{and_left, and_right, and_both}
use Rattle.sheet.specs.RuleSheet.{RuleSheet, streams}
use Rattle.lola.specs.Equations.{holds}
use Rattle.completions.specs.Live.{Live, Pairs}
use Rattle.completions.specs.Steps.{Represents, start_set, step_set}
use Rattle.completions.proofs.Runs.{Round, Reached, StartsAt, StepsTo}
use Rattle.completions.proofs.Range.{live-within}
use Rattle.completions.proofs.Reach.{reached-live, first-rule, next-rule}
use Rattle.completions.proofs.Search.{any_found, any_from}

module _ (s : RuleSheet) (w : ℕ) (small : 2 ^ streams s ≤ w) (L : Pairs) (live : Represents w L (Live s)) where
  pub start-exact : (r : Round) → Represents w (start_set s L r) (Reached s (r ∷ []))
  unfolding start_set
  start-exact r b c hb hc = (forth, back)
    where
      forth : T (L b c && (r b && holds s none b c)) → Reached s (r ∷ []) b c
      forth t =
          let u : T (r b && holds s none b c) = and_right (L b c) (r b && holds s none b c) t in
          (first-rule s r b c).1 (record {
            live = (live b c hb hc).0 (and_left (L b c) (r b && holds s none b c) t);
            matches = and_left (r b) (holds s none b c) u;
            equations = and_right (r b) (holds s none b c) u;
          })

      back : Reached s (r ∷ []) b c → T (L b c && (r b && holds s none b c))
      back h =
          let x : StartsAt s r b c = (first-rule s r b c).0 h in
          and_both (L b c) (r b && holds s none b c) ((live b c hb hc).1 x.live) (and_both (r b) (holds s none b c) x.matches x.equations)

  pub step-exact : (S : Pairs) (q : Round) (qs : List Round) → Represents w S (Reached s (q ∷ qs)) → (r : Round)
      → Represents w (step_set s w L S r) (Reached s ((q ∷ qs) ++ r ∷ []))
  unfolding step_set
  step-exact S q qs exact r b c hb hc = (forth, back)
    where
      from : ℕ → Bool
      from a = S a (some b) && holds s (some a) b c

      forth : T (L b c && (r b && any_below w (λ a. S a (some b) && holds s (some a) b c))) → Reached s ((q ∷ qs) ++ r ∷ []) b c
      forth t =
          let u : T (r b && any_below w from) = and_right (L b c) (r b && any_below w from) t in
          let x : (a : ℕ) × (a < w) × T (S a (some b) && holds s (some a) b c) = any_found w from (and_right (r b) (any_below w from) u) in
          (next-rule s q qs r b c).1 (record {
            live = (live b c hb hc).0 (and_left (L b c) (r b && any_below w from) t);
            matches = and_left (r b) (any_below w from) u;
            prev = x.0;
            reached = (exact x.0 (some b) x.1 hb).0 (and_left (S x.0 (some b)) (holds s (some x.0) b c) x.2);
            equations = and_right (S x.0 (some b)) (holds s (some x.0) b c) x.2;
          })

      back : Reached s ((q ∷ qs) ++ r ∷ []) b c → T (L b c && (r b && any_below w (λ a. S a (some b) && holds s (some a) b c)))
      back h =
          let x : StepsTo s (Reached s (q ∷ qs)) r b c = (next-rule s q qs r b c).0 h in
          let l : x.prev < w = (live-within s w small x.prev (some b) (reached-live s q qs x.prev (some b) x.reached)).0 in
          and_both (L b c) (r b && any_below w from) ((live b c hb hc).1 x.live)
          (and_both (r b) (any_below w from) x.matches
          (any_from w from x.prev l (and_both (S x.prev (some b)) (holds s (some x.prev) b c) ((exact x.prev (some b) l hb).1 x.reached) x.equations)))
