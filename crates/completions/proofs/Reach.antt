-- The pairs reached after one round, and after one round more: the two rules that a round of the monitor follows.
use mathlib.Core.Path.{◌≡◌, refl, sym, ◌∙◌}
use mathlib.Core.Logic.{◌↔◌}
use mathlib.Core.List.{List, [], ◌∷◌, ◌++◌}
use mathlib.Core.Option.{Option, none, some}
use Prim.Native.Nat.{ℕ, zero, suc, ◌≤◌}
use native.Mathlib.Omega.{arith}
use lib.ListN.{length, get_elem?, take}
use Rattle.sheet.specs.RuleSheet.{RuleSheet}
use Rattle.completions.specs.Live.{Follows, Live}
use Rattle.completions.proofs.Runs.{Round, Agrees, Reached, StartsAt, StepsTo}
use Rattle.completions.proofs.Follow.{first-is, length_snoc, before, at_first, at-later, live_at, graft, agrees_less, agrees-last, agrees-more, spliced-here, spliced-next}

nonempty : (xs : List ℕ) (b : ℕ) (ys : List ℕ) → 1 ≤ length (xs ++ b ∷ ys)
nonempty [] b ys = omega arith
nonempty (x ∷ xs) b ys = omega arith

module _ (s : RuleSheet) (r : Round) {b : ℕ} {c : Option ℕ} where
  first-forth : Reached s (r ∷ []) b c → StartsAt s r b c
  first-forth h = record {
    live = rw (← h.next) (live_at s none h.trace zero h.complete.satisfies h.here);
    matches = agrees-last [] r h.trace h.complete.starts h.here;
    equations = rw (← h.next) (at_first s none h.trace h.complete.satisfies h.here);
  }

  first_back : StartsAt s r b c → Reached s (r ∷ []) b c
  first_back h = record {
    trace = b ∷ h.live.rest;
    complete = record {
      some_round = omega arith;
      satisfies = (h.live.from, rw h.live.starts h.equations, h.live.satisfies);
      starts = (h.matches, tt);
    };
    here = refl;
    next = first-is h.live.rest ∙ h.live.starts;
  }

module _ (s : RuleSheet) (q : Round) (qs : List Round) (r : Round) {b : ℕ} {c : Option ℕ} where
  next-forth : Reached s ((q ∷ qs) ++ r ∷ []) b c → StepsTo s (Reached s (q ∷ qs)) r b c
  next-forth h =
      let vs : List ℕ = h.trace in
      let f : Follows s none vs = h.complete.satisfies in
      let g : Agrees ((q ∷ qs) ++ r ∷ []) vs = h.complete.starts in
      let here : get_elem? vs (suc (length qs)) ≡ some b = rw (length_snoc qs r) at h.here in
      let next : get_elem? vs (suc (suc (length qs))) ≡ c = rw (length_snoc qs r) at h.next in
      let a : (a : ℕ) × (get_elem? vs (length qs) ≡ some a) = before vs (length qs) here in
      record {
        live = rw (← next) (live_at s none vs (suc (length qs)) f here);
        matches = agrees-last (q ∷ qs) r vs g here;
        prev = a.0;
        reached = record {
          trace = vs;
          complete = record { some_round = h.complete.some_round; satisfies = f; starts = agrees_less (q ∷ qs) r vs g };
          here = a.1;
          next = here;
        };
        equations = rw (← next) (at-later s none vs (length qs) f a.1 here);
      }

  next-back : StepsTo s (Reached s (q ∷ qs)) r b c → Reached s ((q ∷ qs) ++ r ∷ []) b c
  next-back h =
      let old : Reached s (q ∷ qs) h.prev (some b) = h.reached in
      let vs : List ℕ = old.trace in
      let ws : List ℕ = h.live.rest in
      let g : Agrees (q ∷ qs) vs = old.complete.starts in
      record {
        trace = take (suc (length qs)) vs ++ b ∷ ws;
        complete = record {
          some_round = nonempty (take (suc (length qs)) vs) b ws;
          satisfies = graft s none vs (length qs) (b ∷ ws) old.complete.satisfies old.here (sym old.next) (h.live.from, rw h.live.starts h.equations, h.live.satisfies);
          starts = agrees-more r b ws (q ∷ qs) vs g h.matches;
        };
        here = rw (length_snoc qs r) (spliced-here b ws (q ∷ qs) vs g);
        next = rw (length_snoc qs r) (spliced-next b ws (q ∷ qs) vs g ∙ h.live.starts);
      }

-- every reached pair is live
pub reached-live : (s : RuleSheet) (q : Round) (qs : List Round) (b : ℕ) (c : Option ℕ) → Reached s (q ∷ qs) b c → Live s b c
reached-live s q qs b c h = rw (← h.next) (live_at s none h.trace (length qs) h.complete.satisfies h.here)

-- After the first round r the reached pairs are the live ones (b, c) where b matches r and satisfies the equations with nothing before it and c after it.
pub first-rule : (s : RuleSheet) (r : Round) (b : ℕ) (c : Option ℕ) → Reached s (r ∷ []) b c ↔ StartsAt s r b c
first-rule s r b c = (first-forth s r, first_back s r)

-- After one round more, r, they are the live ones (b, c) where b matches r and, for some a with (a, b) reached before, satisfies the equations between a and c.
pub next-rule : (s : RuleSheet) (q : Round) (qs : List Round) (r : Round) (b : ℕ) (c : Option ℕ)
    → Reached s ((q ∷ qs) ++ r ∷ []) b c ↔ StepsTo s (Reached s (q ∷ qs)) r b c
next-rule s q qs r b c = (next-forth s q qs r, next-back s q qs r)
