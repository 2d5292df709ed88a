-- The exact reach: there is one and no other, it is below the number of live pairs, and no completion needs more further rounds.
use mathlib.Core.Bool.{not}
use mathlib.Core.Logic.{◌⊎◌, inl, inr}
use mathlib.Core.Path.{◌≡◌, refl, sym}
use mathlib.Core.List.{List, [], ◌∷◌, ◌++◌, map}
use mathlib.Core.Option.{Option, none, some}
use Prim.Native.Nat.{ℕ, zero, suc, ◌+◌, ◌^◌, ◌≤◌, ◌<◌}
use native.Mathlib.Decide.{dec_lt}
use native.Mathlib.Omega.{arith}
use lib.Dec.{T}
use lib.ListN.{length, get_elem?, take, length-append, length-take, length-map}
use Rattle.words.proofs.Options.{nothing}
use Rattle.words.proofs.Tests.{and_left, and_right, either, not-both}
use Rattle.sheet.specs.RuleSheet.{RuleSheet, streams}
use Rattle.lola.specs.Equations.{first, letter}
use Rattle.completions.specs.Live.{allowed, Live, ExactReach, Pairs, count_pairs}
use Rattle.completions.specs.Completion.{LetterSet, Completion}
use Rattle.completions.specs.Steps.{any_pair, Represents}
use Rattle.completions.proofs.Runs.{Round, Agrees, Run}
use Rattle.completions.proofs.Search.{pair_found}
use Rattle.completions.proofs.Follow.{live_at, graft, agrees_graft, agrees-some, last-there}
use Rattle.completions.proofs.Backward.{end_set, live_within, layer, Settled, within-found, within-from, all_short, settles, live-short}
use Rattle.completions.proofs.Letters.{on_letter, on_letters, completion-of, run_of}

-- no two numbers are the reach
pub one-reach : (s : RuleSheet) (r r' : ℕ) → ExactReach s r → ExactReach s r' → r ≡ r'
one-reach s r r' p q =
    let a = p.needed in
    let b = q.needed in
    let x = q.enough a.0 a.1 a.2 in
    let y = p.enough b.0 b.1 b.2 in
    omega (arith, a.3 x.0, x.1, b.3 y.0, y.1)

-- behind the end mark there is no list but the empty one
pub end-needs-none : (s : RuleSheet) (a : ℕ) (h : Live s a none) → length h.rest ≡ 0
end-needs-none s a h = go h.rest h.starts
  where
    go : (vs : List ℕ) → first vs ≡ none → length vs ≡ 0
    go [] e = refl
    go (v ∷ vs) e = absurd (nothing (sym e))

-- the pairs that d valuations reach and fewer do not
unfoldable pub fresh : RuleSheet → ℕ → ℕ → Pairs
fresh s w zero = end_set s
fresh s w (suc d) = layer s w d

pub fresh-within : (s : RuleSheet) (w d a : ℕ) (b : Option ℕ) → T (fresh s w d a b) → T (live_within s w d a b)
unfolding fresh live_within layer
fresh-within s w zero a b t = t
fresh-within s w (suc d) a b t = and_left (live_within s w (suc d) a b) (not (live_within s w d a b)) t

module _ (s : RuleSheet) (w : ℕ) (small : 2 ^ streams s ≤ w) where
  -- no shorter list makes such a pair live
  least : (d a : ℕ) (b : Option ℕ) → T (fresh s w d a b) → (h : Live s a b) → d ≤ length h.rest
  unfolding fresh layer
  least zero a b t h = omega arith
  least (suc d) a b t h = go (dec_lt d (length h.rest))
    where
      go : Dec (d < length h.rest) → suc d ≤ length h.rest
      go (yes l) = omega arith
      go (no n) =
          absurd (not-both (live_within s w d a b) (within-from s w small d a b (h, omega arith)) (and_right (live_within s w (suc d) a b) (not (live_within s w d a b)) t))

  -- the last layer that has a pair is the reach
  pub reach-is : (d : ℕ) → Settled s w d → (a : ℕ) (b : Option ℕ) → T (fresh s w d a b) → ExactReach s d
  reach-is d settled a b t = record {
    enough = λ a b h. let x = all_short s w small d settled a b h in (x.0, omega (arith, x.1));
    needed = (a, b, (within-found s w d a b (fresh-within s w d a b t)).0, least d a b t);
  }

  last-layer : (a : ℕ) → T (allowed s a) → (d : ℕ) → Settled s w d → (r : ℕ) × ExactReach s r
  unfolding fresh end_set
  last-layer a ok zero settled = (0, reach-is 0 settled a none ok)
  last-layer a ok (suc d) settled = go (either (any_pair w (layer s w d))) (last-layer a ok d)
    where
      go : T (any_pair w (layer s w d)) ⊎ T (not (any_pair w (layer s w d))) → (Settled s w d → (r : ℕ) × ExactReach s r) → (r : ℕ) × ExactReach s r
      go (inl t) lower = let x = pair_found w (layer s w d) t in (suc d, reach-is (suc d) settled x.0 x.1 x.4)
      go (inr n) lower = lower n

  -- a sheet that allows some valuation has a reach
  pub some-reach : (a : ℕ) → T (allowed s a) → (r : ℕ) × ExactReach s r
  some-reach a ok = let x = settles s w small in last-layer a ok x.0 x.1.0

  -- the reach is below the number of live pairs
  pub reach-below : (L : Pairs) → Represents w L (Live s) → (r : ℕ) → ExactReach s r → r < count_pairs w L
  reach-below L live r p =
      let a = p.needed in
      let x = live-short s w small L live a.0 a.1 a.2 in
      omega (arith, a.3 x.0, x.1)

-- the pair at the last of the rounds in a run
at_last : (s : RuleSheet) (q : Round) (qs : List Round) (vs : List ℕ) → Run s (q ∷ qs) vs → (b : ℕ) × (get_elem? vs (length qs) ≡ some b) × Live s b (get_elem? vs (suc (length qs)))
at_last s q qs vs done = let b = last-there q qs vs done.starts in (b.0, b.1, live_at s none vs (length qs) done.satisfies b.1)

-- rounds, one or more, that can be run on can be run on with at most as many further rounds as the reach
run_within : (s : RuleSheet) (r : ℕ) → ExactReach s r → (q : Round) (qs : List Round) (vs : List ℕ) → Run s (q ∷ qs) vs
    → (ws : List ℕ) × Run s (q ∷ qs) ws × (length ws ≤ length (q ∷ qs) + r)
run_within s r p q qs vs done =
    let b = at_last s q qs vs done in
    let x = p.enough b.0 (get_elem? vs (suc (length qs))) b.2 in
    let ws : List ℕ = take (suc (length qs)) vs ++ x.0.rest in
    let g : Agrees (q ∷ qs) ws = agrees_graft (q ∷ qs) vs x.0.rest done.starts in (
      ws,
      record {
        some_round = agrees-some q qs ws g;
        satisfies = graft s none vs (length qs) x.0.rest done.satisfies b.1 x.0.starts x.0.satisfies;
        starts = g;
      },
      omega (arith, x.1, length-append (take (suc (length qs)) vs) x.0.rest, length-take (suc (length qs)) vs),
    )

module _ (s : RuleSheet) (q : LetterSet) (qs : List LetterSet) (ls : List ℕ) (c : Completion s (q ∷ qs) ls) where
  pub completed-within : (r : ℕ) → ExactReach s r → (ms : List ℕ) × Completion s (q ∷ qs) ms × (length ms ≤ length (q ∷ qs) + r)
  completed-within r p =
      let z = run_within s r p (on_letter s q) (on_letters s qs) c.trace (run_of s (q ∷ qs) ls c) in
      (map (letter s) z.0, completion-of s (q ∷ qs) z.0 z.1, omega (arith, z.2, length-map z.0 (letter s), length-map qs (on_letter s)))

  -- a sheet with a completion has a reach
  pub reach_of : (w : ℕ) → 2 ^ streams s ≤ w → (r : ℕ) × ExactReach s r
  reach_of w small =
      let b = at_last s (on_letter s q) (on_letters s qs) c.trace (run_of s (q ∷ qs) ls c) in
      some-reach s w small b.0 b.2.from
