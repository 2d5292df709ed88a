-- Proofs of the further sentences.
use mathlib.Core.Path.{◌≡◌, refl, subst}
use mathlib.Core.List.{List, [], ◌∷◌, ◌++◌}
use Prim.Native.Nat.{ℕ, ◌≤◌}
use native.Mathlib.Omega.{arith}
use lib.Dec.{T}
use lib.ListN.{length}
use Rattle.sheet.specs.RuleSheet.{RuleSheet, outputs, streams, accepted, read_sheet}
use Rattle.sheet.proofs.Formed.{assumed-of, read_formed}
use Rattle.lola.specs.Equations.{output}
use Rattle.record.proofs.Tallies.{RecordOk, record_is}
use Rattle.completions.specs.Live.{allowed, Live, Pairs}
use Rattle.completions.specs.Completion.{LetterSet, Match, Completion, Closing}
use Rattle.completions.specs.Judged.{Judged, in_round, RoundVerdict, ClosingVerdict}
use Rattle.completions.specs.Steps.{Represents}
use Rattle.completions.proofs.Verdicts.{one-verdict}
use Rattle.completions.proofs.Backward.{live_within, settled-exact, settles, small_256}
use Rattle.completions.proofs.Range.{wider, some-allowed}
use Rattle.completions.proofs.ExactReach.{one-reach, end-needs-none, some-reach, reach-below, completed-within, reach_of}
use Rattle.pairs.specs.Storage.{live}
use Rattle.effects.specs.Results.{width}
use Rattle.monitor.specs.Entries.{Prepares}
use Rattle.claims.specs.Further.{LiveSet, OneVerdict, SomeVerdict, StaysBroken, OneReach, SomeReach, EndNeedsNone, ReachBelow, WithinReach, ShortCompletion, StaysInOrder}
use Rattle.claims.proofs.BookLaws.{reached-by, reaches-round, reaches-closing}
use Rattle.claims.proofs.ThirdDemand.{began, after-calls}

pub one-verdict-fits : OneVerdict
unfolding RoundVerdict ClosingVerdict
one-verdict-fits x rs k v w = (
  one-verdict (Completion x rs) (λ ls c. in_round (length rs) (output x k) c.trace) v w,
  one-verdict (Closing x rs) (λ ls c. in_round (length rs) (output x k) c.complete.trace) v w,
)

pub live-set : LiveSet
live-set x few =
    let z = settles x 256 (small_256 x few) in
    (live_within x 256 z.0, settled-exact x 256 (small_256 x few) z.0 z.1.0)

-- below the sheet's valuations
pub own_set : (x : RuleSheet) → streams x ≤ 8 → (L : Pairs) × Represents (width x) L (Live x)
own_set x few =
    let small : width x ≤ 256 = small_256 x few in
    let (L, h) = live-set x few in
    (L, λ b c hb hc. h b c (omega arith) (wider (width x) 256 small c hc))

pub some-verdict-fits : SomeVerdict
some-verdict-fits x few r rs k =
    let (L, own) = own_set x few in
    let z = reached-by x L own (r ∷ rs) in
    ((_, reaches-round x L own r rs z.0 z.1 k), (_, reaches-closing x L own r rs z.0 z.1 k))

match_less : (rs : List LetterSet) (r : LetterSet) (ls : List ℕ) → Match (rs ++ r ∷ []) ls → Match rs ls
match_less [] r ls g = tt
match_less (q ∷ rs) r [] g = g
match_less (q ∷ rs) r (l ∷ ls) g = (g.0, match_less rs r ls g.1)

-- a completion of one round more is one of those before it
pub completes_less : (x : RuleSheet) (rs : List LetterSet) (r : LetterSet) (ls : List ℕ) → Completion x (rs ++ r ∷ []) ls → Completion x rs ls
completes_less x rs r ls c =
    record { some_round = c.some_round; letters = c.letters; starts = match_less rs r ls c.starts; trace = c.trace; of = c.of; satisfies = c.satisfies; keeps = c.keeps }

pub stays_broken : StaysBroken
unfolding RoundVerdict Judged
stays_broken x rs r k j h ls c = h ls (completes_less x rs r ls c)

-- ---- the exact reach

valuation : (bs : List ℕ) (x : RuleSheet) → read_sheet bs ≡ accepted x → (a : ℕ) × T (allowed x a)
valuation bs x e = let (a, f, b) = assumed-of bs x e in some-allowed x a f b

pub one_exact_reach : OneReach
one_exact_reach = one-reach

pub some_exact_reach : SomeReach
some_exact_reach bs x e = let v = valuation bs x e in some-reach x 256 (small_256 x (read_formed bs x e).ranges.streams) v.0 v.1

pub end_mark : EndNeedsNone
end_mark = record {
  no_round = λ x a h. omega (arith, end-needs-none x a h);
  some_end = λ bs x e. let v = valuation bs x e in (v.0, record { from = v.1; rest = []; starts = refl; satisfies = tt });
}

pub reach-bounded : ReachBelow
reach-bounded = record {
  of_sheet = λ x few. reach-below x 256 (small_256 x few);
  answered = λ bs s t a z o.
      let (x, e, d) = subst (Prepares bs s t a) o z.result in
      omega (arith, d.count, reach-below x 256 (small_256 x (read_formed bs x e).ranges.streams) (live t) d.lives a.reach d.reach);
}

pub within-reach : WithinReach
within-reach x n p r rs ls c = let z = completed-within x r rs ls c n p in (z.0, z.1, omega (arith, z.2))

-- so the older bound holds
pub short_completion : ShortCompletion
short_completion x few L live r rs ls c =
    let (n, p) = reach_of x r rs ls c 256 (small_256 x few) in
    let z = within-reach x n p r rs ls c in
    (z.0, z.1, omega (arith, z.2, reach-bounded.of_sheet x few L live n p))

pub stays_in_order : StaysInOrder
stays_in_order bs s t p z o cs as' h run =
    let b = began bs s t p z o in
    let e = after-calls bs s t p z o cs as' h run in
    let right : RecordOk (outputs b.sheet) h.record = record_is (outputs b.sheet) h.record e.tracks.right in
    (b.sheet, b.ok.reads, record { sums = right.sums; few = right.few; long = e.tracks.lent })
