-- The order of a sweep, found entry by entry.
use mathlib.Core.Path.{◌≡◌, ◌∙◌}
use mathlib.Core.List.{List, [], ◌∷◌, ◌++◌}
use Prim.Native.Nat.{ℕ, ◌+◌, ◌*◌, ◌%◌, ◌≤◌, ◌<◌}
use native.Mathlib.Omega.{arith}
use native.Mathlib.Decide.{dec_lt}
use lib.ListN.{length, get_or, length-append, get_or-append}
use lib.Seq.{get_or-append_seam}
use borrow.Author.Count.{below_more}
use Rattle.trace.specs.Order.{Bounded, Due, Listed}

-- the outputs s with 7 * place + s below i are listed
pub record Listing (lead : List ℕ) (n i : ℕ) (outputs : List ℕ) : Type 0 where
  pub few : length outputs ≤ i
  pub below : (p : ℕ) → p < length outputs → get_or outputs p 0 < n
  pub bounded : (p : ℕ) → p < length outputs → Bounded lead (get_or outputs p 0)
  pub before : (p : ℕ) → p < length outputs → 7 * (get_or lead (get_or outputs p 0) 0 % 8) + get_or outputs p 0 < i
  pub rising : (p r : ℕ) → p ≤ r → r < length outputs → get_or lead (get_or outputs p 0) 0 % 8 ≤ get_or lead (get_or outputs r 0) 0 % 8
  pub all : (s : ℕ) → s < n → Bounded lead s → 7 * (get_or lead s 0 % 8) + s < i → Listed outputs (length outputs) s

module _ (lead : List ℕ) (n : ℕ) (outputs : List ℕ) (n-le : n ≤ 7) where
  module _ (place s : ℕ) (s-lt : s < n) (l : Listing lead n (7 * place + s) outputs) where
    -- output s is not due
    pub listing-skip : (Due (get_or lead s 0) place → ⊥) → Listing lead n (7 * place + (s + 1)) outputs
    listing-skip no_due =
        record {
          few = omega (arith, l.few);
          below = l.below;
          bounded = l.bounded;
          before = λ p h. omega (arith, l.before p h);
          rising = l.rising;
          all = λ q h b k. go q h b k (dec_lt (7 * (get_or lead q 0 % 8) + q) (7 * place + s));
        }
      where
        go : (q : ℕ) → q < n → Bounded lead q → 7 * (get_or lead q 0 % 8) + q < 7 * place + (s + 1) → Dec (7 * (get_or lead q 0 % 8) + q < 7 * place + s) → Listed outputs (length outputs) q
        go q h b k (yes x) = l.all q h b x
        go q h b k (no x) =
            let e : s ≡ q = omega arith in
            absurd (no_due (record { bounded = rw e b; at = rw e (omega arith) }))

    -- output s is due
    module _ (due : Due (get_or lead s 0) place) where
      new : List ℕ
      new = outputs ++ s ∷ []

      one-more : length new ≡ length outputs + 1
      unfolding new
      one-more = length-append outputs (s ∷ [])

      last : get_or new (length outputs) 0 ≡ s
      unfolding new
      last = get_or-append_seam outputs s [] 0

      kept : (p : ℕ) → p < length outputs → get_or new p 0 ≡ get_or outputs p 0
      unfolding new
      kept p h = get_or-append outputs (s ∷ []) 0 p h

      -- a fact of the entries before and of the new one
      each : (P : ℕ → Type 0) → ((p : ℕ) → p < length outputs → P (get_or outputs p 0)) → P s → (p : ℕ) → p < length new → P (get_or new p 0)
      each P f x p h = below_more (λ (q : ℕ). P (get_or new q 0)) (length outputs) (λ q l. rw (kept q l) (f q l)) (rw last x) p (rw one-more at h)

      pub listing-push : Listing lead n (7 * place + (s + 1)) (outputs ++ s ∷ [])
      unfolding new
      listing-push =
          record {
            few = omega (arith, one-more, l.few);
            below = each (λ q. q < n) l.below s-lt;
            bounded = each (λ q. Bounded lead q) l.bounded due.bounded;
            before = each (λ q. 7 * (get_or lead q 0 % 8) + q < 7 * place + (s + 1)) (λ p h. omega (arith, l.before p h)) (omega (arith, due.at));
            rising = λ p r h k. go p r h k (dec_lt r (length outputs)) (dec_lt p (length outputs));
            all = λ q h b k. found q h b k (dec_lt (7 * (get_or lead q 0 % 8) + q) (7 * place + s));
          }
        where
          go : (p r : ℕ) → p ≤ r → r < length new → Dec (r < length outputs) → Dec (p < length outputs) → get_or lead (get_or new p 0) 0 % 8 ≤ get_or lead (get_or new r 0) 0 % 8
          go p r h k (yes x) y = let z : p < length outputs = omega arith in rw (kept p z, kept r x) (l.rising p r h x)
          go p r h k (no x) (yes y) =
              let e : r ≡ length outputs = omega (arith, one-more) in
              rw (kept p y, e, last) (omega (arith, l.before p y, l.below p y, due.at))
          go p r h k (no x) (no y) =
              let e : r ≡ length outputs = omega (arith, one-more) in
              let g : p ≡ length outputs = omega (arith, one-more) in
              rw (e, g) (omega arith)

          found : (q : ℕ) → q < n → Bounded lead q → 7 * (get_or lead q 0 % 8) + q < 7 * place + (s + 1) → Dec (7 * (get_or lead q 0 % 8) + q < 7 * place + s) → Listed new (length new) q
          found q h b k (yes x) =
              let y = l.all q h b x in
              record { p = y.p; inside = omega (arith, one-more, y.inside); is = kept y.p y.inside ∙ y.is }
          found q h b k (no x) = record { p = length outputs; inside = omega (arith, one-more); is = last ∙ omega (arith, due.at) }
