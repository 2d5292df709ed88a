-- Sweeps: places that are refreshed in the order of their keys are right, if those of settled outputs are.
use mathlib.Core.Path.{◌≡◌, refl, sym, ap, ◌∙◌}
use mathlib.Core.Logic.{◌⊎◌, inl, inr, ⊎_elim}
use mathlib.Core.Bool.{Bool, true, false, true≢false}
use mathlib.Core.List.{List}
use Prim.Native.Nat.{ℕ, ◌+◌, ◌*◌, ◌/◌, ◌%◌, ◌≤◌, ◌<◌}
use native.Mathlib.Omega.{arith}
use native.Mathlib.Decide.{dec_lt}
use lib.ListN.{length, get_or}
use Rattle.std.specs.Prelude.{Some, None}
use Rattle.words.specs.Bits.{bit}
use Rattle.words.proofs.BitLaws.{bit-none, bit-all}
use Rattle.circular.specs.Circular.{Read}
use Rattle.circular.specs.Table.{reads_of}
use Rattle.circular.specs.Places.{Assignment, Place, Reads, Solves}
use Rattle.trace.specs.Order.{Bounded, in_sweep, toward, Steady, RoundIn, Listed, Ordered, InSet, Done}
use Rattle.trace.specs.Passes.{values_of, Renewed, RightOn, Extends, Sweeps}
use Rattle.trace.proofs.Passes.{kept-none, kept_then, renewed_or_kept}

module _ (n N : ℕ) (f : Assignment → Assignment) (lead : List ℕ) (up : Bool) where
  -- nothing was refreshed
  pub sweeps-none : (P Q : ℕ → ℕ → ℕ → Type 0) (l : List ℕ) → ((w q u : ℕ) → Place n N q u → Q w q u → P w q u) → Sweeps n N f lead up P Q l l
  sweeps-none P Q l h = record { kept = kept-none n l; right = λ masks w steady local sol good r q u pl x. r q u pl (h w q u pl x) }

  -- one after the other
  pub sweeps-then : (P Q R : ℕ → ℕ → ℕ → Type 0) (old mid new : List ℕ) → Sweeps n N f lead up P Q old mid → Sweeps n N f lead up Q R mid new → Sweeps n N f lead up P R old new
  sweeps-then P Q R old mid new a b =
      record {
        kept = kept_then a.kept b.kept;
        right = λ masks w steady local sol good r. b.right masks w steady local sol good (a.right masks w steady local sol good r);
      }

  -- one place, which reads places of P
  module _ (P : ℕ → ℕ → ℕ → Type 0) (s t : ℕ) (old new : List ℕ) (at : Place n N s t) (one : Renewed n f s t old new)
      (reads : (masks : List (List ℕ)) (w : ℕ) → Steady masks lead n up w → (q u : ℕ) → Read n (reads_of masks) N s t q u → P w q u) where
    fresh : (masks : List (List ℕ)) (w : ℕ) → Steady masks lead n up w → Reads n (reads_of masks) N f → (sol : Assignment) → Solves n N f sol
        → RightOn n N sol (P w) (values_of old) → (q u : ℕ) → (q ≡ s) × (u ≡ t) → values_of new q u ≡ sol q u
    fresh masks w steady local sol good r q u e =
        rw (e.0, e.1)
        (one.value
        ∙ local.only (values_of old) sol s t at
        (λ q u x. r q u (record { s_lt = x.edge.to; t_low = x.u_low; t_high = x.u_high }) (reads masks w steady q u x))
        ∙ sym (good.all s t at))

    sweeps-one : (Q : ℕ → ℕ → ℕ → Type 0) → ((w q u : ℕ) → Place n N q u → Q w q u → P w q u ⊎ ((q ≡ s) × (u ≡ t))) → Sweeps n N f lead up P Q old new
    sweeps-one Q adds =
        record {
          kept = one.kept;
          right = λ masks w steady local sol good r q u pl x.
              let new-right = fresh masks w steady local sol good r q u in
              ⊎_elim (λ y. ⊎_elim new-right (λ e. e ∙ r q u pl y) (renewed_or_kept one q u pl.t_low)) new-right (adds w q u pl x);
        }

-- rounds in a sweep's direction
in_shift : (up : Bool) (N t u o : ℕ) → u + 1 ≡ t + o → t ≤ N → u ≤ N → o ≤ 2 → in_sweep up N u + 1 ≡ in_sweep up N t + toward up o
in_shift true N t u o e h k l = e
in_shift false N t u o e h k l = omega arith

in_same : (up : Bool) (N t u : ℕ) → t ≤ N → u ≤ N → in_sweep up N u ≡ in_sweep up N t → u ≡ t
in_same true N t u h k e = e
in_same false N t u h k e = omega arith

module _ (n N : ℕ) (f : Assignment → Assignment) (lead : List ℕ) (up : Bool) (outputs : List ℕ) (block : ℕ) (order : Ordered lead n outputs) where
  -- output s is the next of the block
  module _ (p s : ℕ) (p-lt : p < length outputs) (is : get_or outputs p 0 ≡ s) where
    below : s < n
    below = rw is at (order.below p p-lt)

    bounded : Bounded lead s
    bounded = rw is at (order.bounded p p-lt)

    -- an output of a smaller key in this block stands before it
    before : (q : ℕ) → q < n → Bounded lead q → get_or lead q 0 % 8 < get_or lead s 0 % 8 → Listed outputs p q
    before q h b l =
        let y = order.all q h b in
        record { p = y.p; inside = go y.p y.inside y.is (dec_lt y.p p); is = y.is }
      where
        go : (r : ℕ) → r < length outputs → get_or outputs r 0 ≡ q → Dec (r < p) → r < p
        go r k e (yes x) = x
        go r k e (no x) = let z : get_or lead s 0 % 8 ≤ get_or lead q 0 % 8 = rw (is, e) at (order.rising p r (omega arith) k) in absurd (omega arith)

    module _ (t : ℕ) (low : 1 ≤ t) (high : t ≤ N) (at : in_sweep up N t + get_or lead s 0 / 8 ≡ block) where
      reads-done : (masks : List (List ℕ)) (w : ℕ) → Steady masks lead n up w → (q u : ℕ) → Read n (reads_of masks) N s t q u → Done lead up N outputs block p w q u
      reads-done masks w steady q u r = go (bit q w) refl
        where
          place : Bounded lead q → 8 * toward up r.o + get_or lead q 0 < 8 + get_or lead s 0 → Dec (in_sweep up N u + get_or lead q 0 / 8 < block)
              → (Bounded lead q × (in_sweep up N u + get_or lead q 0 / 8 < block)) ⊎ ((in_sweep up N u + get_or lead q 0 / 8 ≡ block) × Listed outputs p q)
          place b k (yes x) = inl (b, x)
          place b k (no x) =
              let shift = in_shift up N t u r.o r.shift high r.u_high r.edge.off in
              inr (omega arith, before q r.edge.to b (omega arith))

          go : (z : Bool) → bit q w ≡ z → Done lead up N outputs block p w q u
          go true e = inl e
          go false e =
              let x = (steady.outputs s below).reads q r.o r.edge.to r.edge.off r.edge.is e in
              inr (place (x.bounded bounded) (x.key bounded) (dec_lt (in_sweep up N u + get_or lead q 0 / 8) block))

    -- its places in this block are added
    adds : (w q u : ℕ) → Done lead up N outputs block (p + 1) w q u → Done lead up N outputs block p w q u ⊎ ((q ≡ s) × (in_sweep up N u + get_or lead s 0 / 8 ≡ block))
    adds w q u (inl e) = inl (inl e)
    adds w q u (inr (inl x)) = inl (inr (inl x))
    adds w q u (inr (inr x)) = go (dec_lt x.1.p p)
      where
        go : Dec (x.1.p < p) → Done lead up N outputs block p w q u ⊎ ((q ≡ s) × (in_sweep up N u + get_or lead s 0 / 8 ≡ block))
        go (yes l) = inl (inr (inr (x.0, record { p = x.1.p; inside = l; is = x.1.is })))
        go (no l) =
            let i : x.1.p ≡ p = omega (arith, x.1.inside) in
            let e : q ≡ s = sym x.1.is ∙ ap (λ (z : ℕ). get_or outputs z 0) i ∙ is in
            inr (e, rw e at x.0)

    -- one output more
    pub block-one : (t : ℕ) (old new : List ℕ) → RoundIn block (get_or lead s 0) N up (Some t) → Renewed n f s t old new
        → Sweeps n N f lead up (Done lead up N outputs block p) (Done lead up N outputs block (p + 1)) old new
    block-one t old new r one =
        sweeps-one n N f lead up _ s t old new (record { s_lt = below; t_low = r.0; t_high = r.1 }) one (reads-done t r.0 r.1 r.2) _
        (λ w q u pl d. ⊎_elim inl (λ x. inr (x.0, in_same up N t u r.1 pl.t_high (omega (arith, x.1, r.2)))) (adds w q u d))

    pub block-skip : (l : List ℕ) → RoundIn block (get_or lead s 0) N up None
        → Sweeps n N f lead up (Done lead up N outputs block p) (Done lead up N outputs block (p + 1)) l l
    block-skip l r =
        sweeps-none n N f lead up _ _ l (λ w q u pl d. ⊎_elim (λ x. x) (λ x. absurd (r u pl.t_low pl.t_high x.1)) (adds w q u d))

-- ---- settled outputs

module _ (n N : ℕ) (f : Assignment → Assignment) (masks : List (List ℕ)) where
  pub extends-start : (P : ℕ → ℕ → Type 0) (l : List ℕ) → Extends n N f masks P (InSet 0) l l
  extends-start P l = record { kept = kept-none n l; right = λ local sol good r q u pl e. absurd (true≢false (sym e ∙ bit-none q)) }

  -- all seven outputs are settled
  pub extends-all : (P : ℕ → ℕ → Type 0) (settled : ℕ) (all : Bool) (old new : List ℕ) → n ≤ 7 → (all ≡ true → settled ≡ 127)
      → Extends n N f masks P (InSet settled) old new → Extends n N f masks P (λ q u. all ≡ true) old new
  extends-all P settled all old new h is x =
      record {
        kept = x.kept;
        right = λ local sol good r q u pl e. x.right local sol good r q u pl (ap (bit q) (is e) ∙ bit-all 7 q (omega (arith, pl.s_lt)));
      }
