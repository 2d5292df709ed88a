-- Leads that grow along reads.
use mathlib.Core.Path.{◌≡◌, refl, sym, ap, ◌∙◌}
use mathlib.Core.Logic.{◌⊎◌, inl, inr, ⊎_elim}
use mathlib.Core.Bool.{Bool, true, false, true≢false, ◌&&◌, ◌||◌}
use mathlib.Core.List.{List, [], ◌∷◌}
use Prim.Native.Nat.{ℕ, zero, suc, ◌+◌, ◌*◌, ◌%◌, ◌^◌, ◌≤◌, ◌<◌}
use native.Mathlib.Omega.{arith}
use native.Mathlib.Decide.{dec_lt}
use lib.Bits.{bit_or}
use lib.Dec.{eqb, ltb}
use lib.ListN.{length, get_or}
use borrow.Author.Tests.{eqb-true, ltb-true}
use Rattle.words.specs.Bits.{bit}
use Rattle.words.proofs.BitLaws.{bit-none, bit-or}
use Rattle.words.proofs.Bools.{and_split}
use Rattle.circular.specs.Table.{entry, reads_of}
use Rattle.trace.specs.Order.{Bounded, Behind, BehindAll, Raised, Settled}
use Rattle.trace.proofs.Flips.{bit_mask}

-- ---- one output that is read

pub behind_none : (mask other : ℕ) (up : Bool) (r : ℕ) → mask ≡ 0 → BehindAll mask other up r
behind_none mask other up r e = record { reads = λ o h b. absurd (true≢false (sym b ∙ ap (bit o) e ∙ bit-none o)) }

behind_more : {up : Bool} {o other r x : ℕ} → Behind up o other r → r ≤ x → Behind up o other x
behind_more b h = record { bounded = λ l. b.bounded (omega arith); key = λ l. let k = b.key (omega arith) in omega arith }

-- ---- one output more that is read

module _ (masks : List (List ℕ)) (lead : List ℕ) (up : Bool) (settled s : ℕ) where
  module _ (n r x : ℕ) (old : Raised masks lead n up settled s r) (more : r ≤ x) where
    step : ((o : ℕ) → o ≤ 2 → reads_of masks s n o ≡ true → bit n settled ≡ false → Behind up o (get_or lead n 0) x) → Raised masks lead (n + 1) up settled s x
    step new =
        record { reads = λ q o h l b c. go q o h l b c (dec_lt q n) }
      where
        go : (q o : ℕ) → q < n + 1 → o ≤ 2 → reads_of masks s q o ≡ true → bit q settled ≡ false → Dec (q < n) → Behind up o (get_or lead q 0) x
        go q o h l b c (yes k) = behind_more (old.reads q o k l b c) more
        go q o h l b c (no k) =
            let e : q ≡ n = omega arith in
            rw e (new o l (rw e at b) (rw e at c))

    pub raised-settled : bit n settled ≡ true → Raised masks lead (n + 1) up settled s x
    raised-settled e = step (λ o h b c. absurd (true≢false (sym e ∙ c)))

    pub raised-read : (y : ℕ) → BehindAll (entry masks s n) (get_or lead n 0) up y → y ≤ x → Raised masks lead (n + 1) up settled s x
    unfolding reads_of
    raised-read y a h = step (λ o l b c. behind_more (a.reads o l b) h)

-- ---- all outputs

over : List ℕ → Bool
over [] = true
over (x ∷ l) = ltb 54 x && over l

over_at : (l : List ℕ) → over l ≡ true → (s : ℕ) → s < length l → 54 < get_or l s 0
unfolding over
over_at [] e s h = absurd (omega arith)
over_at (x ∷ l) e zero h = ltb-true 54 x (and_split (ltb 54 x) (over l) e).0
over_at (x ∷ l) e (suc s) h = over_at l (and_split (ltb 54 x) (over l) e).1 s (omega arith)

-- ---- settled outputs

pub settled_more : (lead : List ℕ) (old set s : ℕ) → Settled lead old set → s < 7 → Bounded lead s → Settled lead old (bit_or set (1 * 2 ^ s % 2 ^ 8))
settled_more lead old set s x h b =
    record { all = λ q l e. ⊎_elim (x.all q l) (λ g. let i : q ≡ s = eqb-true q s g in inr (rw i b)) (either (bit q set) (eqb q s) (sym (bits q) ∙ e)) }
  where
    bits : (q : ℕ) → bit q (bit_or set (1 * 2 ^ s % 2 ^ 8)) ≡ (bit q set || eqb q s)
    bits q = bit-or q set (1 * 2 ^ s % 2 ^ 8) ∙ ap (λ (z : Bool). bit q set || z) (bit_mask q s (omega arith))

    either : (a c : Bool) → (a || c) ≡ true → (a ≡ true) ⊎ (c ≡ true)
    either true c e = inl refl
    either false c e = inr e
