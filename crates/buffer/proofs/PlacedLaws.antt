-- Laws of placing: what the buffer is afterwards, and placing nothing, one byte, or one text after another.
use mathlib.Core.Path.{◌≡◌, sym, ap, ◌∙◌}
use mathlib.Core.List.{List, [], ◌∷◌, ◌++◌, append_assoc}
use Prim.Native.Nat.{ℕ, ◌+◌, ◌-◌, ◌<◌, ◌≤◌}
use native.Mathlib.Nat.{add-sub_of_le}
use native.Mathlib.Omega.{arith}
use native.Mathlib.Numerals.{add-one}
use lib.ListN.{length, take, drop, set, get_or, length-append, length-set, take-append-drop, get_or-append}
use lib.Seq.{take-suc, take-take, take-append-le, take_at, drop_at, drop-drop, length-take-le, get_or-take, get_or-drop, set_split}
use Rattle.buffer.specs.Wrote.{Wrote, Placed}

-- ---- The buffer before, inside and behind what was placed

module _ {d e bs : List ℕ} {at r : ℕ} (p : Placed d at bs e r) where
  front_length : length (take at d) ≡ at
  front_length = length-take-le at d (omega (arith, p.end, p.fits))

  head-length : length (take at d ++ bs) ≡ r
  head-length = rw (length-append, front_length) (omega (arith, p.end))

  head-rest : e ≡ (take at d ++ bs) ++ drop r d
  head-rest = p.whole ∙ sym (append_assoc (take at d) bs (drop r d))

  -- up to the end of it
  pub take-placed : take r e ≡ take at d ++ bs
  take-placed = rw head-rest (take_at (take at d ++ bs) (drop r d) r head-length)

  pub placed-wrote : Wrote d at bs e r
  placed-wrote = record { end = p.end; text = take-placed; size = p.size }

  -- before
  pub take-before : (n : ℕ) → n ≤ at → take n e ≡ take n d
  take-before n h = rw p.whole (take-append-le n (take at d) (bs ++ drop r d) (rw front_length h)) ∙ take-take n at d h

  pub getD-before : (i x : ℕ) → i < at → get_or e i x ≡ get_or d i x
  getD-before i x h = sym (get_or-take at e i x h) ∙ ap (λ (t : List ℕ). get_or t i x) (take-before at (omega arith)) ∙ get_or-take at d i x h

  -- inside
  pub drop-inside : drop at e ≡ bs ++ drop r d
  drop-inside = rw p.whole (drop_at (take at d) (bs ++ drop r d) at front_length)

  pub take-inside : take (length bs) (drop at e) ≡ bs
  take-inside = rw drop-inside (take_at bs (drop r d) (length bs) (omega arith))

  pub getD-inside : (i x : ℕ) → i < length bs → get_or e (at + i) x ≡ get_or bs i x
  getD-inside i x h = sym (get_or-drop at e i x) ∙ ap (λ (t : List ℕ). get_or t i x) drop-inside ∙ get_or-append bs (drop r d) x i h

  -- behind
  drop-end : drop r e ≡ drop r d
  drop-end = rw head-rest (drop_at (take at d ++ bs) (drop r d) r head-length)

  pub drop-behind : (n : ℕ) → r ≤ n → drop n e ≡ drop n d
  drop-behind n h = rw (← add-sub_of_le h, ← drop-drop (n - r) r e, ← drop-drop (n - r) r d, drop-end)

  pub getD-behind : (i x : ℕ) → r ≤ i → get_or e i x ≡ get_or d i x
  getD-behind i x h = rw (← add-sub_of_le h, ← get_or-drop r e (i - r) x, ← get_or-drop r d (i - r) x, drop-end)

-- ---- Placing

pub placed_none : (d : List ℕ) (at : ℕ) → at ≤ length d → Placed d at [] d at
placed_none d at h = record { end = omega arith; fits = h; whole = sym (take-append-drop at d); size = omega arith }

pub placed_byte : (d : List ℕ) (at b : ℕ) → at < length d → Placed d at (b ∷ []) (set d at b) (at + 1)
placed_byte d at b h = record { end = omega arith; fits = omega arith; whole = rw add-one (set_split d at b h); size = length-set d at b }

pub placed_then : {d e f xs ys : List ℕ} {at r q : ℕ} → Placed d at xs e r → Placed e r ys f q → Placed d at (xs ++ ys) f q
placed_then {d} {e} {f} {xs} {ys} {at} {r} {q} v w =
    record {
      end = simp length-append (omega (arith, v.end, w.end));
      fits = omega (arith, w.fits, v.size);
      whole =
          w.whole ∙ ap (λ (t : List ℕ). t ++ (ys ++ drop q e)) (take-placed v) ∙ ap (λ (t : List ℕ). (take at d ++ xs) ++ (ys ++ t)) (drop-behind v q (omega (arith, w.end)))
          ∙ append_assoc (take at d) xs (ys ++ drop q d) ∙ ap (λ (t : List ℕ). take at d ++ t) (sym (append_assoc xs ys (drop q d)));
      size = w.size ∙ v.size;
    }

-- one element more of s
pub placed_next : {d e f : List ℕ} (s : List ℕ) {at to r : ℕ} (i : ℕ) → i < length s
    → Placed d at (take i s) e to → Placed e to (get_or s i 0 ∷ []) f r → Placed d at (take (i + 1) s) f r
placed_next s i h v w = rw (add-one, take-suc s i 0 h) (placed_then v w)
