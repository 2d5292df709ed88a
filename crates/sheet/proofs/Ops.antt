-- The meaning of an expression byte, range by range, and by cases.
use Rattle.std.specs.Prelude.{Ok, Err}
use mathlib.Core.Path.{◌≡◌, refl, sym, ap, ◌∙◌}
use mathlib.Core.Bool.{Bool, true, false, cond, and-false}
use Prim.Native.Nat.{ℕ, ◌+◌, ◌%◌, ◌≤◌, ◌<◌}
use native.Mathlib.Omega.{arith}
use lib.Dec.{eqb, leb}
use borrow.Author.Tests.{le-leb, lt-leb, ne_eqb, leb-true, eqb-true}
use Rattle.outcomes.specs.declared.Refusal.TheVariants.{Byte}
use Rattle.words.proofs.Bools.{and_split}
use Rattle.sheet.specs.Bytes.{op_of, read_of, reads_of, within, Decoded}
use Rattle.sheet.specs.declared.Op.TheVariants.{Const, Not, And, Or, Equal, Read}
use Rattle.sheet.specs.declared.Offset.{Offset}
use Rattle.sheet.specs.declared.Offset.TheVariants.{Earlier, Now, Later}

-- a test that fails since the byte is above the number
pub over : (b k : ℕ) → k < b → eqb b k ≡ false
over b k h = ne_eqb b k (λ e. omega arith)

pub inside : (lo hi b : ℕ) → lo ≤ b → b ≤ hi → within lo hi b ≡ true
inside lo hi b h k = simp (le-leb lo b h, le-leb b hi k)

under_range : (lo hi b : ℕ) → b < lo → within lo hi b ≡ false
under_range lo hi b h = simp (lt-leb lo b h)

over_range : (lo hi b : ℕ) → hi < b → within lo hi b ≡ false
over_range lo hi b h = simp (lt-leb b hi h, and-false)

past_keys : (b : ℕ) → 5 < b → op_of b ≡ reads_of b
unfolding op_of
past_keys b h =
    simp
    (over b 0 (omega arith), over b 1 (omega arith), over b 2 (omega arith), over b 3 (omega arith), over b 4 (omega arith), over b 5 h)

pub is_now : (b : ℕ) → 0x40 ≤ b → b ≤ 0x47 → op_of b ≡ read_of 0x40 b Now false
unfolding reads_of
is_now b l h = past_keys b (omega arith) ∙ simp (inside 0x40 0x47 b l h)

pub is_earlier_false : (b : ℕ) → 0x50 ≤ b → b ≤ 0x57 → op_of b ≡ read_of 0x50 b Earlier false
unfolding reads_of
is_earlier_false b l h =
    past_keys b (omega arith) ∙ simp (over_range 0x40 0x47 b (omega arith), inside 0x50 0x57 b l h)

pub is_earlier_true : (b : ℕ) → 0x58 ≤ b → b ≤ 0x5F → op_of b ≡ read_of 0x58 b Earlier true
unfolding reads_of
is_earlier_true b l h =
    past_keys b (omega arith)
    ∙ simp (over_range 0x40 0x47 b (omega arith), over_range 0x50 0x57 b (omega arith), inside 0x58 0x5F b l h)

pub is_later_false : (b : ℕ) → 0x60 ≤ b → b ≤ 0x67 → op_of b ≡ read_of 0x60 b Later false
unfolding reads_of
is_later_false b l h =
    past_keys b (omega arith)
    ∙ simp (
      over_range 0x40 0x47 b (omega arith),
      over_range 0x50 0x57 b (omega arith),
      over_range 0x58 0x5F b (omega arith),
      inside 0x60 0x67 b l h,
    )

pub is_later_true : (b : ℕ) → 0x68 ≤ b → b ≤ 0x6F → op_of b ≡ read_of 0x68 b Later true
unfolding reads_of
is_later_true b l h =
    past_keys b (omega arith)
    ∙ simp (
      over_range 0x40 0x47 b (omega arith),
      over_range 0x50 0x57 b (omega arith),
      over_range 0x58 0x5F b (omega arith),
      over_range 0x60 0x67 b (omega arith),
      inside 0x68 0x6F b l h,
    )

pub unknown_low : (b : ℕ) → 5 < b → b < 0x40 → op_of b ≡ Err Byte
unfolding reads_of
unknown_low b l h =
    past_keys b l
    ∙ simp (
      under_range 0x40 0x47 b h,
      under_range 0x50 0x57 b (omega arith),
      under_range 0x58 0x5F b (omega arith),
      under_range 0x60 0x67 b (omega arith),
      under_range 0x68 0x6F b (omega arith),
    )

pub unknown_mid : (b : ℕ) → 0x47 < b → b < 0x50 → op_of b ≡ Err Byte
unfolding reads_of
unknown_mid b l h =
    past_keys b (omega arith)
    ∙ simp (
      over_range 0x40 0x47 b l,
      under_range 0x50 0x57 b h,
      under_range 0x58 0x5F b (omega arith),
      under_range 0x60 0x67 b (omega arith),
      under_range 0x68 0x6F b (omega arith),
    )

pub unknown_high : (b : ℕ) → 0x6F < b → op_of b ≡ Err Byte
unfolding reads_of
unknown_high b h =
    past_keys b (omega arith)
    ∙ simp (
      over_range 0x40 0x47 b (omega arith),
      over_range 0x50 0x57 b (omega arith),
      over_range 0x58 0x5F b (omega arith),
      over_range 0x60 0x67 b (omega arith),
      over_range 0x68 0x6F b h,
    )

-- ---- by cases

within_bounds : (lo hi b : ℕ) → within lo hi b ≡ true → (lo ≤ b) × (b ≤ hi)
within_bounds lo hi b e = let a = and_split (leb lo b) (leb b hi) e in (leb-true lo b a.0, leb-true b hi a.1)

module _ (P : Decoded → Type 0) (b : ℕ) where
  key-case : (k : ℕ) (x y : Decoded) → (b ≡ k → P x) → P y → P (cond (eqb b k) x y)
  key-case k x y f g = go (eqb b k) refl
    where
      go : (t : Bool) → eqb b k ≡ t → P (cond t x y)
      go true e = f (eqb-true b k e)
      go false e = g

  range-case : (lo hi : ℕ) (x y : Decoded) → (lo ≤ b → b ≤ hi → P x) → P y → P (cond (within lo hi b) x y)
  range-case lo hi x y f g = go (within lo hi b) refl
    where
      go : (t : Bool) → within lo hi b ≡ t → P (cond t x y)
      go true e = let h = within_bounds lo hi b e in f h.0 h.1
      go false e = g

  -- what holds of each operation that a byte can have, by what that says of the byte, holds of the byte's operation
  pub op-cases : (b ≡ 0 → P (Ok (Const false))) → (b ≡ 1 → P (Ok (Const true))) → (b ≡ 2 → P (Ok Not)) → (b ≡ 3 → P (Ok And)) → (b ≡ 4 → P (Ok Or)) → (b ≡ 5 → P (Ok Equal))
      → (0x40 ≤ b → b ≤ 0x47 → P (read_of 0x40 b Now false))
      → (0x50 ≤ b → b ≤ 0x57 → P (read_of 0x50 b Earlier false)) → (0x58 ≤ b → b ≤ 0x5F → P (read_of 0x58 b Earlier true))
      → (0x60 ≤ b → b ≤ 0x67 → P (read_of 0x60 b Later false)) → (0x68 ≤ b → b ≤ 0x6F → P (read_of 0x68 b Later true))
      → P (Err Byte) → P (op_of b)
  unfolding op_of reads_of
  op-cases f₀ f₁ f₂ f₃ f₄ f₅ now e₀ e₁ l₀ l₁ unknown =
      key-case 0 _ _ f₀ (key-case 1 _ _ f₁ (key-case 2 _ _ f₂ (key-case 3 _ _ f₃ (key-case 4 _ _ f₄ (key-case 5 _ _ f₅
      (range-case 0x40 0x47 _ _ now
      (range-case 0x50 0x57 _ _ e₀ (range-case 0x58 0x5F _ _ e₁
      (range-case 0x60 0x67 _ _ l₀ (range-case 0x68 0x6F _ _ l₁ unknown))))))))))

-- the only rule that a byte breaks by itself is 7
abbrev pub OnlyByte : Decoded → Type 0
OnlyByte (Ok (Const v)) = Unit {0}
OnlyByte (Ok Not) = Unit {0}
OnlyByte (Ok And) = Unit {0}
OnlyByte (Ok Or) = Unit {0}
OnlyByte (Ok Equal) = Unit {0}
OnlyByte (Ok (Read q o v)) = Unit {0}
OnlyByte (Err r) = r ≡ Byte

pub only_byte : (b : ℕ) → OnlyByte (op_of b)
only_byte b = op-cases OnlyByte b (λ e. tt) (λ e. tt) (λ e. tt) (λ e. tt) (λ e. tt) (λ e. tt) (λ l h. tt) (λ l h. tt) (λ l h. tt) (λ l h. tt) (λ l h. tt) refl

-- the number of the stream is what eights leave over
pub by_eights : (base b : ℕ) (o : Offset) (d : Bool) → base % 8 ≡ 0 → base ≤ b → b ≤ base + 7 → op_of b ≡ read_of base b o d → Ok (Read (record { 0 = b % 8 }) o d) ≡ op_of b
by_eights base b o d e l h f = sym (f ∙ ap (λ (q : ℕ). Ok (Read (record { 0 = q }) o d)) (omega arith))
