-- Laws of the word of reads: it is put together from a round and its neighbours, and the lanes see them in it.
use mathlib.Core.Path.{◌≡◌, refl, ap, ◌∙◌}
use mathlib.Core.Bool.{Bool, true, false, cond}
use mathlib.Core.Option.{Option, none, some}
use Prim.Native.Nat.{ℕ, ◌+◌, ◌-◌, ◌*◌, ◌%◌, ◌^◌, ◌<◌, ◌≤◌}
use native.Mathlib.Omega.{arith}
use lib.Dec.{eqb}
use lib.Pow.{pow_pos}
use borrow.Author.Tests.{eq-eqb, ne_eqb}
use Rattle.words.specs.Bits.{bit}
use Rattle.words.proofs.BitLaws.{digit-zero, bit-none, bit-all, bit_high}
use Rattle.words.proofs.JoinLaws.{bit-low, bit-above, bit-high-part}
use Rattle.sheet.specs.declared.Offset.{Offset}
use Rattle.sheet.specs.declared.Offset.TheVariants.{Earlier, Now, Later}
use Rattle.lola.specs.Value.{near, neighbours}
use Rattle.lola.specs.Slots.{read_no}
use Rattle.lanes.specs.Around.{read_at, lane_look, here, Beside, Before, Seen, Ahead}

-- ---- the word

pub absent_beside : Beside 0xff00 none
unfolding near
absent_beside = record {
  small = omega arith;
  unset = λ q h. bit-low 8 q 0 255 h (omega arith) ∙ bit-none q;
  set = λ q h. bit-above 8 q 0 255 (omega arith) ∙ bit-all 8 q h;
}

pub there-beside : (v : ℕ) → v < 256 → Beside (v + 256 * v) (some v)
unfolding near
there-beside v l = record {
  small = omega arith;
  unset = λ q h. bit-low 8 q v v h l;
  set = λ q h. bit-above 8 q v v l;
}

module _ (w : ℕ) (p : Option ℕ) (h : Beside w p) (b : ℕ) (l : b < 256) where
  seen-word : Seen (b + 65536 * w) p b
  seen-word = record {
    small = omega (arith, h.small);
    here = λ q g. bit-low 16 q b w (omega arith) (omega arith);
    unset = λ q g. bit-above 16 q b w (omega arith) ∙ h.unset q g;
    set = λ q g. shifted q ∙ bit-above 16 (8 + q) b w (omega arith) ∙ h.set q g;
  }
    where
      shifted : (q : ℕ) → bit (24 + q) (b + 65536 * w) ≡ bit (16 + (8 + q)) (b + 65536 * w)
      shifted q = ap (λ (k : ℕ). bit k (b + 65536 * w)) (omega arith)

  pub ahead-word : Ahead (b + 4294967296 * w) b p
  ahead-word = record {
    here = λ q g. bit-low 32 q b w (omega arith) (omega arith);
    unset = λ q g. bit-above 32 q b w (omega arith) ∙ h.unset q g;
    set = λ q g. shifted q ∙ bit-above 32 (8 + q) b w (omega arith) ∙ h.set q g;
  }
    where
      shifted : (q : ℕ) → bit (40 + q) (b + 4294967296 * w) ≡ bit (32 + (8 + q)) (b + 4294967296 * w)
      shifted q = ap (λ (k : ℕ). bit k (b + 4294967296 * w)) (omega arith)

pub seen_of : (w : ℕ) (p : Option ℕ) (b : ℕ) → Before w p → b < 256 → Seen (w + b) p b
seen_of w p b h l =
    let e : b + 65536 * h.part ≡ w + b = omega (arith, h.shifted) in
    rw e at (seen-word h.part p h.beside b l)

pub seen_alone : (w : ℕ) (p : Option ℕ) → Before w p → Seen w p 0
seen_alone w p h = let e : w + 0 ≡ w = omega arith in rw e at (seen_of w p 0 h (omega arith))

-- ---- what a lane sees

module _ (env own v : ℕ) where
  pub own_read : (k : ℕ) → bit k own ≡ true → read_at env own v k ≡ bit (k % 8) v
  unfolding read_at
  own_read k e = rw e

  pub shared-read : (k : ℕ) → bit k own ≡ false → read_at env own v k ≡ bit k env
  unfolding read_at
  shared-read k e = rw e

module _ (own b v : ℕ) where
  pub own-here : bit 0 own ≡ true → here own b v ≡ v
  own-here e = ap (λ (u : Bool). cond u v b) e

  pub shared-here : bit 0 own ≡ false → here own b v ≡ b
  shared-here e = ap (λ (u : Bool). cond u v b) e

-- the sixteen reads from m on are the lane's own
module _ (env m v k : ℕ) where
  own-from : (q : ℕ) → m ≤ k → k < m + 16 → k % 8 ≡ q → read_at env (0 + 2 ^ m * 65535) v k ≡ bit q v
  own-from q h l e =
      own_read env (0 + 2 ^ m * 65535) v k (bit-high-part m k 0 65535 h (pow_pos m) ∙ bit-all 16 (k - m) (omega arith)) ∙ ap (λ (r : ℕ). bit r v) e

  shared-below : k < m → read_at env (0 + 2 ^ m * 65535) v k ≡ bit k env
  shared-below h = shared-read env (0 + 2 ^ m * 65535) v k (bit-low m k 0 65535 h (pow_pos m) ∙ bit-none k)

  shared-above : m + 16 ≤ k → read_at env (0 + 2 ^ m * 65535) v k ≡ bit k env
  shared-above h =
      shared-read env (0 + 2 ^ m * 65535) v k (bit-high-part m k 0 65535 (omega arith) (pow_pos m) ∙ bit_high 16 (k - m) 65535 (omega arith) (omega arith))

pub seen_look : (env : ℕ) (p : Option ℕ) (b : ℕ) → Seen env p b → (v q : ℕ) (o : Offset) (d : Bool) → q < 8
    → lane_look env 0xffff_0000_0000 v q o d ≡ neighbours p b (some v) q o d
unfolding read_no near
seen_look env p b s v q Now d l = shared-below env 32 v q (omega arith) ∙ s.here q l
seen_look env p b s v q Earlier false l = shared-below env 32 v (16 + q) (omega arith) ∙ s.unset q l
seen_look env p b s v q Earlier true l = shared-below env 32 v (24 + q) (omega arith) ∙ s.set q l
seen_look env p b s v q Later false l = own-from env 32 v (32 + q) q (omega arith) (omega arith) (omega arith)
seen_look env p b s v q Later true l = own-from env 32 v (40 + q) q (omega arith) (omega arith) (omega arith)

pub ahead_look : (env b : ℕ) (c : Option ℕ) → Ahead env b c → (v q : ℕ) (o : Offset) (d : Bool) → q < 8
    → lane_look env 0xffff_0000 v q o d ≡ neighbours (some v) b c q o d
unfolding read_no near
ahead_look env b c s v q Now d l = shared-below env 16 v q (omega arith) ∙ s.here q l
ahead_look env b c s v q Earlier false l = own-from env 16 v (16 + q) q (omega arith) (omega arith) (omega arith)
ahead_look env b c s v q Earlier true l = own-from env 16 v (24 + q) q (omega arith) (omega arith) (omega arith)
ahead_look env b c s v q Later false l = shared-above env 16 v (32 + q) (omega arith) ∙ s.unset q l
ahead_look env b c s v q Later true l = shared-above env 16 v (40 + q) (omega arith) ∙ s.set q l

-- the round itself, with nothing after it
module _ (env : ℕ) (p : Option ℕ) (b : ℕ) (s : Seen env p b) where
  low : (k : ℕ) → k < 32 → bit k (env + 0xff00_0000_0000) ≡ bit k env
  low k l = bit-low 32 k env 0xff00 l s.small

  high : (k q : ℕ) → k ≡ 32 + q → bit k (env + 0xff00_0000_0000) ≡ bit q 0xff00
  high k q e = ap (λ (i : ℕ). bit i (env + 0xff00_0000_0000)) e ∙ bit-above 32 q env 0xff00 s.small

  pub ender-look : (v q : ℕ) (o : Offset) (d : Bool) → q < 8 → lane_look (env + 0xff00_0000_0000) 0xffff v q o d ≡ neighbours p v none q o d
  unfolding read_no near
  ender-look v q Now d l = own-from (env + 0xff00_0000_0000) 0 v q q (omega arith) (omega arith) (omega arith)
  ender-look v q Earlier false l = shared-above (env + 0xff00_0000_0000) 0 v (16 + q) (omega arith) ∙ low (16 + q) (omega arith) ∙ s.unset q l
  ender-look v q Earlier true l = shared-above (env + 0xff00_0000_0000) 0 v (24 + q) (omega arith) ∙ low (24 + q) (omega arith) ∙ s.set q l
  ender-look v q Later false l = shared-above (env + 0xff00_0000_0000) 0 v (32 + q) (omega arith) ∙ high (32 + q) q refl ∙ bit-low 8 q 0 255 l (omega arith) ∙ bit-none q
  ender-look v q Later true l = shared-above (env + 0xff00_0000_0000) 0 v (40 + q) (omega arith) ∙ high (40 + q) (8 + q) (omega arith) ∙ bit-above 8 q 0 255 (omega arith) ∙ bit-all 8 q l
