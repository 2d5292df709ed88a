-- The valuations of a sheet of at most w valuations are below w, and so are those of live pairs; some valuation is allowed.
use mathlib.Core.Bool.{true}
use mathlib.Core.Path.{◌≡◌, refl, sym, subst}
use mathlib.Core.List.{List, [], ◌∷◌}
use mathlib.Core.Option.{Option, some, none}
use Prim.Native.Nat.{ℕ, ◌+◌, ◌-◌, ◌^◌, ◌≤◌, ◌<◌}
use native.Mathlib.Omega.{arith}
use lib.Dec.{T, ltb, ltb→lt, lt→ltb}
use lib.Pow.{pow_pos}
use Rattle.words.proofs.BitLaws.{bit-all}
use Rattle.words.proofs.Tests.{and_left, and_both, of_true}
use Rattle.sheet.specs.RuleSheet.{RuleSheet, outputs, streams, required_of}
use Rattle.sheet.specs.Parts.{Below}
use Rattle.sheet.specs.Parts.{Assumed}
use Rattle.std.specs.Prelude.{None, Some}
use Rattle.lola.specs.Equations.{first, output}
use Rattle.completions.specs.Live.{all_true, assumed, allowed, Follows, Live}
use Rattle.completions.specs.Steps.{Within}

pub wider : (v w : ℕ) → v ≤ w → (y : Option ℕ) → Within v y → Within w y
wider v w h none k = tt
wider v w h (some y) k = omega arith

module _ (s : RuleSheet) (w : ℕ) (small : 2 ^ streams s ≤ w) where
  pub allowed-within : (v : ℕ) → T (allowed s v) → v < w
  unfolding allowed
  allowed-within v t = let l : v < 2 ^ streams s = ltb→lt v (2 ^ streams s) (and_left (ltb v (2 ^ streams s)) (assumed s v) t) in omega arith

  pub first-within : (p : Option ℕ) (vs : List ℕ) → Follows s p vs → Within w (first vs)
  first-within p [] f = tt
  first-within p (v ∷ vs) f = allowed-within v f.0

  pub live-within : (b : ℕ) (c : Option ℕ) → Live s b c → (b < w) × Within w c
  live-within b c h = (allowed-within b h.from, subst (λ (x : Option ℕ). Within w x) h.starts (first-within (some b) h.rest h.satisfies))

-- the valuation with every bit set is allowed, whichever of the outputs is assumed
module _ (s : RuleSheet) where
  abbrev full : ℕ
  full = 2 ^ streams s - 1

  all_set : (a : Assumed) → Below a (outputs s) → T (all_true s (required_of a) full)
  unfolding all_true
  all_set None h = tt
  all_set (Some k) h = and_both (output s k.0 full) true (of_true (output s k.0 full) (bit-all (streams s) (s.inputs + k.0) (omega (arith, h k refl)))) tt

  pub some-allowed : (a : Assumed) → s.required ≡ required_of a → Below a (outputs s) → (v : ℕ) × T (allowed s v)
  unfolding allowed
  some-allowed a e h =
      (full, and_both (ltb full (2 ^ streams s)) (assumed s full) (lt→ltb full (2 ^ streams s) (omega (arith, pow_pos (streams s)))) (subst (λ (ks : List ℕ). T (all_true s ks full)) (sym e) (all_set a h)))
