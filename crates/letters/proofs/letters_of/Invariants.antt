-- The loops of `letters::letters_of`.
use mathlib.Core.Path.{◌≡◌}
use mathlib.Core.Bool.{◌&&◌}
use Prim.Native.Nat.{ℕ, ◌^◌, ◌≤◌, ◌<◌}
use lib.Dec.{ltb}
use Rattle.words.specs.Bits.{bit}
use Rattle.letters.specs.Matching.{matches}
use Rattle.letters.proofs.letters_of.Given as goal

abbrev pub invariant-loop-i : goal.invariant-loop-i
invariant-loop-i here = (here.i ≤ 6) × ((l : ℕ) → l < 64 → bit l here.set ≡ (ltb l (2 ^ here.m) && matches here.known here.value here.i l))
