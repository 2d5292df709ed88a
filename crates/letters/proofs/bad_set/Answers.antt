-- `letters::bad_set` meets its contract.
use mathlib.Core.Path.{◌≡◌, sym, ap, ◌∙◌}
use mathlib.Core.Bool.{not}
use Prim.Native.Nat.{ℕ, ◌*◌, ◌/◌, ◌%◌, ◌^◌, ◌<◌, ◌≤◌}
use native.Mathlib.Omega.{arith}
use lib.Dec.{eqb}
use lib.Pow.{pow_mono}
use Rattle.letters.proofs.SetLaws.{bad_empty, bad_within, bad_shift}
use Rattle.letters.proofs.bad_set.Goals as goal

size : (m : ℕ) → m ≤ 6 → (m ≡ 6 → ⊥) → (1 * 2 ^ m % 2 ^ 8 ≡ 2 ^ m) × (2 ^ m < 64)
size m h n =
    let l : m ≤ 5 = omega arith in
    let g : 2 ^ m ≤ 2 ^ 5 = pow_mono l in
    (omega arith, omega arith)

pub returns-then-set-eq0 : goal.returns-then-set-eq0
returns-then-set-eq0 c = bad_empty _ _ c.if-set-eq0.true

pub returns-then-m-eq6 : goal.returns-then-m-eq6
returns-then-m-eq6 c =
    let e : c.args.m ≡ 6 = c.if-m-eq6.true in
    let most : c.args.set < 2 ^ 64 = omega arith in
    sym (bad_within c.args.m c.args.set c.if-set-eq0.false (rw e most))

pub overflow_shr-result : goal.overflow_shr-result
overflow_shr-result c =
    let s = size c.args.m c.requires c.if-m-eq6.false in
    rw s.0 s.1

pub returns : goal.returns
returns c =
    ap (λ (k : ℕ). not (eqb (c.args.set / 2 ^ k) 0)) (size c.args.m c.requires c.if-m-eq6.false).0 ∙ bad_shift c.args.m c.args.set c.if-set-eq0.false
