-- A search finds a number exactly if there is one.
use mathlib.Core.Bool.{Bool}
use mathlib.Core.Logic.{◌⊎◌, inl, inr}
use mathlib.Core.Option.{Option, none, some}
use Prim.Native.Nat.{ℕ, ◌<◌}
use lib.Dec.{T}
use Rattle.words.specs.Below.{any_below}
use Rattle.words.proofs.Tests.{or_cases, or_left, or_right, true_of, of_true}
use Rattle.words.proofs.AnyLaws.{some_any, any_some}
use Rattle.completions.specs.Steps.{any_next, any_pair, Within}

pub any_found : (n : ℕ) (f : ℕ → Bool) → T (any_below n f) → (i : ℕ) × (i < n) × T (f i)
any_found n f t = let (i, h, e) = any_some n f (true_of (any_below n f) t) in (i, h, of_true (f i) e)

pub any_from : (n : ℕ) (f : ℕ → Bool) (i : ℕ) → i < n → T (f i) → T (any_below n f)
any_from n f i h t = of_true (any_below n f) (some_any n f i h (true_of (f i) t))

pub next-found : (n : ℕ) (f : Option ℕ → Bool) → T (any_next n f) → (c : Option ℕ) × Within n c × T (f c)
unfolding any_next
next-found n f t = go (or_cases (f none) (any_below n (λ b. f (some b))) t)
  where
    go : T (f none) ⊎ T (any_below n (λ b. f (some b))) → (c : Option ℕ) × Within n c × T (f c)
    go (inl h) = (none, tt, h)
    go (inr h) = let x : (i : ℕ) × (i < n) × T (f (some i)) = any_found n (λ b. f (some b)) h in (some x.0, x.1, x.2)

pub next-from : (n : ℕ) (f : Option ℕ → Bool) (c : Option ℕ) → Within n c → T (f c) → T (any_next n f)
unfolding any_next
next-from n f none h t = or_left (f none) (any_below n (λ b. f (some b))) t
next-from n f (some c) h t = or_right (f none) (any_below n (λ b. f (some b))) (any_from n (λ b. f (some b)) c h t)

pub pair_found : (n : ℕ) (f : ℕ → Option ℕ → Bool) → T (any_pair n f) → (b : ℕ) × (c : Option ℕ) × (b < n) × Within n c × T (f b c)
unfolding any_pair
pair_found n f t =
    let x : (i : ℕ) × (i < n) × T (any_next n (f i)) = any_found n (λ a. any_next n (f a)) t in
    let y : (c : Option ℕ) × Within n c × T (f x.0 c) = next-found n (f x.0) x.2 in
    (x.0, y.0, x.1, y.1, y.2)

pub pair_from : (n : ℕ) (f : ℕ → Option ℕ → Bool) (b : ℕ) (c : Option ℕ) → b < n → Within n c → T (f b c) → T (any_pair n f)
unfolding any_pair
pair_from n f b c h k t = any_from n (λ a. any_next n (f a)) b h (next-from n (f b) c k t)
