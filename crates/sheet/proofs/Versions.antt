-- What one version reads, the newest reads the same.
use mathlib.Core.Path.{◌≡◌, refl}
use mathlib.Core.Bool.{Bool, true, false, cond, true≢false}
use mathlib.Core.List.{List, [], ◌∷◌}
use Prim.Native.Nat.{ℕ, zero, suc}
use native.Mathlib.Omega.{arith}
use lib.ListN.{take, drop}
use Rattle.outcomes.specs.declared.Refusal.TheVariants.{Length}
use Rattle.sheet.specs.Expression.{Expr, constant, negation, conjunction, disjunction, equality, read, newest, Parsed, tree, broken, parse}
use Rattle.sheet.specs.RuleSheet.{Outputs, trees, breaks, length_ok, and_then, read_outputs}
use Rattle.sheet.specs.Postfix.{InSheet}
use Rattle.sheet.specs.declared.Grammar.{Grammar}
use Rattle.sheet.proofs.Postfixes.{tree_exactly}

-- the newest version has every operation
pub in_newest : (s : Grammar) (t : Expr) → InSheet s t → InSheet (newest s.streams) t
unfolding InSheet
in_newest s (constant v) h = tt
in_newest s (negation a) h = in_newest s a h
in_newest s (conjunction a b) h = (in_newest s a h.0, in_newest s b h.1)
in_newest s (disjunction a b) h = (in_newest s a h.0, in_newest s b h.1)
in_newest s (equality a b) h = (omega arith, in_newest s a h.1, in_newest s b h.2)
in_newest s (read q o v) h = h

pub parse-newest : (s : Grammar) (bs : List ℕ) (t : Expr) → parse s [] bs ≡ tree t → parse (newest s.streams) [] bs ≡ tree t
parse-newest s bs t h =
    let w = (tree_exactly s bs t).0 h in
    (tree_exactly (newest s.streams) bs t).1 (w.0, in_newest s t w.1)

pub outputs-newest : (s : Grammar) (k : ℕ) (bs : List ℕ) (ts : List Expr) → read_outputs s k bs ≡ trees ts → read_outputs (newest s.streams) k bs ≡ trees ts
unfolding read_outputs
outputs-newest s zero [] ts h = h
outputs-newest s zero (b ∷ bs) ts h = h
outputs-newest s (suc k) [] ts h = h
outputs-newest s (suc k) (l ∷ bs) ts h =
    go (length_ok l bs) (parse s [] (take l bs)) refl (read_outputs s k (drop l bs)) (λ us e. outputs-newest s k (drop l bs) us e) h
  where
    go : (b : Bool) (p : Parsed) → parse s [] (take l bs) ≡ p → (o : Outputs) → ((us : List Expr) → o ≡ trees us → read_outputs (newest s.streams) k (drop l bs) ≡ trees us)
        → cond b (and_then p o) (breaks Length) ≡ trees ts
        → cond b (and_then (parse (newest s.streams) [] (take l bs)) (read_outputs (newest s.streams) k (drop l bs))) (breaks Length) ≡ trees ts
    go true (tree t) e (trees us) r h = rw (parse-newest s (take l bs) t e, r us refl) h
    go true (tree t) e (breaks x) r h = absurd (true≢false cc)
    go true (broken x) e o r h = absurd (true≢false cc)
    go false p e o r h = h
