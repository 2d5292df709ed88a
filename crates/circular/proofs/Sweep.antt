-- Values filled in place, in any order. After k passes, each of which updates every place at least once, a place from which no chain of k reads
-- starts has its right value; after n * N passes all have. A pass that changes nothing ends the work at once.
use mathlib.Core.Path.{◌≡◌, sym, ◌∙◌}
use mathlib.Core.Bool.{Bool}
use Prim.Native.Nat.{ℕ, zero, suc, ◌*◌, ◌≤◌}
use native.Mathlib.Omega.{arith}
use Rattle.circular.specs.Circular.{Edge, Reach, last, then, Circular}
use Rattle.circular.specs.Places.{Chain, stop, go, Place, Reads, Solves, RightAt, Right}
use Rattle.circular.proofs.Unique.{round}

shorter : {n : ℕ} {E : ℕ → ℕ → ℕ → Bool} {N k s t : ℕ} (j : ℕ) → j ≤ k → Chain n E N k s t → Chain n E N j s t
shorter zero h c = stop
shorter (suc j) h stop = absurd (omega arith)
shorter (suc j) h (go r c) = go r (shorter j (omega arith) c)

module _ (n : ℕ) (E : ℕ → ℕ → ℕ → Bool) (N : ℕ) (f : (ℕ → ℕ → Bool) → ℕ → ℕ → Bool) (local : Reads n E N f)
    (sol : ℕ → ℕ → Bool) (good : Solves n N f sol) (k : ℕ) (v w : ℕ → ℕ → Bool) (right : Right n E N sol k v) (s t : ℕ) (pl : Place n N s t) where
  -- a place whose value is worked out anew from v comes one chain further, or keeps what it had
  pub fresh-right : (j : ℕ) → j ≤ suc k → w s t ≡ f v s t → RightAt n E N sol j w s t
  fresh-right j h e nc =
      e
      ∙ local.only v sol s t pl (λ q u r. right.all q u (record { s_lt = r.edge.to; t_low = r.u_low; t_high = r.u_high }) (λ c. nc (shorter j h (go r c))))
      ∙ sym (good.all s t pl)

-- the start: nothing is claimed; the end: everything is right
module _ (n : ℕ) (E : ℕ → ℕ → ℕ → Bool) (N : ℕ) (sol : ℕ → ℕ → Bool) where
  pub right-start : (v : ℕ → ℕ → Bool) → Right n E N sol 0 v
  right-start v = record { all = λ s t pl nc. absurd (nc stop) }

  pub right_end : (Circular n E → ⊥) → (v : ℕ → ℕ → Bool) → Right n E N sol (n * N) v → (s t : ℕ) → Place n N s t → v s t ≡ sol s t
  right_end nc v r s t pl = r.all s t pl (λ c. nc (round c pl))

-- values that agree with a solution at every place are one
pub solves_of : (n : ℕ) (E : ℕ → ℕ → ℕ → Bool) (N : ℕ) (f : (ℕ → ℕ → Bool) → ℕ → ℕ → Bool) → Reads n E N f → (sol v : ℕ → ℕ → Bool)
    → Solves n N f sol → ((s t : ℕ) → Place n N s t → v s t ≡ sol s t) → Solves n N f v
solves_of n E N f local sol v good same =
    record {
      all = λ s t pl.
          same s t pl ∙ good.all s t pl
          ∙ local.only sol v s t pl (λ q u r. sym (same q u (record { s_lt = r.edge.to; t_low = r.u_low; t_high = r.u_high })));
    }

-- more outputs, or another table of reads, with the same edges
reach-map : {n n' : ℕ} {E E' : ℕ → ℕ → ℕ → Bool} → ((s q o : ℕ) → Edge n E s q o → Edge n' E' s q o) → {N s t q u : ℕ} → Reach n E N s t q u → Reach n' E' N s t q u
reach-map m {N} (last r) = last (record { o = r.o; edge = m _ _ _ r.edge; shift = r.shift; t_low = r.t_low; t_high = r.t_high; u_low = r.u_low; u_high = r.u_high })
reach-map m {N} (then r c) =
    then (record { o = r.o; edge = m _ _ _ r.edge; shift = r.shift; t_low = r.t_low; t_high = r.t_high; u_low = r.u_low; u_high = r.u_high }) (reach-map m c)

pub circular_map : {n n' : ℕ} {E E' : ℕ → ℕ → ℕ → Bool} → ((s q o : ℕ) → Edge n E s q o → Edge n' E' s q o) → Circular n E → Circular n' E'
circular_map m c = record { N = c.N; s = c.s; t = c.t; reach = reach-map m c.reach }
