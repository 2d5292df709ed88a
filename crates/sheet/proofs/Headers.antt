-- What a header that reads well tells.
use mathlib.Core.Path.{◌≡◌, refl, ap, subst}
use Rattle.std.specs.Prelude.{Option, Some, None, Result, Ok, Err, ◌<◌}
use mathlib.Core.Bool.{Bool, true, false, cond, ◌&&◌, true≢false}
use mathlib.Core.List.{List}
use Prim.Native.Nat.{ℕ, ◌+◌, ◌≤◌}
use lib.ListN.{length, get_or}
use lib.Dec.{leb, ltb, eqb}
use borrow.Author.Tests.{leb-true, ltb-true, ltb-false}
use Rattle.outcomes.specs.declared.Refusal.{Refusal}
use Rattle.outcomes.specs.declared.Refusal.TheVariants.{Short, Mark, Version, Counts, Assumption}
use Rattle.words.proofs.Bools.{and_split}
use Rattle.sheet.specs.Header.{header, mark_ok, version_of, version_ok, counts_ok, assumed_at, fields_of, header_of}
use Rattle.sheet.specs.Parts.{Ranges, Below}
use Rattle.sheet.specs.declared.OutputNo.{OutputNo}
use Rattle.sheet.specs.declared.Header.{Header}

pub counts : (m n : ℕ) → counts_ok m n ≡ true → Ranges m n
unfolding counts_ok
counts m n e =
    let a = and_split (leb 1 m) (leb m 6 && (leb 1 n && (leb n 7 && leb (m + n) 8))) e in
    let b = and_split (leb m 6) (leb 1 n && (leb n 7 && leb (m + n) 8)) a.1 in
    let c = and_split (leb 1 n) (leb n 7 && leb (m + n) 8) b.1 in
    let d = and_split (leb n 7) (leb (m + n) 8) c.1 in
    record {
      an_input = leb-true 1 m a.0;
      inputs = leb-true m 6 b.0;
      an_output = leb-true 1 n c.0;
      outputs = leb-true n 7 d.0;
      streams = leb-true (m + n) 8 d.1;
    }

assumes : (a n : ℕ) (x : Option OutputNo) → assumed_at a n ≡ Ok x → Below x n
unfolding assumed_at
assumes a n x h = go (eqb a 255) (ltb a n) refl h
  where
    go : (t u : Bool) → ltb a n ≡ u → cond t (Ok None) (cond u (Ok (Some (record { 0 = a }))) (Err Assumption)) ≡ Ok x → Below x n
    go true u e k = let z : None ≡ x = cc in subst (λ (y : Option OutputNo). Below y n) z (λ y h. absurd (true≢false cc))
    go false true e k = let z : Some (record { 0 = a }) ≡ x = cc in subst (λ (y : Option OutputNo). Below y n) z (λ y h. let w : record { 0 = a } ≡ y = cc in subst (λ (o : OutputNo). o.0 < n) w (ltb-true a n e))
    go false false e k = absurd (true≢false cc)

abbrev FieldsFit : List ℕ → ℕ → ℕ → Option OutputNo → Type 0
FieldsFit bs m n x = (8 ≤ length bs) × Ranges m n × Below x n

pub fields : (bs : List ℕ) (m n : ℕ) (x : Option OutputNo) → header_of bs ≡ header m n x → FieldsFit bs m n x
unfolding header_of
fields bs m n x h =
    go (ltb (length bs) 8) (mark_ok bs) (version_ok (version_of bs)) (counts_ok (get_or bs 5 0) (get_or bs 6 0)) (assumed_at (get_or bs 7 0) (get_or bs 6 0)) refl refl refl h
  where
    go : (t u v w : Bool) (y : Result (Option OutputNo) Refusal) → ltb (length bs) 8 ≡ t → counts_ok (get_or bs 5 0) (get_or bs 6 0) ≡ w → assumed_at (get_or bs 7 0) (get_or bs 6 0) ≡ y
        → cond t (Err Short) (cond u (cond v (cond w (fields_of (get_or bs 5 0) (get_or bs 6 0) y) (Err Counts)) (Err Version)) (Err Mark)) ≡ header m n x
        → FieldsFit bs m n x
    go true u v w y e f g k = absurd (true≢false cc)
    go false false v w y e f g k = absurd (true≢false cc)
    go false true false w y e f g k = absurd (true≢false cc)
    go false true true false y e f g k = absurd (true≢false cc)
    go false true true true (Err r) e f g k = absurd (true≢false cc)
    go false true true true (Ok y) e f g k =
        let z : record { inputs = get_or bs 5 0; outputs = get_or bs 6 0; assumed = y } ≡ record { inputs = m; outputs = n; assumed = x } = cc in
        let p = ap (λ (h : Header). h.inputs) z in
        let q = ap (λ (h : Header). h.outputs) z in
        let r = ap (λ (h : Header). h.assumed) z in (
          ltb-false (length bs) 8 e,
          rw (p, q) at (counts (get_or bs 5 0) (get_or bs 6 0) f),
          rw (q, r) at (assumes (get_or bs 7 0) (get_or bs 6 0) y g),
        )

-- m and n are bytes 5 and 6
pub fields_are : (bs : List ℕ) (m n : ℕ) (x : Option OutputNo) → header_of bs ≡ header m n x → (m ≡ get_or bs 5 0) × (n ≡ get_or bs 6 0)
unfolding header_of
fields_are bs m n x h =
    go (ltb (length bs) 8) (mark_ok bs) (version_ok (version_of bs)) (counts_ok (get_or bs 5 0) (get_or bs 6 0)) (assumed_at (get_or bs 7 0) (get_or bs 6 0)) h
  where
    go : (t u v w : Bool) (y : Result (Option OutputNo) Refusal)
        → cond t (Err Short) (cond u (cond v (cond w (fields_of (get_or bs 5 0) (get_or bs 6 0) y) (Err Counts)) (Err Version)) (Err Mark)) ≡ header m n x
        → (m ≡ get_or bs 5 0) × (n ≡ get_or bs 6 0)
    go true u v w y k = absurd (true≢false cc)
    go false false v w y k = absurd (true≢false cc)
    go false true false w y k = absurd (true≢false cc)
    go false true true false y k = absurd (true≢false cc)
    go false true true true (Err r) k = absurd (true≢false cc)
    go false true true true (Ok y) k =
        let z : record { inputs = m; outputs = n; assumed = x } ≡ record { inputs = get_or bs 5 0; outputs = get_or bs 6 0; assumed = y } = cc in
        (ap (λ (h : Header). h.inputs) z, ap (λ (h : Header). h.outputs) z)
