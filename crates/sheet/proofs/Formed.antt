-- What holds of every sheet that is read: it is the only one, its counts are in range, and its reads are of its own streams.
use mathlib.Core.Path.{◌≡◌, refl, sym, ap, ◌∙◌, subst}
use mathlib.Core.Bool.{Bool, true, false, cond, true≢false}
use mathlib.Core.List.{List, [], ◌∷◌}
use Prim.Native.Nat.{ℕ, zero, suc, ◌+◌, ◌<◌}
use native.Mathlib.Omega.{arith}
use lib.ListN.{length, get_or, take, drop}
use Rattle.std.specs.Prelude.{Option, Result, Ok, Err}
use Rattle.outcomes.specs.declared.Refusal.{Refusal}
use Rattle.outcomes.specs.declared.Refusal.TheVariants.{Length}
use Rattle.sheet.specs.Expression.{Expr, constant, newest, Parsed, tree, broken, parse}
use Rattle.sheet.specs.Header.{header, header_of, version_of}
use Rattle.sheet.specs.RuleSheet.{RuleSheet, outputs, streams, accepted, Outputs, trees, breaks, length_ok, and_then, read_outputs, with_outputs, with_header, read_sheet, required_of}
use Rattle.sheet.specs.Parts.{code_at, Ranges, Below}
use Rattle.sheet.specs.Reading.{rule_sheet, tree_of, Usable}
use Rattle.sheet.specs.Postfix.{InSheet}
use Rattle.sheet.specs.ReadingChecks.{inputs_of, outputs_of}
use Rattle.sheet.specs.declared.Sheet.{Sheet}
use Rattle.sheet.specs.declared.OutputNo.{OutputNo}
use Rattle.sheet.specs.declared.Grammar.{Grammar}
use Rattle.sheet.specs.declared.Header.{Header}
use Rattle.sheet.proofs.Sheets.{tree-at, length-trees}
use Rattle.sheet.proofs.Headers.{fields, fields_are}
use Rattle.sheet.proofs.Postfixes.{tree_exactly}
use Rattle.sheet.proofs.Versions.{in_newest}

-- bytes read as one sheet
pub one-sheet : (bs : List ℕ) (x y : RuleSheet) → read_sheet bs ≡ accepted x → read_sheet bs ≡ accepted y → x ≡ y
one-sheet bs x y e f = let z : accepted x ≡ accepted y = sym e ∙ f in cc

-- in a version: its expressions have no byte that the version lacks
pub record FormedIn (v : ℕ) (x : RuleSheet) : Type 0 where
  pub ranges : Ranges x.inputs (outputs x)
  pub each : (s : ℕ) → s < outputs x → InSheet (record { version = v; streams = streams x }) (get_or x.expressions s (constant false))

-- in the newest
abbrev pub Formed : RuleSheet → Type 0
Formed x = FormedIn 2 x

-- the outputs that are read
abbrev AllIn : Grammar → ℕ → List Expr → Type 0
AllIn s k ts = (length ts ≡ k) × ((i : ℕ) → i < k → InSheet s (get_or ts i (constant false)))

all_in : (s : Grammar) (k : ℕ) (bs : List ℕ) (ts : List Expr) → read_outputs s k bs ≡ trees ts → AllIn s k ts
unfolding read_outputs
all_in s zero [] ts h = let e : [] ≡ ts = cc in (ap length (sym e), λ i l. absurd (omega arith))
all_in s zero (b ∷ bs) ts h = absurd (true≢false cc)
all_in s (suc k) [] ts h = absurd (true≢false cc)
all_in s (suc k) (l ∷ bs) ts h =
    go (length_ok l bs) (parse s [] (take l bs)) refl (read_outputs s k (drop l bs)) (λ us e. all_in s k (drop l bs) us e) h
  where
    at : (t : Expr) (us : List Expr) → InSheet s t → AllIn s k us → AllIn s (suc k) (t ∷ us)
    at t us p q = (ap suc q.0, λ i g. each i g)
      where
        each : (i : ℕ) → i < suc k → InSheet s (get_or (t ∷ us) i (constant false))
        each zero g = p
        each (suc i) g = q.1 i (omega arith)

    go : (b : Bool) (p : Parsed) → parse s [] (take l bs) ≡ p → (o : Outputs) → ((us : List Expr) → o ≡ trees us → AllIn s k us)
        → cond b (and_then p o) (breaks Length) ≡ trees ts → AllIn s (suc k) ts
    go true (tree t) e (trees us) r h =
        let same : t ∷ us ≡ ts = cc in
        subst (AllIn s (suc k)) same (at t us ((tree_exactly s (take l bs) t).0 e).1 (r us refl))
    go true (tree t) e (breaks x) r h = absurd (true≢false cc)
    go true (broken x) e o r h = absurd (true≢false cc)
    go false p e o r h = absurd (true≢false cc)

-- the header and the outputs that a sheet is read from
record From (bs : List ℕ) (x : RuleSheet) : Type 0 where
  assumed : Option OutputNo
  header : header_of bs ≡ header x.inputs (outputs x) assumed
  body : read_outputs (record { version = version_of bs; streams = streams x }) (outputs x) (drop 8 bs) ≡ trees x.expressions
  required : x.required ≡ required_of assumed

read-from : (bs : List ℕ) (x : RuleSheet) → read_sheet bs ≡ accepted x → From bs x
unfolding read_sheet
read-from bs x h = go (header_of bs) refl h
  where
    with : (m n : ℕ) (a : Option OutputNo) → header_of bs ≡ header m n a → (o : Outputs) → read_outputs (record { version = version_of bs; streams = m + n }) n (drop 8 bs) ≡ o
        → with_outputs m n a o ≡ accepted x → From bs x
    with m n a f (trees ts) g e =
        let same : record { inputs = m; expressions = ts; required = required_of a } ≡ x = cc in
        let size : length ts ≡ n = (all_in (record { version = version_of bs; streams = m + n }) n (drop 8 bs) ts g).0 in
        subst (From bs) same (record { assumed = a; header = rw size f; body = rw size g; required = refl })
    with m n a f (breaks r) g e = absurd (true≢false cc)

    go : (k : Result Header Refusal) → header_of bs ≡ k → with_header bs k ≡ accepted x → From bs x
    go (Ok h) f e = with h.inputs h.outputs h.assumed f _ refl e
    go (Err r) f e = absurd (true≢false cc)

pub formed_in : (bs : List ℕ) (x : RuleSheet) → read_sheet bs ≡ accepted x → FormedIn (version_of bs) x
formed_in bs x h =
    let r = read-from bs x h in
    record { ranges = (fields bs x.inputs (outputs x) r.assumed r.header).1; each = (all_in _ (outputs x) (drop 8 bs) x.expressions r.body).1 }

pub read_formed : (bs : List ℕ) (x : RuleSheet) → read_sheet bs ≡ accepted x → Formed x
read_formed bs x h =
    let f = formed_in bs x h in
    record { ranges = f.ranges; each = λ s l. in_newest (record { version = version_of bs; streams = streams x }) _ (f.each s l) }

pub usable_formed : (x : Sheet) → Usable x → Formed (rule_sheet x)
usable_formed x u =
    let n : outputs (rule_sheet x) ≡ x.outputs = length-trees (x.inputs + x.outputs) x.code x.len x.outputs in
    record {
      ranges = rw n u.ranges;
      each = λ s l.
          let h : s < x.outputs = omega arith in
          rw (tree-at (x.inputs + x.outputs) x.code x.len x.outputs s (constant false) h)
          (subst (λ (z : ℕ). InSheet (newest (x.inputs + z)) (tree_of (parse (newest (x.inputs + x.outputs)) [] (code_at x.code x.len s)))) (sym n)
          ((tree_exactly (newest (x.inputs + x.outputs)) (code_at x.code x.len s) _).0 (u.parts s h).parses).1);
    }

-- what is assumed is one of the sheet's outputs, or nothing
pub assumed-of : (bs : List ℕ) (x : RuleSheet) → read_sheet bs ≡ accepted x → (a : Option OutputNo) × (x.required ≡ required_of a) × Below a (outputs x)
assumed-of bs x h = let r = read-from bs x h in (r.assumed, r.required, (fields bs x.inputs (outputs x) r.assumed r.header).2)

-- the sheet's counts are those of its header
pub counts_of : (bs : List ℕ) (x : RuleSheet) → read_sheet bs ≡ accepted x → (x.inputs ≡ inputs_of bs) × (outputs x ≡ outputs_of bs)
counts_of bs x h = let r = read-from bs x h in fields_are bs x.inputs (outputs x) r.assumed r.header
