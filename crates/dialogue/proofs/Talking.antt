-- How the talk with the system goes on: by what a read brings, by what a write takes, and to its end.
use mathlib.Core.Path.{◌≡◌, refl, sym, ap, ◌∙◌, subst}
use mathlib.Core.Bool.{false}
use Rattle.std.specs.Prelude.{Option, None, Some}
use mathlib.Core.List.{List, [], ◌∷◌, ◌++◌, append_assoc, append-nil}
use Prim.Native.Nat.{ℕ, ◌+◌, ◌-◌, ◌≤◌}
use native.Mathlib.Omega.{arith}
use lib.ListN.{length, take, drop}
use lib.Seq.{take-add, drop-drop}
use Rattle.line_scan.specs.Lines.{whole_lines}
use Rattle.line_end.specs.Printed.{Printed}
use Rattle.protocol.specs.Machine.{Over, Stands, Goes, Finishes}
use Rattle.protocol.specs.declared.Progress.{Progress}
use Rattle.protocol.specs.declared.Started.{Started}
use Rattle.line_end.specs.declared.accepted.Accepted.{Accepted}
use Rattle.dialogue.specs.History.{Event, came, went, again, all_came, all_went, at_end, answerable, Prompt, begun, reads, writes, repeats, Ends}
use Rattle.dialogue.specs.Talks.{pending, Listens, Settled, Stage, Talks}
use Rattle.dialogue.specs.declared.Dialogue.{Dialogue}
use Rattle.dialogue.specs.declared.End.TheVariants.{Whole, InputFailed, OutputFailed, Unfinished}

-- ---- what is pending

none-pending : (d : Dialogue) (out : List ℕ) → d.to ≤ d.from → pending d out ≡ []
none-pending d out h = let e : d.to - d.from ≡ 0 = omega arith in ap (λ (k : ℕ). take k (drop d.from out)) e

pending_split : (from to n : ℕ) (out : List ℕ) → from + n ≤ to → take n (drop from out) ++ take (to - (from + n)) (drop (from + n) out) ≡ take (to - from) (drop from out)
pending_split from to n out h =
    let e : n + (to - (from + n)) ≡ to - from = omega arith in
    ap (λ (z : List ℕ). take n (drop from out) ++ take (to - (from + n)) z) (sym (drop-drop n from out))
    ∙ sym (take-add n (to - (from + n)) (drop from out))
    ∙ ap (λ (k : ℕ). take k (drop from out)) e

less_none : (n : ℕ) → n - 0 ≡ n
less_none n = omega arith

-- ---- a read

stage_at : (sheet : List ℕ) (d : Dialogue) (t out : List ℕ) (h : List Event) (m : Option Started) → Talks sheet d t out h → d.run ≡ m → Stage sheet d t out h m
stage_at sheet d t out h m talks e = subst (λ (b : Option Started). Stage sheet d t out h b) e talks.stage

not-empty : (b : ℕ) (bs : List ℕ) → length (b ∷ bs) ≡ 0 → ⊥
not-empty b bs e = omega (arith, e)

-- a run with this sheet that goes on, or is over
abbrev pub runs : Accepted → Option Progress → Option Started
runs x None = None
runs x (Some s) = Some (record { sheet = x; state = s })

-- more is wanted, unless the run is over
stood : (sheet : List ℕ) (x : Accepted) (to : ℕ) (t out : List ℕ) (h : List Event) → at_end h ≡ false → (s : Option Progress) → Stands sheet x.sheet s t (all_came h) (all_went h ++ take to out)
    → Stage sheet (record { run = runs x s; from = 0; to = to }) t out h (runs x s)
stood sheet x to t out h u None st =
    let over : Over sheet (all_came h) (all_went h ++ take (to - 0) out) = rw (less_none to) st.stage in
    record { whole = rw u over.whole; whatever = λ rest r. over.whatever rest }
stood sheet x to t out h u (Some s) st = record { unended = u; stands = rw (less_none to) st }

module _ (sheet : List ℕ) (r : Started) (d : Dialogue) (t out : List ℕ) (h : List Event) (talks : Talks sheet d t out h) (wants : d.run ≡ Some r) (spoken : d.to ≤ d.from) where
  listens : Listens sheet r d t out h
  listens = stage_at sheet d t out h (Some r) talks wants

  stands : Stands sheet r.sheet.sheet (Some r.state) t (all_came h) (all_went h)
  stands =
      subst (λ (z : List ℕ). Stands sheet r.sheet.sheet (Some r.state) t (all_came h) z) (ap (λ (z : List ℕ). all_went h ++ z) (none-pending d out spoken) ∙ append-nil (all_went h))
      listens.stands

  pub all_told : Printed sheet (whole_lines (all_came h)) (all_went h)
  all_told = stands.stage.whole

  pub not-at-end : at_end h ≡ false
  not-at-end = listens.unended

  came-prompt : (bs : List ℕ) → Prompt sheet (came bs ∷ h)
  came-prompt bs = reads listens.unended all_told talks.prompt

  -- the end of the input
  pub heard-end : (to : ℕ) (t₁ out₁ chunk : List ℕ) → length chunk ≡ 0 → Finishes r.sheet.sheet (Some r.state) t (take to out₁)
      → Talks sheet (record { run = None; from = 0; to = to }) t₁ out₁ (came chunk ∷ h)
  unfolding all_came all_went at_end
  heard-end to t₁ out₁ (b ∷ chunk) n f = absurd (not-empty b chunk n)
  heard-end to t₁ out₁ [] n f =
      let p : Printed sheet (all_came h ++ []) (all_went h ++ take (to - 0) out₁) = rw (append-nil (all_came h), less_none to) (f sheet (all_came h) (all_went h) stands) in
      record {
        prompt = came-prompt [];
        stage = record { whole = p; whatever = λ rest e. rw (e refl, append-nil (all_came h ++ [])) p };
      }

  -- more bytes
  pub heard-more : (s : Option Progress) (to : ℕ) (t₁ out₁ chunk : List ℕ) → (length chunk ≡ 0 → ⊥) → Goes r.sheet.sheet (Some r.state) t chunk s t₁ (take to out₁)
      → Talks sheet (record { run = runs r.sheet s; from = 0; to = to }) t₁ out₁ (came chunk ∷ h)
  unfolding all_came all_went at_end
  heard-more s to t₁ out₁ [] n g = absurd (n refl)
  heard-more s to t₁ out₁ (b ∷ chunk) n g = record {
    prompt = came-prompt (b ∷ chunk);
    stage = stood sheet r.sheet to t₁ out₁ (came (b ∷ chunk) ∷ h) listens.unended s (g sheet (all_came h) (all_went h) stands);
  }

-- ---- the beginning

pub opened : (sheet : List ℕ) (r : Started) (t out : List ℕ) → Stands sheet r.sheet.sheet (Some r.state) t [] [] → Talks sheet (record { run = Some r; from = 0; to = 0 }) t out []
unfolding all_came all_went at_end
opened sheet r t out st = record { prompt = begun; stage = stood sheet r.sheet 0 t out [] refl (Some r.state) st }

pub turned_down : (sheet : List ℕ) (to : ℕ) (t out : List ℕ) → ((input : List ℕ) → Printed sheet input (take to out)) → Talks sheet (record { run = None; from = 0; to = to }) t out []
unfolding all_came all_went at_end
turned_down sheet to t out f = record { prompt = begun; stage = record { whole = rw (less_none to) (f _); whatever = λ rest e. rw (less_none to) (f rest) } }

-- ---- a write

went-all : (d : Dialogue) (n : ℕ) (out : List ℕ) (h : List Event) → d.from + n ≤ d.to
    → all_went h ++ take n (drop d.from out) ++ take (d.to - (d.from + n)) (drop (d.from + n) out) ≡ all_went h ++ pending d out
went-all d n out h le = append_assoc (all_went h) (take n (drop d.from out)) _ ∙ ap (λ (z : List ℕ). all_went h ++ z) (pending_split d.from d.to n out le)

pub told_more : (sheet : List ℕ) (d : Dialogue) (t out : List ℕ) (h : List Event) (n : ℕ) → d.from + n ≤ d.to → Talks sheet d t out h
    → Talks sheet (record { run = d.run; from = d.from + n; to = d.to }) t out (went (take n (drop d.from out)) ∷ h)
unfolding all_came all_went at_end
told_more sheet d t out h n le talks = record { prompt = writes talks.prompt; stage = go d.run talks.stage }
  where
    go : (m : Option Started) → Stage sheet d t out h m
        → Stage sheet (record { run = d.run; from = d.from + n; to = d.to }) t out (went (take n (drop d.from out)) ∷ h) m
    go (Some r) l = record { unended = l.unended; stands = rw (went-all d n out h le) l.stands }
    go None s = record { whole = rw (went-all d n out h le) s.whole; whatever = λ rest e. rw (went-all d n out h le) (s.whatever rest e) }

-- the same, where what is pending is said to begin there
pub told_from : (sheet : List ℕ) (d : Dialogue) (t out : List ℕ) (h : List Event) (from n : ℕ) → d.from ≡ from → from + n ≤ d.to → Talks sheet d t out h
    → Talks sheet (record { run = d.run; from = from + n; to = d.to }) t out (went (take n (drop d.from out)) ∷ h)
told_from sheet d t out h from n e le talks =
    subst (λ (k : ℕ). Talks sheet (record { run = d.run; from = k + n; to = d.to }) t out (went (take n (drop d.from out)) ∷ h)) e
    (told_more sheet d t out h n (rw e le) talks)

-- ---- a call that is made again

pub asked-again : (sheet : List ℕ) (d : Dialogue) (t out : List ℕ) (h : List Event) → Talks sheet d t out h → Talks sheet d t out (again ∷ h)
unfolding all_came all_went at_end
asked-again sheet d t out h talks = record { prompt = repeats talks.prompt; stage = go d.run talks.stage }
  where
    go : (m : Option Started) → Stage sheet d t out h m → Stage sheet d t out (again ∷ h) m
    go (Some r) l = record { unended = l.unended; stands = l.stands }
    go None s = record { whole = s.whole; whatever = s.whatever }

-- ---- the end

module _ (sheet : List ℕ) (d : Dialogue) (t out : List ℕ) (h : List Event) (talks : Talks sheet d t out h) where
  pub ends-whole : d.run ≡ None → d.to ≤ d.from → Ends sheet h Whole
  ends-whole m spoken rest e =
      let s : Settled sheet d out h = stage_at sheet d t out h None talks m in
      subst (λ (z : List ℕ). Printed sheet (all_came h ++ rest) z) (ap (λ (z : List ℕ). all_went h ++ z) (none-pending d out spoken) ∙ append-nil (all_went h)) (s.whatever rest e)

  pub ends-unread : (r : Started) → d.run ≡ Some r → d.to ≤ d.from → Ends sheet h InputFailed
  ends-unread r m spoken = (not-at-end sheet r d t out h talks m spoken, all_told sheet r d t out h talks m spoken)

  due : (left : List ℕ) × Printed sheet (answerable h) (all_went h ++ left)
  due = (pending d out, go d.run talks.stage)
    where
      go : (m : Option Started) → Stage sheet d t out h m → Printed sheet (answerable h) (all_went h ++ pending d out)
      go (Some r) l = rw l.unended l.stands.stage.whole
      go None s = s.whole

  pub ends-unwritten : Ends sheet h OutputFailed
  ends-unwritten = due

  pub ends-early : Ends sheet h Unfinished
  ends-early = due
