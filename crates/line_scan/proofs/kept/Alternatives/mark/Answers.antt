-- A mark more keeps the alternative, and any other byte spoils the line.
use Rattle.std.proofs.Common.{ℕ, ◌+◌, ◌*◌, refl, sym, ap, ◌∙◌, arith}
use Rattle.line_scan.specs.Index.{mark_digit}
use Rattle.line_scan.proofs.Indexing.{place-le, digit-place, still-indexed}
use Rattle.line_scan.proofs.Scanning.{one-mark-more, other_byte}
use Rattle.line_scan.proofs.kept.Alternatives.mark.Goals as goal

pub returns-then-not-is_mark : goal.returns-then-not-is_mark
returns-then-not-is_mark c =
    record { scanned = (λ m part few bar dot h. other_byte m part _ _ dot h bar (sym c.is_mark.ensures ∙ c.if-not-is_mark.true)); in_table = tt }

pub overflow_mul-index : goal.overflow_mul-index
overflow_mul-index c =
    let most = rw (← c.mark_digit.ensures) at (digit-place c.args.self c.requires.0 c.requires.1 c.args.b) in
    record { fits = omega (arith, most, place-le c.args.self c.requires.0 c.requires.1 c.args.b) }

pub overflow_add-index : goal.overflow_add-index
overflow_add-index c =
    let most = rw (← c.mark_digit.ensures) at (digit-place c.args.self c.requires.0 c.requires.1 c.args.b) in
    record { fits = omega (arith, most, place-le c.args.self c.requires.0 c.requires.1 c.args.b, c.requires.0.below) }

pub overflow_mul-result : goal.overflow_mul-result
overflow_mul-result c =
    record { fits = omega (arith, place-le c.args.self c.requires.0 c.requires.1 c.args.b) }

pub returns : goal.returns
returns c =
    let index = ap (λ (d : ℕ). c.args.self.index + d * c.args.self.place) c.mark_digit.ensures in
    record {
      scanned = λ m part few bar dot h.
          one-mark-more m part c.args.b c.args.self dot h _ bar few (sym c.is_mark.ensures ∙ c.if-not-is_mark.false) refl refl
          (index ∙ ap (λ (p : ℕ). c.args.self.index + mark_digit c.args.b * p) c.requires.0.place);
      in_table = still-indexed c.args.self c.requires.0 c.requires.1 c.args.b _ refl index refl;
    }
