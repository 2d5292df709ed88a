-- Whatever chunks the input arrives in, what is written is what is said of the whole of it.
use mathlib.Core.List.{List, [], ◌++◌, flatten, append_assoc, append-nil}
use Prim.Native.Nat.{ℕ}
use Rattle.std.specs.Prelude.{Option}
use Rattle.std.proofs.Common.{subst}
use Rattle.sheet.specs.declared.Sheet.{Sheet}
use Rattle.line_end.specs.Printed.{Printed}
use Rattle.protocol.specs.Machine.{Over, Stage, Stands}
use Rattle.protocol.specs.Chunks.{Rest, finished, fed, stopped, turned_down, taken, AnyChunks}
use Rattle.protocol.specs.declared.Progress.{Progress}

rest_printed : (x : Sheet) {s : Option Progress} {t text : List ℕ} {chunks : List (List ℕ)} → Rest x s t chunks text → (sheet seen wrote : List ℕ) → Stands sheet x s t seen wrote
    → Printed sheet (seen ++ flatten chunks) (wrote ++ text)
unfolding flatten
rest_printed x (finished f) sheet seen wrote st = rw (append-nil seen) (f sheet seen wrote st)
rest_printed x (fed {chunk = chunk} {text = text} {others = others} {chunks = chunks} g r) sheet seen wrote st =
    rw (← append_assoc seen chunk (flatten chunks), ← append_assoc wrote text others) (rest_printed x r sheet (seen ++ chunk) (wrote ++ text) (g sheet seen wrote st))
rest_printed x (stopped {t = t} {chunks = chunks} o) sheet seen wrote st =
    let f : Over sheet seen wrote = subst (λ (z : Option Progress). Stage sheet x z t seen wrote) o st.stage in
    rw (append-nil wrote) (f.whatever (flatten chunks))

pub any_chunks : AnyChunks
any_chunks sheet chunks text (turned_down at t out b) = b (flatten chunks)
any_chunks sheet chunks text (taken r t out b f) = rest_printed r.sheet.sheet f sheet [] [] b
