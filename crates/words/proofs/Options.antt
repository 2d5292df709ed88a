-- An entry that is there, and one that isn't.
use mathlib.Core.Path.{◌≡◌}
use mathlib.Core.Bool.{true≢false}
use mathlib.Core.Option.{none, some}

module _ {A : Type 0} where
  pub nothing : {a : A} → none ≡ some a → ⊥
  nothing e = true≢false cc

  pub same_some : {a b : A} → some a ≡ some b → a ≡ b
  same_some e = cc
