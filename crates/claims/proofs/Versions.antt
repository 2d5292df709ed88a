-- The two versions of a sheet: version 1 has no equality, and what it reads version 2 reads the same.
use mathlib.Core.Path.{◌≡◌, refl, subst}
use mathlib.Core.Bool.{true≢false}
use mathlib.Core.List.{◌∷◌}
use Prim.Native.Nat.{ℕ, ◌+◌}
use lib.ListN.{drop}
use Rattle.sheet.specs.Expression.{newest}
use Rattle.sheet.specs.Header.{mark_ok, version_of, version_ok, header_of}
use Rattle.sheet.specs.RuleSheet.{accepted, Outputs, trees, breaks, read_outputs, with_outputs, with_header, read_sheet}
use Rattle.sheet.specs.Parts.{Assumed}
use Rattle.sheet.specs.declared.Header.{Header}
use Rattle.std.specs.Prelude.{Result, Ok, Err}
use Rattle.outcomes.specs.declared.Refusal.{Refusal}
use Rattle.sheet.proofs.Formed.{FormedIn, formed_in}
use Rattle.sheet.proofs.Versions.{outputs-newest}
use Rattle.claims.specs.Further.{VersionOne, VersionsAgree}

pub version_one : VersionOne
version_one bs x v e = (subst (λ (n : ℕ). FormedIn n x) v (formed_in bs x e)).each

pub versions_agree : VersionsAgree
unfolding read_sheet header_of mark_ok version_of version_ok
versions_agree a b c bs x h = go (header_of (a ∷ (b ∷ (c ∷ (1 ∷ (0 ∷ bs)))))) h
  where
    with : (m n : ℕ) (y : Assumed) (o : Outputs) → read_outputs (record { version = 1; streams = m + n }) n (drop 3 bs) ≡ o
        → with_outputs m n y o ≡ accepted x → with_outputs m n y (read_outputs (newest (m + n)) n (drop 3 bs)) ≡ accepted x
    with m n y (trees ts) e k = rw (outputs-newest (record { version = 1; streams = m + n }) n (drop 3 bs) ts e) k
    with m n y (breaks r) e k = absurd (true≢false cc)

    go : (f : Result Header Refusal) → with_header (a ∷ (b ∷ (c ∷ (1 ∷ (0 ∷ bs))))) f ≡ accepted x → with_header (a ∷ (b ∷ (c ∷ (2 ∷ (0 ∷ bs))))) f ≡ accepted x
    go (Ok h) k = with h.inputs h.outputs h.assumed _ refl k
    go (Err r) k = absurd (true≢false cc)
