-- The theorem is `VersionsAgree`.
use Rattle.claims.proofs.Versions.{versions_agree}
use Rattle.claims.proofs.versions_agree.Goals as goal

pub returns : goal.returns
returns c = versions_agree
