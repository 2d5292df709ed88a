-- The theorem is `VersionOne`.
use Rattle.claims.proofs.Versions.{version_one}
use Rattle.claims.proofs.version_one.Goals as goal

pub returns : goal.returns
returns c = version_one
