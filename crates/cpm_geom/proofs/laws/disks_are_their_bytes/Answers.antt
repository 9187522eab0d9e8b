use Rattle.cpm_geom.proofs.JoinedLemmas.{disks}
use Rattle.cpm_geom.proofs.laws.disks_are_their_bytes.Goals as goal

pub returns : goal.returns
returns c = disks
