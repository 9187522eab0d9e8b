use Rattle.cpm_geom.proofs.JoinedLemmas.{bytes_joined}
use Rattle.cpm_geom.proofs.laws.bytes_are_their_disk.Goals as goal

pub returns : goal.returns
returns c = bytes_joined
