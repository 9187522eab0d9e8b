use Rattle.std.proofs.Common.{ap, ◌∙◌}
use Rattle.sha2.specs.Sha256.{sha256}
use Rattle.cpm_machine.specs.SystemDigest.{system_digest}
use Rattle.cpm_machine.proofs.digest.digest_of.Goals as goal

pub returns : goal.returns
unfolding system_digest
returns c = c.digest.ensures ∙ ap sha256 c.bytes.ensures.value
