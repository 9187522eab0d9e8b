use Rattle.std.proofs.Common.{subst}
use Rattle.cpm_slots.specs.Host.{IsHost}
use Rattle.cpm_slots.proofs.CallLaws.{same-host}
use Rattle.cpm_slots.proofs.host.Host.slots_are_orderly.Goals as goal

pub returns : goal.returns
returns c = subst IsHost (same-host c.self.view_is) c.self.invariant.0
