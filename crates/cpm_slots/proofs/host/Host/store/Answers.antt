use Rattle.std.proofs.Common.{subst}
use Rattle.cpm_slots.specs.HostWithStore.{IsHostWithStore}
use Rattle.cpm_slots.proofs.StoreLaws.{is-with_store}
use Rattle.cpm_slots.proofs.host.Host.store.Goals as goal

pub returns-clause-frames : goal.returns-clause-frames
returns-clause-frames c =
    let s = c.self.inside in
    subst IsHostWithStore c.self.view_is (is-with_store s.system s.frames s.openings s.store s.slots.items c.self.invariant.3 c.self.invariant.1 c.self.invariant.2)
