use Rattle.std.proofs.Common.{arith}
use Rattle.cpm_memory.specs.Frames.{memories}
use Rattle.cpm_slots.specs.Slots.{slots_of}
use Rattle.cpm_slots.proofs.OpenHost.{hosted}
use Rattle.cpm_slots.proofs.RemakingLaws.{numbered-host}
use Rattle.cpm_slots.proofs.host.Host.number_from.Goals as goal

pub invariant_of-self : goal.invariant_of-self
invariant_of-self c =
    let i = c.self.inside in
    let later = c.if-next-self.false in
    let k = c.self.invariant in (
      numbered-host (hosted i.system i.frames i.openings (slots_of (memories i.store) i.slots.items)) c.args.next (omega (arith, later)) k.0,
      k.1,
      k.2,
      k.3,
      k.4,
    )
