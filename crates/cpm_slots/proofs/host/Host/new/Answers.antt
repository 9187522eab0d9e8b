use Rattle.std.proofs.Common.{◌≡◌, List, [], sym, subst, arith}
use Rattle.cpm_memory.specs.Frames.{memories}
use Rattle.cpm_slots.specs.declared.slots.Slot.{Slot}
use Rattle.cpm_slots.specs.Host.{IsHost}
use Rattle.cpm_slots.specs.Slots.{slots_of, HaveTables, AllCached}
use Rattle.cpm_slots.proofs.OpenHost.{hosted}
use Rattle.cpm_slots.proofs.OpenSlots.{HaveTables-none}
use Rattle.cpm_slots.proofs.host.Host.new.Goals as goal

pub invariant_of-result : goal.invariant_of-result
invariant_of-result c =
    let m = memories c.in-Ok.store in
    let empty : c.in-Ok.slots.items ≡ [] = c.in-Ok.ensures.slots in (
      subst (λ (slots : List Slot). IsHost (hosted c.new.result c.args.frames 0 (slots_of m slots))) (sym empty) (record { ordered = tt; below = tt; few = omega arith; quotas = omega arith }),
      subst (HaveTables m) (sym empty) (HaveTables-none m c.in-Ok.ensures.memories),
      c.in-Ok.ensures.frames,
      c.in-Ok.ensures.sound,
      subst (AllCached m c.in-Ok.store.stamps) (sym empty) tt,
    )
