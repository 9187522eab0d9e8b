use Rattle.std.proofs.Common.{◌≡◌, ℕ, ◌+◌, ◌<◌, List, [], ◌∷◌, ◌++◌, get_or, refl, sym, ap, ◌∙◌, subst}
use Rattle.cpm_memory.specs.Contents.{Contents}
use Rattle.cpm_memory.specs.Frames.{Frames, memories}
use Rattle.cpm_memory.specs.Reserved.{reserved_in}
use Rattle.cpm_memory.specs.Opening.{opening}
use Rattle.cpm_decode.specs.Cache.{IsRightFor}
use Rattle.cpm_decode.specs.declared.cache.DecodeCache.{DecodeCache}
use Rattle.cpm_machine.specs.MachineState.{MachineState}
use Rattle.cpm_slots.specs.Host.{opened_slot}
use Rattle.cpm_slots.specs.declared.slots.Slot.{Slot}
use Rattle.cpm_slots.proofs.CallLaws.{same-host}
use Rattle.cpm_slots.proofs.OrderLaws.{has-index}
use Rattle.cpm_slots.proofs.OpenHost.{new_slot, has-room, IsAdding, added-host, added-have_tables, added-is}
use Rattle.cpm_slots.proofs.OpenSlots.{IsSound-opened, has-quota, none-at}
use Rattle.cpm_slots.proofs.CachedSlots.{AllCached-more}
use Rattle.cpm_slots.proofs.host.Host.open.Goals as goal
use Rattle.cpm_slots.proofs.host.Host.open.Goals.{After-push_reserved}

pub unreachable-requires : goal.unreachable-requires
unreachable-requires c =
    let i = c.self.inside in
    let o = c.args.opening in
    has-room i.system i.frames i.openings c.args.self.now.host (memories i.store) i.slots.items o.quota (same-host c.self.view_is) c.self.invariant.1 (has-index c.args.self.now.host o (sym c.in_default.ensures.refusal))
    (subst (λ n. n < reserved_in (memories i.store) + o.quota) c.self.invariant.2 (c.in_default-reserve.ensures.refused.0 refl))

-- the store after, the slot that is pushed, its memory and its state
abbrev after : After-push_reserved → Frames
after c = c.reserve.new.self

abbrev made : After-push_reserved → Slot
made c = new_slot c.self.inside.openings c.opened-runner.result c.in-Ok-reserve.table

abbrev memory-of : After-push_reserved → Contents
memory-of c = opening c.args.opening.quota

abbrev state-of : After-push_reserved → MachineState
state-of c = opened_slot c.args.opening

added : (c : After-push_reserved) → IsAdding c.self.inside.system c.self.inside.frames c.args.self.now.host (memories c.self.inside.store) (memories (after c)) c.self.inside.slots.items c.push_reserved.new.self.items (made c) (memory-of c) (state-of c)
added c =
    let o = c.args.opening in
    let fits = sym c.in_default.ensures.refusal in
    record {
      view = same-host c.self.view_is;
      place = has-index c.args.self.now.host o fits;
      host = c.self.invariant.0;
      have_tables = c.self.invariant.1;
      added = record {
        free = none-at c.self.inside.store (made c).table c.in-Ok-reserve.ensures.free;
        is = c.in-Ok-reserve.ensures.memories;
        taken = c.in-Ok-reserve.ensures.taken;
        state = c.opened-runner.ensures.state;
        sound = IsSound-opened o (has-quota c.args.self.now.host o fits).0;
      };
      pushed = c.push_reserved.ensures.items ∙ ap (λ xs. xs ++ made c ∷ []) c.try_reserve.ensures.items;
    }

stamps : (c : After-push_reserved) → (after c).stamps ≡ c.self.inside.store.stamps
stamps c = ap (λ (x : Frames). x.stamps) c.in-Ok-reserve.ensures.reserved

pub invariant_of-self-2 : goal.invariant_of-self-2
invariant_of-self-2 d =
    let c = (goal.at.invariant_of-self-2 d).After-push_reserved in
    let i = c.self.inside in
    let old = memories i.store in
    let new = memories (after c) in
    let a = added c in (
      added-host i.system i.frames c.args.self.now.host old new i.slots.items c.push_reserved.new.self.items (made c) (memory-of c) (state-of c) a,
      added-have_tables i.system i.frames c.args.self.now.host old new i.slots.items c.push_reserved.new.self.items (made c) (memory-of c) (state-of c) a,
      ap (λ (x : Frames). x.private) c.in-Ok-reserve.ensures.reserved ∙ c.self.invariant.2,
      c.reserve.ensures.sound,
      AllCached-more old new i.store.stamps (after c).stamps i.slots.items c.push_reserved.new.self.items (made c) (memory-of c) a.have_tables.all c.self.invariant.4 a.added.free a.added.is
          (λ t ne. ap (λ (all : List (List ℕ)). get_or all t []) (stamps c)) a.pushed
          (λ contents stamps. subst (λ (cache : DecodeCache). IsRightFor contents stamps cache) (sym c.opened-runner.ensures.cache) (c.in-Ok-new.ensures contents stamps)),
    )

pub returns-clause-opened : goal.returns-clause-opened
returns-clause-opened d =
    let c = (goal.at.returns-clause-opened d).After-push_reserved in
    let i = c.self.inside in
    added-is i.system i.frames c.args.self.now.host (memories i.store) (memories (after c)) i.slots.items c.push_reserved.new.self.items (made c) (memory-of c) (state-of c) (added c)
