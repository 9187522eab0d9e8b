use Rattle.std.proofs.Common.{◌≡◌, ℕ, ◌+◌, ◌<◌, List, [], ◌∷◌, ◌++◌, get_or, refl, sym, ap, ◌∙◌, subst}
use Rattle.cpm_memory.specs.Contents.{Contents}
use Rattle.cpm_memory.specs.Flat.{flat_contents}
use Rattle.cpm_memory.specs.Frames.{Frames, memories}
use Rattle.cpm_memory.specs.Opening.{opening}
use Rattle.cpm_memory.specs.Reserved.{reserved_in}
use Rattle.cpm_machine.specs.MachineState.{MachineState}
use Rattle.cpm_machine.specs.Runner.{state_of}
use Rattle.cpm_slots.specs.declared.slots.Slot.{Slot}
use Rattle.cpm_slots.proofs.CachedSlots.{AllCached-more}
use Rattle.cpm_slots.proofs.CallLaws.{same-host}
use Rattle.cpm_slots.proofs.OpenHost.{new_slot, has-room, IsAdding, added-host, added-have_tables, added-is}
use Rattle.cpm_slots.proofs.OpenSlots.{none-at}
use Rattle.cpm_slots.proofs.RestoreHost.{place-for, fresh-memory, filled-memories, filled-taken}
use Rattle.cpm_slots.proofs.host.Host.add_restored.Goals as goal
use Rattle.cpm_slots.proofs.host.Host.add_restored.Goals.{After-push_reserved}

pub unreachable-requires : goal.unreachable-requires
unreachable-requires c =
    let i = c.self.inside in
    let now = c.args.self.now.host in
    let quota = c.args.runner.quota in
    let place = place-for now (state_of c.args.runner (flat_contents c.args.memory.now)) c.requires.slot c.requires.frames in
    has-room i.system i.frames i.openings now (memories i.store) i.slots.items quota (same-host c.self.view_is) c.self.invariant.1 place
    (subst (λ n. n < reserved_in (memories i.store) + quota) c.self.invariant.2 (c.in_default.ensures.refused.0 refl))

pub fill-requires-clause-fresh : goal.fill-requires-clause-fresh
fill-requires-clause-fresh c =
    fresh-memory c.self.inside.store c.reserve.new.self c.in-Ok.table c.args.runner.quota c.in-Ok.ensures.free c.in-Ok.ensures.memories c.in-Ok.ensures.taken
    ∙ ap opening (sym c.requires.sound.limit)

-- the store after, the slot that is pushed, its memory and its state
abbrev after : After-push_reserved → Frames
after c = c.fill.new.self

abbrev made : After-push_reserved → Slot
made c = new_slot c.self.inside.openings c.args.runner c.in-Ok.table

abbrev memory-of : After-push_reserved → Contents
memory-of c = flat_contents c.args.memory.now

abbrev state-of : After-push_reserved → MachineState
state-of c = state_of c.args.runner (memory-of c)

added : (c : After-push_reserved) → IsAdding c.self.inside.system c.self.inside.frames c.args.self.now.host (memories c.self.inside.store) (memories (after c)) c.self.inside.slots.items c.push_reserved.new.self.items (made c) (memory-of c) (state-of c)
added c =
    let i = c.self.inside in
    let t = c.in-Ok.table in
    let reserved = memories c.reserve.new.self in
    record {
      view = same-host c.self.view_is;
      place = place-for c.args.self.now.host (state-of c) c.requires.slot c.requires.frames;
      host = c.self.invariant.0;
      have_tables = c.self.invariant.1;
      added = record {
        free = none-at i.store t c.in-Ok.ensures.free;
        is = filled-memories (memories i.store) reserved (memories (after c)) t (opening c.args.runner.quota) (memory-of c) c.in-Ok.ensures.memories c.fill.ensures.memories;
        taken = filled-taken reserved (memories (after c)) t (memory-of c) c.in-Ok.ensures.taken c.fill.ensures.memories;
        state = refl;
        sound = c.requires.sound;
      };
      pushed = c.push_reserved.ensures.items ∙ ap (λ xs. xs ++ made c ∷ []) c.try_reserve.ensures.items;
    }

stamps : (c : After-push_reserved) → (after c).stamps ≡ c.self.inside.store.stamps
stamps c = c.fill.ensures.stamps ∙ ap (λ (x : Frames). x.stamps) c.in-Ok.ensures.reserved

pub invariant_of-self-2 : goal.invariant_of-self-2
invariant_of-self-2 d =
    let c = (goal.at.invariant_of-self-2 d).After-push_reserved in
    let i = c.self.inside in
    let old = memories i.store in
    let new = memories (after c) in
    let a = added c in (
      added-host i.system i.frames c.args.self.now.host old new i.slots.items c.push_reserved.new.self.items (made c) (memory-of c) (state-of c) a,
      added-have_tables i.system i.frames c.args.self.now.host old new i.slots.items c.push_reserved.new.self.items (made c) (memory-of c) (state-of c) a,
      c.fill.ensures.frames ∙ ap (λ (x : Frames). x.private) c.in-Ok.ensures.reserved ∙ c.self.invariant.2,
      c.fill.ensures.sound,
      AllCached-more old new i.store.stamps (after c).stamps i.slots.items c.push_reserved.new.self.items (made c) (memory-of c) a.have_tables.all c.self.invariant.4 a.added.free a.added.is
          (λ t ne. ap (λ (all : List (List ℕ)). get_or all t []) (stamps c)) a.pushed c.requires.right,
    )

pub returns-clause-added : goal.returns-clause-added
returns-clause-added d =
    let c = (goal.at.returns-clause-added d).After-push_reserved in
    let i = c.self.inside in
    added-is i.system i.frames c.args.self.now.host (memories i.store) (memories (after c)) i.slots.items c.push_reserved.new.self.items (made c) (memory-of c) (state-of c) (added c)
