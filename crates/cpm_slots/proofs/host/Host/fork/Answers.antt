use Rattle.std.proofs.Common.{◌≡◌, ◌+◌, ◌<◌, false, List, [], ◌∷◌, ◌++◌, Option, get_or, refl, sym, ap, ◌∙◌, subst}
use Rattle.std.specs.Prelude.{slice_get, IfSome}
use Rattle.cpm_memory.specs.Contents.{Contents}
use Rattle.cpm_memory.specs.Frames.{Frames, memories, memory_of, frame_of_page, reserved_by, table_at}
use Rattle.cpm_memory.specs.Reserved.{reserved_in}
use Rattle.cpm_machine.specs.MachineState.{MachineState}
use Rattle.cpm_machine.specs.Runner.{state_of}
use Rattle.cpm_slots.specs.declared.slots.Slot.{Slot}
use Rattle.cpm_slots.specs.Host.{lacks_slot, lacks_frames}
use Rattle.cpm_slots.specs.HostWithStore.{HostWithStore, table_of}
use Rattle.cpm_slots.specs.Index.{IsAtIndex}
use Rattle.cpm_slots.specs.Slots.{contents_at, slots_of, tables_of}
use Rattle.cpm_slots.proofs.CachedSlots.{AllCached-more}
use Rattle.cpm_slots.proofs.ForkHost.{IsSource, IsForking, adding, same-slot, source-of, source-forked, source-taken, source-fits, source-room, within-slots, tables-more, table-new}
use Rattle.cpm_slots.proofs.OpenHost.{new_slot, IsAdding, added-host, added-have_tables, added-is}
use Rattle.cpm_slots.proofs.SlotTables.{index-table}
use Rattle.cpm_slots.proofs.host.Host.fork.Goals as goal
use Rattle.cpm_slots.proofs.host.Host.fork.Goals.{After-push_reserved}

pub share-requires-clause-taken : goal.share-requires-clause-taken
share-requires-clause-taken c =
    let i = c.self.inside in
    let all : (m : List (Option Contents)) → IsAtIndex c.args.id.0 (slots_of m i.slots.items) c.in-Some.index = rw c.deref.ensures.value at c.in-Some.ensures in
    let within = within-slots i.store i.slots.items c.args.id.0 c.in-Some.index all in
    let p = c.index-3.result.now in
    let read : p ≡ get_or i.slots.items c.in-Some.index p = rw c.try_reserve.ensures.items at c.index-3.ensures in
    let source = source-of i.system i.frames i.openings c.args.self.now i.store i.slots.items c.args.id.0 c.in-Some.index p c.self.view_is c.self.invariant.1 all read in
    source-taken i.system i.frames i.openings c.args.self.now.host i.store i.slots.items c.args.id.0 c.in-Some.index p source

pub unreachable-requires : goal.unreachable-requires
unreachable-requires c =
    let i = c.self.inside in
    let all : (m : List (Option Contents)) → IsAtIndex c.args.id.0 (slots_of m i.slots.items) c.in-Some.index = rw c.deref.ensures.value at c.in-Some.ensures in
    let within = within-slots i.store i.slots.items c.args.id.0 c.in-Some.index all in
    let p = c.index-3.result.now in
    let read : p ≡ get_or i.slots.items c.in-Some.index p = rw c.try_reserve.ensures.items at c.index-3.ensures in
    let source = source-of i.system i.frames i.openings c.args.self.now i.store i.slots.items c.args.id.0 c.in-Some.index p c.self.view_is c.self.invariant.1 all read in
    let first : c.index.result.now ≡ p = same-slot i.slots.items c.in-Some.index c.index.result.now p within c.index.ensures read in
    let slot : lacks_slot c.args.self.now.host ≡ false = sym c.lacks_slot.ensures ∙ c.if-lacks_slot.false in
    let frame : lacks_frames c.args.self.now.host p.runner.quota ≡ false = ap (λ (x : Slot). lacks_frames c.args.self.now.host x.runner.quota) (sym first) ∙ sym c.lacks_frames.ensures ∙ c.if-lacks_frames.false in
    source-room i.system i.frames i.openings c.args.self.now.host i.store i.slots.items c.args.id.0 c.in-Some.index p source slot frame
    (subst (λ n. n < reserved_in (memories i.store) + reserved_by (table_at i.store p.table)) c.self.invariant.2 (c.in_default-share.ensures.refused.0 refl))

-- the store after, the slot that is copied, and the slot that is pushed
abbrev after : After-push_reserved → Frames
after c = c.share.new.self

abbrev parent : After-push_reserved → Slot
parent c = c.index-3.result.now

abbrev child : After-push_reserved → Slot
child c = new_slot c.self.inside.openings c.in-Ok.runner c.in-Ok-share.table

abbrev slots-before : After-push_reserved → List Slot
slots-before c = c.self.inside.slots.items

index-of : (c : After-push_reserved) (m : List (Option Contents)) → IsAtIndex c.args.id.0 (slots_of m (slots-before c)) c.in-Some.index
index-of c = rw c.deref.ensures.value at c.in-Some.ensures

read : (c : After-push_reserved) → parent c ≡ get_or (slots-before c) c.in-Some.index (parent c)
read c = rw c.try_reserve.ensures.items at c.index-3.ensures

source : (c : After-push_reserved) → IsSource c.self.inside.system c.self.inside.frames c.self.inside.openings c.args.self.now.host c.self.inside.store (slots-before c) c.args.id.0 c.in-Some.index (parent c)
source c =
    let i = c.self.inside in
    source-of i.system i.frames i.openings c.args.self.now i.store i.slots.items c.args.id.0 c.in-Some.index (parent c) c.self.view_is c.self.invariant.1 (index-of c) (read c)

first : (c : After-push_reserved) → c.index.result.now ≡ parent c
first c = same-slot (slots-before c) c.in-Some.index c.index.result.now (parent c) (within-slots c.self.inside.store (slots-before c) c.args.id.0 c.in-Some.index (index-of c)) c.index.ensures (read c)

second : (c : After-push_reserved) → c.index-2.result.now ≡ parent c
second c = same-slot (slots-before c) c.in-Some.index c.index-2.result.now (parent c) (within-slots c.self.inside.store (slots-before c) c.args.id.0 c.in-Some.index (index-of c)) c.index-2.ensures (read c)

slot : (c : After-push_reserved) → lacks_slot c.args.self.now.host ≡ false
slot c = sym c.lacks_slot.ensures ∙ c.if-lacks_slot.false

frame : (c : After-push_reserved) → lacks_frames c.args.self.now.host (parent c).runner.quota ≡ false
frame c = ap (λ (x : Slot). lacks_frames c.args.self.now.host x.runner.quota) (sym (first c)) ∙ sym c.lacks_frames.ensures ∙ c.if-lacks_frames.false

pushed : (c : After-push_reserved) → c.push_reserved.new.self.items ≡ slots-before c ++ child c ∷ []
pushed c = c.push_reserved.ensures.items ∙ ap (λ xs. xs ++ child c ∷ []) c.try_reserve.ensures.items

forking : (c : After-push_reserved) → IsForking c.self.inside.system c.self.inside.frames c.args.self.now.host c.self.inside.store (after c) (slots-before c) c.push_reserved.new.self.items c.args.id.0 c.in-Some.index (parent c) (child c)
forking c = record {
  source = source c;
  host = c.self.invariant.0;
  slot = slot c;
  frame = frame c;
  free = c.in-Ok-share.ensures.free;
  shared = c.in-Ok-share.ensures.memories;
  taken = c.in-Ok-share.ensures.taken;
  state = λ memory. c.in-Ok.ensures.state memory ∙ ap (λ (x : Slot). state_of x.runner memory) (second c);
  pushed = pushed c;
}

abbrev copied : After-push_reserved → Contents
copied c = memory_of c.self.inside.store (parent c).table

abbrev state-of : After-push_reserved → MachineState
state-of c = state_of (parent c).runner (contents_at (memories c.self.inside.store) (parent c).table)

added : (c : After-push_reserved) → IsAdding c.self.inside.system c.self.inside.frames c.args.self.now.host (memories c.self.inside.store) (memories (after c)) (slots-before c) c.push_reserved.new.self.items (child c) (copied c) (state-of c)
added c = adding c.self.inside.system c.self.inside.frames c.args.self.now.host c.self.inside.store (after c) (slots-before c) c.push_reserved.new.self.items c.args.id.0 c.in-Some.index (parent c) (child c) (forking c)

pub invariant_of-self-2 : goal.invariant_of-self-2
invariant_of-self-2 d =
    let c = (goal.at.invariant_of-self-2 d).After-push_reserved in
    let i = c.self.inside in
    let old = memories i.store in
    let new = memories (after c) in
    let a = added c in (
      added-host i.system i.frames c.args.self.now.host old new i.slots.items c.push_reserved.new.self.items (child c) (copied c) (state-of c) a,
      added-have_tables i.system i.frames c.args.self.now.host old new i.slots.items c.push_reserved.new.self.items (child c) (copied c) (state-of c) a,
      ap (λ (x : Frames). x.private) c.in-Ok-share.ensures.shared ∙ c.self.invariant.2,
      c.share.ensures.sound,
      AllCached-more old new i.store.stamps (after c).stamps i.slots.items c.push_reserved.new.self.items (child c) (copied c) a.have_tables.all c.self.invariant.4 a.added.free a.added.is
          c.in-Ok-share.ensures.other_stamps a.pushed c.in-Ok.ensures.cache,
    )

pub returns-clause-forked : goal.returns-clause-forked
returns-clause-forked d =
    let c = (goal.at.returns-clause-forked d).After-push_reserved in
    let i = c.self.inside in
    added-is i.system i.frames c.args.self.now.host (memories i.store) (memories (after c)) i.slots.items c.push_reserved.new.self.items (child c) (copied c) (state-of c) (added c)
    ∙ sym (source-forked i.system i.frames i.openings c.args.self.now.host i.store i.slots.items c.args.id.0 c.in-Some.index (parent c) (source c))

pub returns-clause-fits : goal.returns-clause-fits
returns-clause-fits d =
    let c = (goal.at.returns-clause-fits d).After-push_reserved in
    let i = c.self.inside in
    source-fits i.system i.frames i.openings c.args.self.now.host i.store i.slots.items c.args.id.0 c.in-Some.index (parent c) (source c) (slot c) (frame c)

pub returns-clause-pages : goal.returns-clause-pages
returns-clause-pages d =
    let c = (goal.at.returns-clause-pages d).After-push_reserved in
    let i = c.self.inside in
    let p = parent c in
    let at : IfSome (slice_get i.slots.items c.in-Some.index) (λ (x : Slot). p.table ≡ x.table) = subst (λ (o : Option Slot). IfSome o (λ (x : Slot). p.table ≡ x.table)) (sym (source c).at) refl in
    record {
      table = p.table;
      shared = (child c).table;
      named = ap (λ (x : HostWithStore). table_of c.args.id.0 x.tables) (sym c.self.view_is)
          ∙ index-table c.args.id.0 c.in-Some.index p.table (memories i.store) i.slots.items c.self.invariant.0.ordered (index-of c (memories i.store)) at;
      child_named = ap (λ xs. table_of i.openings (tables_of xs)) (pushed c) ∙ table-new i.openings (memories i.store) i.slots.items (child c) c.self.invariant.0.below refl;
      tables = ap tables_of (pushed c) ∙ tables-more i.slots.items (child c) ∙ ap (λ (x : HostWithStore). x.tables ++ record { id = i.openings; table = (child c).table } ∷ []) c.self.view_is;
      places = λ page. c.in-Ok-share.ensures.places page ∙ ap (λ (x : HostWithStore). frame_of_page x.store p.table page) c.self.view_is;
      others = λ t page ne. c.in-Ok-share.ensures.others t page ne ∙ ap (λ (x : HostWithStore). frame_of_page x.store t page) c.self.view_is;
      frames = c.share.ensures.frames ∙ ap (λ (x : HostWithStore). x.store.frames) c.self.view_is;
    }
