use Rattle.std.proofs.Common.{◌≡◌, List, Option, None, sym, ap, ◌∙◌, subst}
use Rattle.std.specs.Prelude.{slice_get, IfSome}
use Rattle.cpm_memory.specs.Contents.{Contents}
use Rattle.cpm_memory.specs.Frames.{memories, IsTableTaken}
use Rattle.cpm_slots.specs.declared.slots.Slot.{Slot}
use Rattle.cpm_slots.specs.Host.{slot_at}
use Rattle.cpm_slots.specs.Index.{IsAtIndex}
use Rattle.cpm_slots.specs.HostWithStore.{HostWithStore, table_of, table_reply, IsInTable}
use Rattle.cpm_slots.specs.Slots.{slots_of, host_with_store}
use Rattle.cpm_slots.proofs.SlotTables.{sits, no-table, index-table, index-taken}
use Rattle.cpm_slots.proofs.StoreLaws.{in_table-there}
use Rattle.cpm_slots.proofs.host.Host.table.Goals as goal

pub returns-in-None-clause-table : goal.returns-in-None-clause-table
returns-in-None-clause-table c =
    let s = c.self.inside in
    let m = memories s.store in
    let all : (m : List (Option Contents)) → slot_at c.args.id.0 (slots_of m s.slots.items) ≡ None = rw c.deref.ensures.value at c.in-None.ensures in
    ap table_reply (sym (no-table m s.slots.items c.args.id.0 (all m))) ∙ ap (λ (x : HostWithStore). table_reply (table_of c.args.id.0 x.tables)) c.self.view_is

pub returns-in-None-clause-refused : goal.returns-in-None-clause-refused
returns-in-None-clause-refused c =
    let s = c.self.inside in
    let all : (m : List (Option Contents)) → slot_at c.args.id.0 (slots_of m s.slots.items) ≡ None = rw c.deref.ensures.value at c.in-None.ensures in
    ap (λ (x : HostWithStore). slot_at c.args.id.0 x.host.slots) (sym c.self.view_is) ∙ all (memories s.store)

pub returns-in-Some-clause-table : goal.returns-in-Some-clause-table
returns-in-Some-clause-table c =
    let s = c.self.inside in
    let m = memories s.store in
    let all : (m : List (Option Contents)) → IsAtIndex c.args.id.0 (slots_of m s.slots.items) c.in-Some.index = rw c.deref.ensures.value at c.in-Some.ensures in
    let at : IfSome (slice_get s.slots.items c.in-Some.index) (λ (x : Slot). c.table_at.result ≡ x.table) = rw c.deref-in-Some.ensures.value at c.table_at.ensures in
    let named = index-table c.args.id.0 c.in-Some.index c.table_at.result m s.slots.items c.self.invariant.0.ordered (all m) at in
    ap table_reply (sym named) ∙ ap (λ (x : HostWithStore). table_reply (table_of c.args.id.0 x.tables)) c.self.view_is

pub returns-in-Some-clause-in_table : goal.returns-in-Some-clause-in_table
returns-in-Some-clause-in_table c =
    let s = c.self.inside in
    let m = memories s.store in
    let h : HostWithStore = host_with_store s.system s.frames s.openings s.store s.slots.items in
    let all : (m : List (Option Contents)) → IsAtIndex c.args.id.0 (slots_of m s.slots.items) c.in-Some.index = rw c.deref.ensures.value at c.in-Some.ensures in
    let at : IfSome (slice_get s.slots.items c.in-Some.index) (λ (x : Slot). c.table_at.result ≡ x.table) = rw c.deref-in-Some.ensures.value at c.table_at.ensures in
    let named = index-table c.args.id.0 c.in-Some.index c.table_at.result m s.slots.items c.self.invariant.0.ordered (all m) at in
    subst (λ (x : HostWithStore). IfSome (slot_at c.args.id.0 x.host.slots) (λ state. IsInTable x c.args.id.0 state c.table_at.result)) c.self.view_is
    (in_table-there h c.args.id.0 c.table_at.result c.self.invariant.3 named (sits m s.slots.items c.args.id.0 c.self.invariant.1.all))

pub returns-in-Some-clause-taken : goal.returns-in-Some-clause-taken
returns-in-Some-clause-taken c =
    let s = c.self.inside in
    let m = memories s.store in
    let at : IfSome (slice_get s.slots.items c.in-Some.index) (λ (x : Slot). c.table_at.result ≡ x.table) = rw c.deref-in-Some.ensures.value at c.table_at.ensures in
    let all : (m : List (Option Contents)) → IsAtIndex c.args.id.0 (slots_of m s.slots.items) c.in-Some.index = rw c.deref.ensures.value at c.in-Some.ensures in
    subst (λ (x : HostWithStore). IsTableTaken x.store c.table_at.result) c.self.view_is
    (index-taken c.args.id.0 c.in-Some.index c.table_at.result m s.slots.items c.self.invariant.1.all (all m) at)
