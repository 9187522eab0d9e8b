use Rattle.std.proofs.Common.{◌≡◌, Some, refl, ap, ◌∙◌}
use Rattle.std.specs.Prelude.{slice_get}
use Rattle.std.proofs.lemmas.Option.{slice_get_read}
use Rattle.cpm_memory.specs.Frames.{memories}
use Rattle.cpm_machine.specs.MachineState.{MachineState}
use Rattle.cpm_machine.specs.Calls.{Grant}
use Rattle.cpm_machine.specs.Runner.{state_of}
use Rattle.cpm_machine.specs.ToWait.{executed_to_wait}
use Rattle.cpm_slots.specs.Serving.{all_granted}
use Rattle.cpm_slots.specs.Slots.{contents_at}
use Rattle.cpm_slots.proofs.OrderLaws.{quota-after}
use Rattle.cpm_slots.proofs.ServeLaws.{works}
use Rattle.cpm_slots.proofs.TableLaws.{IfSlot-at, IsSlot-at, served-on, HaveTables-on}
use Rattle.cpm_slots.proofs.CachedSlots.{IsCached-at, AllCached-on}
use Rattle.cpm_slots.proofs.wait_grant.work_at.Goals as goal

pub work_in_table-requires-clause-taken : goal.work_in_table-requires-clause-taken
work_in_table-requires-clause-taken c =
    let slots = c.args.slots.now.items in
    let slot = c.index_mut-slot.result.now in
    let at : slice_get slots c.args.index ≡ Some slot = slice_get_read slots _ c.args.index slot refl c.requires.index c.index_mut-slot.ensures.value in
    (IsSlot-at (memories c.args.store.now) slots c.args.index slot c.requires.have_tables.all at).taken

pub work_in_table-requires-clause-sound : goal.work_in_table-requires-clause-sound
work_in_table-requires-clause-sound c =
    let slots = c.args.slots.now.items in
    let slot = c.index_mut-slot.result.now in
    let at : slice_get slots c.args.index ≡ Some slot = slice_get_read slots _ c.args.index slot refl c.requires.index c.index_mut-slot.ensures.value in
    (IsSlot-at (memories c.args.store.now) slots c.args.index slot c.requires.have_tables.all at).sound

pub work_in_table-requires-clause-right : goal.work_in_table-requires-clause-right
work_in_table-requires-clause-right c =
    let slots = c.args.slots.now.items in
    let slot = c.index_mut-slot.result.now in
    let at : slice_get slots c.args.index ≡ Some slot = slice_get_read slots _ c.args.index slot refl c.requires.index c.index_mut-slot.ensures.value in
    IsCached-at (memories c.args.store.now) c.args.store.now.stamps slots c.args.index slot c.requires.cached at

pub returns-clause-served : goal.returns-clause-served
returns-clause-served c =
    let slots = c.args.slots.now.items in
    let slot = c.index_mut-slot.result.now in
    let old = memories c.args.store.now in
    let new = memories c.work_in_table.new.store in
    let at : slice_get slots c.args.index ≡ Some slot = slice_get_read slots _ c.args.index slot refl c.requires.index c.index_mut-slot.ensures.value in
    let k = c.work_in_table.result in
    served-on c.args.system.now (Grant k) (all_granted k) old new slots c.args.index slot c.work_in_table.new.runner c.requires.have_tables at c.work_in_table.ensures.others
    (works c.args.system.now c.args.steps k (state_of slot.runner (contents_at old slot.table)) (state_of c.work_in_table.new.runner (contents_at new slot.table)) c.work_in_table.ensures.executed c.work_in_table.ensures.state)

pub returns-clause-executed : goal.returns-clause-executed
returns-clause-executed c =
    let slots = c.args.slots.now.items in
    let slot = c.index_mut-slot.result.now in
    let at : slice_get slots c.args.index ≡ Some slot = slice_get_read slots _ c.args.index slot refl c.requires.index c.index_mut-slot.ensures.value in
    IfSlot-at (memories c.args.store.now) slots c.args.index slot (λ x. c.work_in_table.result ≡ executed_to_wait c.args.system.now c.args.steps x.state) at
    c.work_in_table.ensures.executed

pub returns-clause-have_tables : goal.returns-clause-have_tables
returns-clause-have_tables c =
    let slots = c.args.slots.now.items in
    let slot = c.index_mut-slot.result.now in
    let old = memories c.args.store.now in
    let at : slice_get slots c.args.index ≡ Some slot = slice_get_read slots _ c.args.index slot refl c.requires.index c.index_mut-slot.ensures.value in
    HaveTables-on old (memories c.work_in_table.new.store) slots c.args.index slot c.work_in_table.new.runner c.requires.have_tables at c.work_in_table.ensures.others c.work_in_table.ensures.sound
    (ap (λ (s : MachineState). s.quota) c.work_in_table.ensures.state ∙ quota-after c.args.system.now c.work_in_table.result (state_of slot.runner (contents_at old slot.table)))

pub returns-clause-cached : goal.returns-clause-cached
returns-clause-cached c =
    let slots = c.args.slots.now.items in
    let slot = c.index_mut-slot.result.now in
    let old = c.args.store.now in
    let new = c.work_in_table.new.store in
    let at : slice_get slots c.args.index ≡ Some slot = slice_get_read slots _ c.args.index slot refl c.requires.index c.index_mut-slot.ensures.value in
    AllCached-on (memories old) (memories new) old.stamps new.stamps slots c.args.index slot c.work_in_table.new.runner c.requires.have_tables.all c.requires.cached at c.work_in_table.ensures.others c.work_in_table.ensures.stamps c.work_in_table.ensures.right
