use Rattle.std.proofs.Common.{◌≡◌, Some, refl, ap, ◌∙◌}
use Rattle.std.specs.Prelude.{slice_get}
use Rattle.std.proofs.lemmas.Option.{slice_get_read}
use Rattle.cpm_memory.specs.Frames.{memories}
use Rattle.cpm_machine.specs.MachineState.{MachineState}
use Rattle.cpm_machine.specs.Runner.{state_of}
use Rattle.cpm_slots.specs.declared.event.Reply.TheVariants as reply
use Rattle.cpm_slots.specs.Serving.{grant_call}
use Rattle.cpm_slots.specs.Slots.{contents_at}
use Rattle.cpm_slots.proofs.OrderLaws.{quota-after}
use Rattle.cpm_slots.proofs.ServeLaws.{grants}
use Rattle.cpm_slots.proofs.TableLaws.{IsSlot-at, served-on, HaveTables-on}
use Rattle.cpm_slots.proofs.CachedSlots.{IsCached-at, AllCached-on}
use Rattle.cpm_slots.proofs.slots.grant_at.Goals as goal

pub grant_table-requires-clause-taken : goal.grant_table-requires-clause-taken
grant_table-requires-clause-taken c =
    let slots = c.args.slots.now.items in
    let slot = c.index_mut-slot.result.now in
    let at : slice_get slots c.args.index ≡ Some slot = slice_get_read slots _ c.args.index slot refl c.requires.index c.index_mut-slot.ensures.value in
    (IsSlot-at (memories c.args.store.now) slots c.args.index slot c.requires.have_tables.all at).taken

pub grant_table-requires-clause-sound : goal.grant_table-requires-clause-sound
grant_table-requires-clause-sound c =
    let slots = c.args.slots.now.items in
    let slot = c.index_mut-slot.result.now in
    let at : slice_get slots c.args.index ≡ Some slot = slice_get_read slots _ c.args.index slot refl c.requires.index c.index_mut-slot.ensures.value in
    (IsSlot-at (memories c.args.store.now) slots c.args.index slot c.requires.have_tables.all at).sound

pub grant_table-requires-clause-right : goal.grant_table-requires-clause-right
grant_table-requires-clause-right c =
    let slots = c.args.slots.now.items in
    let slot = c.index_mut-slot.result.now in
    let at : slice_get slots c.args.index ≡ Some slot = slice_get_read slots _ c.args.index slot refl c.requires.index c.index_mut-slot.ensures.value in
    IsCached-at (memories c.args.store.now) c.args.store.now.stamps slots c.args.index slot c.requires.cached at

pub returns-clause-served : goal.returns-clause-served
returns-clause-served c =
    let slots = c.args.slots.now.items in
    let slot = c.index_mut-slot.result.now in
    let old = memories c.args.store.now in
    let new = memories c.grant_table.new.store in
    let at : slice_get slots c.args.index ≡ Some slot = slice_get_read slots _ c.args.index slot refl c.requires.index c.index_mut-slot.ensures.value in
    served-on c.args.system.now (grant_call c.args.stop c.args.steps) (reply.Granted c.grant_table.result) old new slots c.args.index slot c.grant_table.new.runner c.requires.have_tables at c.grant_table.ensures.others
    (grants c.args.system.now c.args.stop c.args.steps c.grant_table.result (state_of slot.runner (contents_at old slot.table)) (state_of c.grant_table.new.runner (contents_at new slot.table)) c.grant_table.ensures.executed c.grant_table.ensures.state c.grant_table.ensures.why)

pub returns-clause-have_tables : goal.returns-clause-have_tables
returns-clause-have_tables c =
    let slots = c.args.slots.now.items in
    let slot = c.index_mut-slot.result.now in
    let old = memories c.args.store.now in
    let at : slice_get slots c.args.index ≡ Some slot = slice_get_read slots _ c.args.index slot refl c.requires.index c.index_mut-slot.ensures.value in
    HaveTables-on old (memories c.grant_table.new.store) slots c.args.index slot c.grant_table.new.runner c.requires.have_tables at c.grant_table.ensures.others c.grant_table.ensures.sound
    (ap (λ (s : MachineState). s.quota) c.grant_table.ensures.state ∙ quota-after c.args.system.now c.grant_table.result.executed (state_of slot.runner (contents_at old slot.table)))

pub returns-clause-cached : goal.returns-clause-cached
returns-clause-cached c =
    let slots = c.args.slots.now.items in
    let slot = c.index_mut-slot.result.now in
    let old = c.args.store.now in
    let new = c.grant_table.new.store in
    let at : slice_get slots c.args.index ≡ Some slot = slice_get_read slots _ c.args.index slot refl c.requires.index c.index_mut-slot.ensures.value in
    AllCached-on (memories old) (memories new) old.stamps new.stamps slots c.args.index slot c.grant_table.new.runner c.requires.have_tables.all c.requires.cached at c.grant_table.ensures.others c.grant_table.ensures.stamps c.grant_table.ensures.right
