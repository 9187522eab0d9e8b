use Rattle.std.proofs.Common.{◌≡◌, Some, refl, length, take}
use Rattle.std.specs.Prelude.{slice_get}
use Rattle.std.proofs.lemmas.Option.{slice_get_read}
use Rattle.cpm_slots.specs.declared.event.Reply.TheVariants as reply
use Rattle.cpm_slots.specs.Serving.{take_call}
use Rattle.cpm_slots.specs.Slots.{contents_at}
use Rattle.cpm_slots.proofs.TableLaws.{IsSlot-at, served-alone, HaveTables-alone}
use Rattle.cpm_slots.proofs.CachedSlots.{AllCached-alone}
use Rattle.cpm_slots.proofs.slots.take_at.Goals as goal

pub returns-clause-served : goal.returns-clause-served
returns-clause-served c = λ system m.
    let slots = c.args.slots.now.items in
    let slot = c.index_mut-slot.result.now in
    let at : slice_get slots c.args.index ≡ Some slot = slice_get_read slots _ c.args.index slot refl c.requires c.index_mut-slot.ensures.value in
    served-alone system (take_call c.args.device (length c.args.out.now)) (reply.Bytes (record { items = take c.take_from.result c.take_from.new.out })) m slots c.args.index slot c.take_from.new.runner at (c.take_from.ensures.serves system (contents_at m slot.table))

pub returns-clause-have_tables : goal.returns-clause-have_tables
returns-clause-have_tables c = λ m k.
    let slots = c.args.slots.now.items in
    let slot = c.index_mut-slot.result.now in
    let at : slice_get slots c.args.index ≡ Some slot = slice_get_read slots _ c.args.index slot refl c.requires c.index_mut-slot.ensures.value in
    HaveTables-alone m slots c.args.index slot c.take_from.new.runner k at (c.take_from.ensures.sound (contents_at m slot.table) (IsSlot-at m slots c.args.index slot k.all at).sound) c.take_from.ensures.quota

pub returns-clause-cached : goal.returns-clause-cached
returns-clause-cached c = λ m stamps k.
    let slots = c.args.slots.now.items in
    let slot = c.index_mut-slot.result.now in
    let at : slice_get slots c.args.index ≡ Some slot = slice_get_read slots _ c.args.index slot refl c.requires c.index_mut-slot.ensures.value in
    AllCached-alone m stamps slots c.args.index slot c.take_from.new.runner k at c.take_from.ensures.cache
