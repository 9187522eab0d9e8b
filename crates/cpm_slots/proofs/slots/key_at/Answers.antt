use Rattle.std.proofs.Common.{◌≡◌, Some, refl}
use Rattle.std.specs.Prelude.{slice_get}
use Rattle.std.proofs.lemmas.Option.{slice_get_read}
use Rattle.cpm_machine.specs.Calls.{Key}
use Rattle.cpm_slots.specs.Host.{key_reply}
use Rattle.cpm_slots.specs.Slots.{contents_at}
use Rattle.cpm_slots.proofs.TableLaws.{IsSlot-at, served-alone, HaveTables-alone}
use Rattle.cpm_slots.proofs.CachedSlots.{AllCached-alone}
use Rattle.cpm_slots.proofs.slots.key_at.Goals as goal

pub returns-clause-served : goal.returns-clause-served
returns-clause-served c = λ system m.
    let slots = c.args.slots.now.items in
    let slot = c.index_mut-slot.result.now in
    let at : slice_get slots c.args.index ≡ Some slot = slice_get_read slots _ c.args.index slot refl c.requires c.index_mut-slot.ensures.value in
    served-alone system (Key c.args.key) (key_reply c.press.result) m slots c.args.index slot c.press.new.runner at (c.press.ensures.serves system (contents_at m slot.table))

pub returns-clause-have_tables : goal.returns-clause-have_tables
returns-clause-have_tables c = λ m k.
    let slots = c.args.slots.now.items in
    let slot = c.index_mut-slot.result.now in
    let at : slice_get slots c.args.index ≡ Some slot = slice_get_read slots _ c.args.index slot refl c.requires c.index_mut-slot.ensures.value in
    HaveTables-alone m slots c.args.index slot c.press.new.runner k at (c.press.ensures.sound (contents_at m slot.table) (IsSlot-at m slots c.args.index slot k.all at).sound) c.press.ensures.quota

pub returns-clause-cached : goal.returns-clause-cached
returns-clause-cached c = λ m stamps k.
    let slots = c.args.slots.now.items in
    let slot = c.index_mut-slot.result.now in
    let at : slice_get slots c.args.index ≡ Some slot = slice_get_read slots _ c.args.index slot refl c.requires c.index_mut-slot.ensures.value in
    AllCached-alone m stamps slots c.args.index slot c.press.new.runner k at c.press.ensures.cache
