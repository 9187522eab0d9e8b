use Rattle.std.proofs.Common.{◌≡◌, Some, refl, sym, ◌∙◌, subst}
use Rattle.std.specs.Prelude.{slice_get}
use Rattle.std.proofs.lemmas.Option.{slice_get_read}
use Rattle.std.proofs.lemmas.Result.{IfOk-weaker}
use Rattle.cpm_memory.specs.Contents.{Contents}
use Rattle.cpm_memory.specs.Flat.{flat_contents}
use Rattle.cpm_memory.specs.Frames.{memories}
use Rattle.cpm_machine.specs.Runner.{state_of, IsRunnerSound}
use Rattle.cpm_machine.specs.Saving.{saving_with}
use Rattle.cpm_slots.specs.Host.{SlotState}
use Rattle.cpm_slots.specs.Restoring.{IsSavingBytes}
use Rattle.cpm_slots.specs.Slots.{contents_at}
use Rattle.cpm_slots.proofs.RestoreHost.{saving-bytes}
use Rattle.cpm_slots.proofs.TableLaws.{IsSlot-at, IfSlot-at}
use Rattle.cpm_slots.proofs.ViewLaws.{contents-of}
use Rattle.cpm_slots.proofs.saved.save_at.Goals as goal

pub reflect-requires : goal.reflect-requires
reflect-requires c =
    let slots = c.args.slots.now in
    let slot = c.index-slots-index.result in
    let at : slice_get slots c.args.index ≡ Some slot = slice_get_read slots _ c.args.index slot refl c.requires.index c.index-slots-index.is in
    (IsSlot-at (memories c.args.store.now) slots c.args.index slot c.requires.have_tables.all at).taken

pub save-requires : goal.save-requires
save-requires c =
    let slots = c.args.slots.now in
    let slot = c.index-slots-index.result in
    let m = memories c.args.store.now in
    let at : slice_get slots c.args.index ≡ Some slot = slice_get_read slots _ c.args.index slot refl c.requires.index c.index-slots-index.is in
    let there = IsSlot-at m slots c.args.index slot c.requires.have_tables.all at in
    let same : contents_at m slot.table ≡ flat_contents c.reflect.new.self = contents-of c.args.store.now slot.table there.taken ∙ sym c.reflect.ensures.contents in
    subst (λ (memory : Contents). IsRunnerSound (state_of slot.runner memory)) same there.sound

pub returns : goal.returns
returns c =
    let slots = c.args.slots.now in
    let slot = c.index-slots-index.result in
    let m = memories c.args.store.now in
    let at : slice_get slots c.args.index ≡ Some slot = slice_get_read slots _ c.args.index slot refl c.requires.index c.index-slots-index.is in
    let taken = (IsSlot-at m slots c.args.index slot c.requires.have_tables.all at).taken in
    let same : flat_contents c.reflect.new.self ≡ contents_at m slot.table = c.reflect.ensures.contents ∙ sym (contents-of c.args.store.now slot.table taken) in
    let saving = saving_with c.args.digest.now (state_of slot.runner (flat_contents c.reflect.new.self)) in
    IfOk-weaker c.save.result (λ v. IsSavingBytes saving v.items) _
    (λ v h. IfSlot-at m slots c.args.index slot (λ (x : SlotState). IsSavingBytes (saving_with c.args.digest.now x.state) v.items) at
    (subst (λ (memory : Contents). IsSavingBytes (saving_with c.args.digest.now (state_of slot.runner memory)) v.items) same h))
    (saving-bytes (λ v. v.items) c.save.result saving c.save.ensures.saved c.save.ensures.restores)
