use Rattle.std.proofs.Common.{◌≡◌, Some, unwrap_or, refl, sym, ap, ◌∙◌}
use Rattle.std.specs.Prelude.{slice_get}
use Rattle.std.proofs.lemmas.Option.{slice_get_read}
use Rattle.cpm_memory.specs.Frames.{memories}
use Rattle.cpm_memory.specs.Opening.{opening}
use Rattle.cpm_machine.specs.Runner.{state_of}
use Rattle.cpm_machine.specs.Serve.{look_of}
use Rattle.cpm_slots.proofs.TableLaws.{IsSlot-at, IfSlot-at}
use Rattle.cpm_slots.proofs.slots.look_at.Goals as goal

pub view-view-requires : goal.view-view-requires
view-view-requires c =
    let slots = c.args.slots.now in
    let slot = c.index-slots-index.result in
    let at : slice_get slots c.args.index ≡ Some slot = slice_get_read slots _ c.args.index slot refl c.requires.index c.index-slots-index.is in
    (IsSlot-at (memories c.args.store.now) slots c.args.index slot c.requires.have_tables.all at).taken

pub returns-clause-look : goal.returns-clause-look
returns-clause-look c =
    let slots = c.args.slots.now in
    let slot = c.index-slots-index.result in
    let at : slice_get slots c.args.index ≡ Some slot = slice_get_read slots _ c.args.index slot refl c.requires.index c.index-slots-index.is in
    IfSlot-at (memories c.args.store.now) slots c.args.index slot (λ x. c.look_of.result ≡ look_of x.state) at
    (c.look_of.ensures ∙ ap (λ m. look_of (state_of slot.runner m)) (sym (ap (λ o. unwrap_or o (opening 0)) c.view-view.ensures.memory)))
