use Rattle.std.proofs.Common.{◌≡◌, ℕ, ◌%◌, Some, get_or, arith, refl, sym, ap, ◌∙◌}
use Rattle.std.specs.Prelude.{slice_get}
use Rattle.std.proofs.lemmas.Option.{slice_get_read}
use Rattle.cpm_memory.specs.Contents.{byte_at}
use Rattle.cpm_memory.specs.Frames.{memories, memory_of}
use Rattle.cpm_slots.proofs.TableLaws.{IsSlot-at, IfSlot-at}
use Rattle.cpm_slots.proofs.ViewLaws.{contents-of}
use Rattle.cpm_slots.proofs.slots.peek_at.Goals as goal

pub place-frame-requires : goal.place-frame-requires
place-frame-requires c =
    let slots = c.args.slots.now in
    let slot = c.index-slots-index.result in
    let at : slice_get slots c.args.index ≡ Some slot = slice_get_read slots _ c.args.index slot refl c.requires.index c.index-slots-index.is in
    (IsSlot-at (memories c.args.store.now) slots c.args.index slot c.requires.have_tables.all at).taken

pub returns : goal.returns
returns c =
    let slots = c.args.slots.now in
    let slot = c.index-slots-index.result in
    let s = c.args.store.now in
    let a = c.args.address in
    let at : slice_get slots c.args.index ≡ Some slot = slice_get_read slots _ c.args.index slot refl c.requires.index c.index-slots-index.is in
    let taken = (IsSlot-at (memories s) slots c.args.index slot c.requires.have_tables.all at).taken in
    let moved : (n : ℕ) → n ≡ a → byte_at (memory_of s slot.table) n ≡ byte_at (memory_of s slot.table) a = λ n e. ap (byte_at (memory_of s slot.table)) e in
    IfSlot-at (memories s) slots c.args.index slot (λ x. get_or c.frame.result.now (a % 256) 0 ≡ byte_at x.state.memory a) at
    (ap (λ xs. get_or xs (a % 256) 0) c.frame.ensures.bytes
    ∙ sym (c.place-frame.ensures.bytes (a % 256) (omega arith))
    ∙ moved _ (omega arith)
    ∙ ap (λ m. byte_at m a) (sym (contents-of s slot.table taken)))
