use Rattle.std.proofs.Common.{ap, sym, ◌∙◌, count_by}
use Rattle.cpm_memory.specs.Frames.{Frames, is_table_taken, memories}
use Rattle.cpm_memory.specs.Reserved.{taken_in}
use Rattle.cpm_memory.proofs.Totals.{taken_in-tables}
use Rattle.cpm_memory.proofs.store.FrameStore.taken.Goals as goal

pub returns : goal.returns
returns c =
    let i = c.self.inside in
    let s : Frames = record { private = i.private; frames = i.frames.items; tables = i.tables.items; stamps = i.stamps.items } in
    c.count_taken.ensures ∙ ap (count_by is_table_taken) c.deref.ensures.value ∙ sym (taken_in-tables s c.self.invariant.sound) ∙ ap (λ x. taken_in (memories x)) c.self.view_is
