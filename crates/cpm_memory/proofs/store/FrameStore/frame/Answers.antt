use Rattle.std.proofs.Common.{◌≡◌, ◌+◌, [], arith, ap, sym, ◌∙◌}
use Rattle.std.proofs.lemmas.List.{get_or_read}
use Rattle.cpm_memory.specs.Frames.{Frames, IsStoreSound, boot_of, frame_of}
use Rattle.cpm_memory.proofs.Places.{boot-bytes}
use Rattle.cpm_memory.proofs.Copies.{boot-lt}
use Rattle.cpm_memory.proofs.store.FrameStore.frame.Goals as goal

pub returns-clause-boot : goal.returns-clause-boot
returns-clause-boot c page l e =
    let i = c.self.inside in
    let s : Frames = record { private = i.private; frames = i.frames.items; tables = i.tables.items; stamps = i.stamps.items } in
    let ok : IsStoreSound s = c.self.invariant.sound in
    let number : c.args.frame ≡ s.private + boot_of page = e ∙ ap (λ (x : Frames). x.private + boot_of page) (sym c.self.view_is) in
    get_or_read s.frames c.args.frame c.index.result.now (omega (arith, number, boot-lt page, ok.frames)) c.index.ensures []
    ∙ ap (frame_of s) number
    ∙ boot-bytes s page ok l (boot-lt page)
