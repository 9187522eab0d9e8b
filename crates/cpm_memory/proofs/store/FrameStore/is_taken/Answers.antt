use Rattle.std.proofs.Common.{◌≡◌, arith, ap, sym, ◌∙◌, is_some, None, get_or}
use Rattle.std.proofs.lemmas.List.{get_or_read}
use Rattle.cpm_memory.specs.Frames.{Frames, Table, blank_table, memories}
use Rattle.cpm_memory.specs.Memories.{is_some-memory}
use Rattle.cpm_memory.proofs.store.FrameStore.is_taken.Goals as goal

pub returns : goal.returns
returns c =
    let i = c.self.inside in
    let s : Frames = record { private = i.private; frames = i.frames.items; tables = i.tables.items; stamps = i.stamps.items } in
    let t = c.index.result in
    let e : c.is_some.result ≡ is_some (get_or (memories c.args.self.now) c.args.table None) =
    c.is_some.ensures
    ∙ ap is_some c.reservation.ensures
    ∙ ap (λ (x : Table). is_some x.reservation) (get_or_read s.tables t c.index-2.result.now (omega (arith, c.index.ensures.within, c.self.invariant.sound.tables)) c.index-2.ensures blank_table)
    ∙ sym (is_some-memory s t c.index.ensures.within)
    ∙ ap (λ x. is_some (get_or (memories x) t None)) c.self.view_is
    ∙ ap (λ k. is_some (get_or (memories c.args.self.now) k None)) c.index.ensures.index in
    ((λ q. sym e ∙ q), (λ q. e ∙ q))
