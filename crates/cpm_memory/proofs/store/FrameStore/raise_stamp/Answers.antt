use Rattle.std.proofs.Common.{◌≡◌, ℕ, List, [], get_or, set, ap, sym, ◌∙◌}
use Rattle.std.proofs.lemmas.List.{get_or_read_under}
use Rattle.cpm_memory.specs.Frames.{Frames}
use Rattle.cpm_memory.specs.Kept.{with_stamp}
use Rattle.cpm_memory.specs.Stamps.{after_stamp}
use Rattle.cpm_memory.proofs.store.FrameStore.raise_stamp.Goals as goal

pub returns-clause-raised : goal.returns-clause-raised
unfolding after_stamp
returns-clause-raised c =
    let i = c.self.inside in
    let s : Frames = record { private = i.private; frames = i.frames.items; tables = i.tables.items; stamps = i.stamps.items } in
    let written : set c.index_mut-stamps.result.now c.args.page c.saturating_add.result ≡ after_stamp (get_or i.stamps.items c.args.table []) c.args.page =
    ap (λ n. set c.index_mut-stamps.result.now c.args.page n) c.saturating_add.ensures
    ∙ ap (λ xs. after_stamp xs c.args.page) (get_or_read_under i.stamps.items c.args.table 64 c.index_mut-stamps.result.now [] c.index_mut-stamps.ensures.value c.requires (sym c.self.invariant.sound.stamped.tables)) in
    ap (λ (xs : List ℕ). record s { stamps = set i.stamps.items c.args.table xs }) written
    ∙ ap (λ (x : Frames). with_stamp x c.args.table c.args.page) c.self.view_is
