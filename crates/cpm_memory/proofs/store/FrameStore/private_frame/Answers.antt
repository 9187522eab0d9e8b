use Rattle.std.proofs.Common.{◌≢◌, refl, arith, sym, ap, ◌∙◌}
use Rattle.cpm_memory.specs.Frames.{Frames, owners_at, frame_of_page, memory_of}
use Rattle.cpm_memory.proofs.Bytes.{IsAlone-counted, is_written-at, place_of-cases}
use Rattle.cpm_memory.proofs.Copies.{IsCopy, IsCopy-from, alone-after, free-before, copied-detached, room-detached}
use Rattle.cpm_memory.proofs.store.FrameStore.private_frame.Goals as goal
use Rattle.cpm_memory.proofs.store.FrameStore.private_frame.Goals.{After-make_private, After-owners_at, After-make_shared}

several : (c : After-make_shared) → owners_at c.args.self.now c.args.table c.args.page ≢ 1
several c e = c.if-owners_at-eq1.false (c.owners_at.ensures.owners ∙ e)

pub make_private-requires-clause-reserved : goal.make_private-requires-clause-reserved
make_private-requires-clause-reserved c = room-detached c.args.self.now c.make_shared.new.self c.args.table c.args.page c.owners_at.ensures.sound c.requires.table (omega arith) c.requires.room c.make_shared.ensures.shared

copied : (c : After-make_private) → IsCopy c.args.self.now c.make_private.new.self c.args.table c.args.page
copied c =
    let s = c.args.self.now in
    let ok = c.owners_at.ensures.sound in
    IsCopy-from s c.make_private.new.self c.args.table c.args.page c.make_private.result ok c.requires.table (omega arith)
    (omega (arith, c.make_private.ensures.private, ap (λ (x : Frames). x.private) c.make_shared.ensures.shared))
    (free-before s c.make_shared.new.self c.args.table c.args.page c.make_private.result ok c.requires.table (omega arith) (several (goal.at.returns-clause-others c).After-make_shared) c.make_shared.ensures.shared c.make_private.ensures.free)
    (copied-detached s c.make_shared.new.self c.make_private.new.self c.args.table c.args.page c.make_private.result c.place_at-frame.result (omega (arith, ok.tables, c.requires.table)) c.make_shared.ensures.shared c.place_at-frame.ensures.place c.make_private.ensures.copied)

pub returns-clause-written : goal.returns-clause-written
returns-clause-written c = (copied (goal.at.returns-clause-written c).After-make_private).written

pub returns-clause-others : goal.returns-clause-others
returns-clause-others c = (copied (goal.at.returns-clause-others c).After-make_private).others

pub returns-clause-moves : goal.returns-clause-moves
returns-clause-moves c = (copied (goal.at.returns-clause-moves c).After-make_private).moves

pub returns-clause-alone : goal.returns-clause-alone
returns-clause-alone c =
    alone-after c.make_shared.new.self c.make_private.new.self c.args.table c.args.page c.make_private.result c.place_at-frame.result c.make_shared.ensures.sound c.requires.table (omega arith) c.make_private.ensures.private c.make_private.ensures.free c.make_private.ensures.copied

pub returns-then-owners_at-eq1-clause-alone : goal.returns-then-owners_at-eq1-clause-alone
returns-then-owners_at-eq1-clause-alone c = IsAlone-counted c.args.self.now c.args.table c.args.page c.owners_at.ensures.sound (sym c.owners_at.ensures.owners ∙ c.if-owners_at-eq1.true)

pub returns-then-owners_at-eq1-clause-written : goal.returns-then-owners_at-eq1-clause-written
returns-then-owners_at-eq1-clause-written c =
    let s = c.args.self.now in
    let t = c.args.table in
    let page = c.args.page in
    let alone = returns-then-owners_at-eq1-clause-alone c in
    ap (λ w. record (memory_of s t) { written = w }) (sym (is_written-at s t page (frame_of_page s t page) (place_of-cases s t page (frame_of_page s t page) alone.private refl)))
