use Rattle.std.proofs.Common.{◌≡◌, ◌≢◌, ◌<◌, arith, ap, sym, ◌∙◌, subst, None, Some}
use Rattle.cpm_memory.specs.Frames.{HasReservation, IsTableTaken, table_at, memories, memory_at, frame_of_page}
use Rattle.cpm_memory.specs.Kept.{with_table, with_reservation}
use Rattle.cpm_memory.specs.Memories.{HasReservation-taken}
use Rattle.cpm_memory.proofs.Joins.{Shares, Shares-none, Shares-more, apart, room-joined, shared-whole, places-shared, others-shared, memories-shared, taken-shared}
use Rattle.cpm_memory.proofs.store.FrameStore.share.Goals as goal
use Rattle.cpm_memory.proofs.store.FrameStore.share.Goals.{After-index-index, After-loop-page}

pub reserve-requires-clause-pages : goal.reserve-requires-clause-pages
reserve-requires-clause-pages c = omega (arith, c.limit-pages.ensures.pages, c.limit-pages.ensures.sound.limits c.index-source.result)

taken : (c : After-index-index) → HasReservation c.args.self.now c.index-source.result
taken c = subst (HasReservation c.args.self.now) (sym c.index-source.ensures.index) (HasReservation-taken c.args.self.now c.args.table (omega (arith, c.index-source.ensures.index, c.index-source.ensures.within)) c.requires.taken)

free : (c : After-index-index) → memory_at c.args.self.now c.index-index.result ≡ None
free c = ap (memory_at c.args.self.now) c.index-index.ensures.index ∙ c.in_ok-target.ensures.free

reserved : (c : After-index-index) → c.reserve.new.self ≡ with_reservation c.args.self.now c.index-index.result (Some c.limit-pages.result)
reserved c = c.in_ok-target.ensures.reserved ∙ ap (λ t. with_reservation c.args.self.now t (Some c.limit-pages.result)) (sym c.index-index.ensures.index)

other : (c : After-index-index) → c.index-source.result ≢ c.index-index.result
other c =
    apart c.args.self.now c.reserve.new.self c.index-index.result c.index-source.result c.limit-pages.result c.limit-pages.ensures.sound c.index-index.ensures.within c.index-source.ensures.within (free c) (taken c) c.limit-pages.ensures.pages (reserved c)

pub loop-page-init : goal.loop-page-init
loop-page-init c =
    let o = (goal.at.loop-page-init c).After-index-index in
    Shares-none c.args.self.now c.reserve.new.self c.index-index.result c.index-source.result c.limit-pages.result c.limit-pages.ensures.sound c.index-index.ensures.within c.index-source.ensures.within (free o) (taken o) c.limit-pages.ensures.pages (reserved o) c.reserve.ensures.sound

pub join-requires-clause-reserved : goal.join-requires-clause-reserved
join-requires-clause-reserved c f at =
    let o = (goal.at.join-requires-clause-reserved c).After-index-index in
    room-joined c.reserve.new.self c.loop-page.self c.index-index.result c.index-source.result c.loop-page.page c.index-index.ensures.within c.index-source.ensures.within c.loop-page-test.true (other o) c.loop-page.invariant f at

pub loop-page-preserved : goal.loop-page-preserved
loop-page-preserved c =
    let o = (goal.at.loop-page-preserved c).After-index-index in
    Shares-more c.reserve.new.self c.loop-page.self c.index-index.result c.index-source.result c.loop-page.page c.index-index.ensures.within c.index-source.ensures.within c.loop-page-test.true (other o) c.loop-page.invariant c.join.new.self c.join.ensures.sound c.join.ensures.joined

shared : (c : After-loop-page) → c.loop-page.self ≡ with_table c.args.self.now c.in_ok-target.target (table_at c.args.self.now c.args.table)
shared c =
    let o = (goal.at.returns-clause-shared c).After-index-index in
    let last : c.loop-page.page ≡ 256 = omega (arith, c.loop-page-test.false, c.loop-page.auto.page-end) in
    shared-whole c.args.self.now c.reserve.new.self c.index-index.result c.index-source.result c.limit-pages.result c.limit-pages.ensures.sound c.index-index.ensures.within c.index-source.ensures.within (free o) (taken o) c.limit-pages.ensures.pages (reserved o) c.loop-page.self
    (subst (Shares c.reserve.new.self c.loop-page.self c.index-index.result c.index-source.result) last c.loop-page.invariant)
    ∙ ap (λ u. with_table c.args.self.now c.index-index.result (table_at c.args.self.now u)) c.index-source.ensures.index
    ∙ ap (λ t. with_table c.args.self.now t (table_at c.args.self.now c.args.table)) c.index-index.ensures.index

-- the two tables
within : (c : After-loop-page) → c.in_ok-target.target < 64
within c = omega (arith, c.index-index.ensures.index, c.index-index.ensures.within)

held : (c : After-loop-page) → HasReservation c.args.self.now c.args.table
held c = HasReservation-taken c.args.self.now c.args.table (omega (arith, c.index-source.ensures.index, c.index-source.ensures.within)) c.requires.taken

pub returns-clause-shared : goal.returns-clause-shared
returns-clause-shared c = shared c

pub returns-clause-memories : goal.returns-clause-memories
returns-clause-memories c = ap memories (shared c) ∙ memories-shared c.args.self.now c.in_ok-target.target c.args.table c.limit-pages.ensures.sound (within c) (held c)

pub returns-clause-taken : goal.returns-clause-taken
returns-clause-taken c = subst (λ x. IsTableTaken x c.in_ok-target.target) (sym (shared c)) (taken-shared c.args.self.now c.in_ok-target.target c.args.table c.limit-pages.ensures.sound (within c) (held c))

pub returns-clause-places : goal.returns-clause-places
returns-clause-places c page = ap (λ x. frame_of_page x c.in_ok-target.target page) (shared c) ∙ places-shared c.args.self.now c.in_ok-target.target c.args.table c.limit-pages.ensures.sound (within c) (held c) page

pub returns-clause-others : goal.returns-clause-others
returns-clause-others c t page ne = ap (λ x. frame_of_page x t page) (shared c) ∙ others-shared c.args.self.now c.in_ok-target.target c.args.table c.limit-pages.ensures.sound (within c) (held c) t page ne
