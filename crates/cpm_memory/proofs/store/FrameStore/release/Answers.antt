use Rattle.std.proofs.Common.{◌≡◌, ◌≢◌, ℕ, ◌+◌, ◌<◌, ◌-◌, arith, ap, sym, ◌∙◌, subst, None, set}
use Rattle.std.proofs.lemmas.List.{get_or_read, set-set}
use Rattle.cpm_memory.specs.Frames.{Frames, Table, IsStoreSound, table_at, blank_table, empty_table, used_by, reserved_by, memories, private_at, owners_of, pages_on}
use Rattle.cpm_memory.specs.Kept.{IsKept, table_with_frame, with_table}
use Rattle.cpm_memory.proofs.Reservations.{private_at-shared, used-none, reserved_by-le, IsKept-reservation, memories-released, owners_of-released, empty-from, released-from}
use Rattle.cpm_memory.proofs.store.FrameStore.release.Goals as goal
use Rattle.cpm_memory.proofs.store.FrameStore.release.Goals.{After-give_up-pages}

pub loop-page-preserved : goal.loop-page-preserved
loop-page-preserved c =
    let s = c.loop-page.self in
    let t = c.index-index.result in
    let page = c.loop-page.page in
    let e = c.make_shared.ensures.shared in
    record {
      sound = c.make_shared.ensures.sound;
      private = ap (λ (x : Frames). x.private) e ∙ c.loop-page.invariant.private;
      frames = ap (λ (x : Frames). x.frames) e ∙ c.loop-page.invariant.frames;
      stamps = ap (λ (x : Frames). x.stamps) e ∙ c.loop-page.invariant.stamps;
      others = ap (λ (x : Frames). set x.tables t empty_table) e ∙ set-set s.tables t (table_with_frame (table_at s t) page None) empty_table ∙ c.loop-page.invariant.others;
      shared = λ k l. ap (λ x. private_at x t k) e ∙ private_at-shared s t page k c.loop-page.invariant.sound (omega arith) c.loop-page-test.true (λ (ne : k ≢ page). c.loop-page.invariant.shared k (omega arith));
    }

-- the store when all its pages have their boot frames
abbrev cleared : After-give_up-pages → Frames
cleared c = let i = c.self-2.inside in record { private = i.private; frames = i.frames.items; tables = i.tables.items; stamps = i.stamps.items }

none-private : (c : After-give_up-pages) (k : ℕ) → k < 256 → private_at (cleared c) c.index-index.result k ≡ None
none-private c k l = ap (λ x. private_at x c.index-index.result k) c.self-2.view_is ∙ c.loop-page.invariant.shared k (omega arith)

read : (c : After-give_up-pages) → c.index_mut.result.now ≡ table_at (cleared c) c.index-index.result
read c =
    get_or_read (cleared c).tables c.index-index.result c.index_mut.result.now (omega (arith, c.index-index.ensures.within, c.self-2.invariant.sound.tables)) c.index_mut.ensures.value blank_table

given : (c : After-give_up-pages) → c.give_up-pages.new.self ≡ record (table_at (cleared c) c.index-index.result) { reservation = None }
given c = c.give_up-pages.ensures.given ∙ ap (λ (x : Table). record x { reservation = None }) (read c)

pub invariant_of-self : goal.invariant_of-self
invariant_of-self c =
    let o = (goal.at.invariant_of-self c).After-give_up-pages in
    let i = c.self-2.inside in
    let s = cleared o in
    let t = c.index-index.result in
    let ok : IsStoreSound s = c.self-2.invariant.sound in
    let lt : t < 64 = c.index-index.ensures.within in
    let blank : used_by (table_at s t) ≡ 0 = used-none s t ok lt (none-private o) in
    let pages : c.give_up-pages.result ≡ reserved_by (table_at s t) = c.give_up-pages.ensures.pages ∙ ap reserved_by (read o) in
    subst (λ (x : Table). IsKept (record s { tables = set s.tables t x }) i.owners.items (i.reserved - c.give_up-pages.result)) (sym (given o))
    (IsKept-reservation s t None ok lt blank (omega arith) (omega (arith, ok.reserved)) i.owners.items i.reserved (i.reserved - c.give_up-pages.result) c.self-2.invariant
    (omega (arith, pages, reserved_by-le s t ok lt, c.self-2.invariant.reserved)))

pub returns-clause-sound : goal.returns-clause-sound
returns-clause-sound c = (invariant_of-self c).sound

before : (c : After-give_up-pages) → IsStoreSound c.args.self.now
before c = subst IsStoreSound c.self.view_is c.self.invariant.sound

within : (c : After-give_up-pages) → c.args.table < 64
within c = omega (arith, c.index-index.ensures.index, c.index-index.ensures.within)

released : (c : After-give_up-pages) → with_table (cleared c) c.index-index.result c.give_up-pages.new.self ≡ with_table c.args.self.now c.args.table empty_table
released c =
    released-from c.args.self.now (cleared c) c.index-index.result c.give_up-pages.new.self
    (empty-from (cleared c) c.index-index.result c.self-2.invariant.sound c.index-index.ensures.within c.give_up-pages.new.self (none-private c) (given c))
    (ap (λ (x : Frames). x.private) c.self-2.view_is ∙ c.loop-page.invariant.private)
    (ap (λ (x : Frames). x.frames) c.self-2.view_is ∙ c.loop-page.invariant.frames)
    (ap (λ (x : Frames). x.stamps) c.self-2.view_is ∙ c.loop-page.invariant.stamps)
    (ap (λ (x : Frames). set x.tables c.index-index.result empty_table) c.self-2.view_is ∙ c.loop-page.invariant.others)
    ∙ ap (λ t. with_table c.args.self.now t empty_table) c.index-index.ensures.index

pub returns-clause-released : goal.returns-clause-released
returns-clause-released c = released (goal.at.returns-clause-released c).After-give_up-pages

pub returns-clause-memories : goal.returns-clause-memories
returns-clause-memories c =
    let o = (goal.at.returns-clause-memories c).After-give_up-pages in
    ap memories (released o) ∙ memories-released c.args.self.now c.args.table (before o) (within o)

pub returns-clause-freed : goal.returns-clause-freed
returns-clause-freed c frame =
    let o = (goal.at.returns-clause-freed c).After-give_up-pages in
    ap (λ x. owners_of x frame + pages_on frame (table_at c.args.self.now c.args.table)) (released o) ∙ owners_of-released c.args.self.now c.args.table (before o) (within o) frame
