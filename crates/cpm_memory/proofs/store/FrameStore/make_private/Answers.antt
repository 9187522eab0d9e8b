use Rattle.std.proofs.Common.{◌≡◌, ℕ, ◌<◌, length, sum, get_or, arith, ap, sym, ◌∙◌, subst, None, Some, ◌+◌, List, []}
use Rattle.std.proofs.lemmas.List.{get_or_read}
use Rattle.cpm_memory.specs.Frames.{Frames, Table, blank_table, owners_of, private_at, used_by, reserved_by, table_at}
use Rattle.cpm_memory.specs.Kept.{IsKept, table_with_frame}
use Rattle.cpm_memory.proofs.Copies.{owners_of-free, IsKept-copied, sum-lt, counts-length}
use Rattle.cpm_memory.proofs.store.FrameStore.make_private.Goals as goal

room_as : (s s' : Frames) (t : ℕ) → s ≡ s' → used_by (table_at s' t) < reserved_by (table_at s' t) → used_by (table_at s t) < reserved_by (table_at s t)
room_as s s' t e h = subst (λ (x : Frames). used_by (table_at x t) < reserved_by (table_at x t)) (sym e) h

pub find_free_frame-frame-requires : goal.find_free_frame-frame-requires
find_free_frame-frame-requires c =
    let i = c.self.inside in
    let s : Frames = record { private = i.private; frames = i.frames.items; tables = i.tables.items; stamps = i.stamps.items } in
    subst (λ (xs : List ℕ). sum xs < length xs) (sym c.deref.ensures.value) (sum-lt s i.owners.items i.reserved c.args.table c.self.invariant c.requires.table (room_as s c.args.self.now c.args.table c.self.view_is c.requires.reserved))

within_frames : (s : Frames) (counts : List ℕ) (reservations f : ℕ) → IsKept s counts reservations → f < length counts → (f < s.private) × (f < length s.frames) × (f < 16384)
within_frames s counts reservations f ok l =
    (omega (arith, counts-length s counts reservations ok), omega (arith, counts-length s counts reservations ok, ok.sound.frames), omega (arith, counts-length s counts reservations ok, ok.sound.bound))

pub index_mut-requires : goal.index_mut-requires
index_mut-requires c =
    let i = c.self.inside in
    let s : Frames = record { private = i.private; frames = i.frames.items; tables = i.tables.items; stamps = i.stamps.items } in
    let w = within_frames s i.owners.items i.reserved c.find_free_frame-frame.result c.self.invariant (subst (λ (xs : List ℕ). c.find_free_frame-frame.result < length xs) c.deref.ensures.value c.find_free_frame-frame.ensures.within) in
    omega (arith, w.1, i.frames.ok.0)

pub overflow_cast-frame : goal.overflow_cast-frame
overflow_cast-frame c =
    let i = c.self.inside in
    let s : Frames = record { private = i.private; frames = i.frames.items; tables = i.tables.items; stamps = i.stamps.items } in
    let w = within_frames s i.owners.items i.reserved c.find_free_frame-frame.result c.self.invariant (subst (λ (xs : List ℕ). c.find_free_frame-frame.result < length xs) c.deref.ensures.value c.find_free_frame-frame.ensures.within) in
    omega (arith, w.2)

pub overflow_cast-result : goal.overflow_cast-result
overflow_cast-result c =
    let i = c.self.inside in
    let s : Frames = record { private = i.private; frames = i.frames.items; tables = i.tables.items; stamps = i.stamps.items } in
    let w = within_frames s i.owners.items i.reserved c.find_free_frame-frame.result c.self.invariant (subst (λ (xs : List ℕ). c.find_free_frame-frame.result < length xs) c.deref.ensures.value c.find_free_frame-frame.ensures.within) in
    omega (arith, w.2)

pub returns-clause-private : goal.returns-clause-private
returns-clause-private c =
    let i = c.self.inside in
    let s : Frames = record { private = i.private; frames = i.frames.items; tables = i.tables.items; stamps = i.stamps.items } in
    let w = within_frames s i.owners.items i.reserved c.find_free_frame-frame.result c.self.invariant (subst (λ (xs : List ℕ). c.find_free_frame-frame.result < length xs) c.deref.ensures.value c.find_free_frame-frame.ensures.within) in
    subst (λ (x : Frames). c.find_free_frame-frame.result < x.private) c.self.view_is w.0

pub returns-clause-free : goal.returns-clause-free
returns-clause-free c =
    let i = c.self.inside in
    let s : Frames = record { private = i.private; frames = i.frames.items; tables = i.tables.items; stamps = i.stamps.items } in
    let w = within_frames s i.owners.items i.reserved c.find_free_frame-frame.result c.self.invariant (subst (λ (xs : List ℕ). c.find_free_frame-frame.result < length xs) c.deref.ensures.value c.find_free_frame-frame.ensures.within) in
    let free : get_or i.owners.items c.find_free_frame-frame.result 0 ≡ 0 = subst (λ (xs : List ℕ). get_or xs c.find_free_frame-frame.result 0 ≡ 0) c.deref.ensures.value c.find_free_frame-frame.ensures.free in
    ap (λ (x : Frames). owners_of x c.find_free_frame-frame.result) (sym c.self.view_is) ∙ owners_of-free s i.owners.items i.reserved c.find_free_frame-frame.result c.self.invariant w.0 free

pub invariant_of-self : goal.invariant_of-self
invariant_of-self c =
    let i = c.self.inside in
    let s : Frames = record { private = i.private; frames = i.frames.items; tables = i.tables.items; stamps = i.stamps.items } in
    let w = within_frames s i.owners.items i.reserved c.find_free_frame-frame.result c.self.invariant (subst (λ (xs : List ℕ). c.find_free_frame-frame.result < length xs) c.deref.ensures.value c.find_free_frame-frame.ensures.within) in
    let free : get_or i.owners.items c.find_free_frame-frame.result 0 ≡ 0 = subst (λ (xs : List ℕ). get_or xs c.find_free_frame-frame.result 0 ≡ 0) c.deref.ensures.value c.find_free_frame-frame.ensures.free in
    let shared : private_at s c.args.table c.args.page ≡ None = ap (λ (x : Frames). private_at x c.args.table c.args.page) c.self.view_is ∙ c.requires.shared in
    let from : c.args.source < s.private + 4 = subst (λ (x : Frames). c.args.source < x.private + 4) (sym c.self.view_is) c.requires.source in
    IsKept-copied s i.owners.items i.reserved c.args.table c.args.page c.find_free_frame-frame.result c.args.source c.index-bytes.result.now c.put.new.self c.self.invariant c.requires.table (omega arith) w.0 from free
    shared
    (room_as s c.args.self.now c.args.table c.self.view_is c.requires.reserved)
    (get_or_read i.frames.items c.args.source c.index-bytes.result.now (omega (arith, c.self.invariant.sound.frames, from)) c.index-bytes.ensures [])
    (c.put.ensures ∙ ap (λ (x : Table). table_with_frame x c.args.page (Some c.find_free_frame-frame.result)) (get_or_read i.tables.items c.args.table c.index_mut-3.result.now (omega (arith, c.requires.table, c.self.invariant.sound.tables)) c.index_mut-3.ensures.value blank_table))

pub returns-clause-sound : goal.returns-clause-sound
returns-clause-sound c = (invariant_of-self c).sound
