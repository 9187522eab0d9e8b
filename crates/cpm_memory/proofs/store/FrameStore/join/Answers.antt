use Rattle.std.proofs.Common.{◌≡◌, ◌+◌, ◌<◌, arith, ap, sym, ◌∙◌, subst, refl, ℕ, Some, None, get_or, set, length}
use Rattle.std.proofs.lemmas.List.{get_or_read}
use Rattle.cpm_memory.specs.Frames.{Frames, Table, private_at, table_at, blank_table, used_by, reserved_by}
use Rattle.cpm_memory.specs.Kept.{IsKept, table_with_frame}
use Rattle.cpm_memory.proofs.Copies.{private_at-read, counts-length}
use Rattle.cpm_memory.proofs.Joins.{IsKept-joined, count-most}
use Rattle.cpm_memory.proofs.store.FrameStore.join.Goals as goal
use Rattle.cpm_memory.proofs.store.FrameStore.join.Goals.{In-Some}

abbrev before : In-Some → Frames
before c = let i = c.self.inside in record { private = i.private; frames = i.frames.items; tables = i.tables.items; stamps = i.stamps.items }

at : (c : In-Some) → private_at (before c) c.args.source c.args.page ≡ Some c.in-Some.frame
at c = private_at-read (before c) (before c) c.args.source c.args.page c.index.result.now c.place.result c.self.invariant.sound c.requires.source refl c.index.ensures c.place.ensures.place ∙ c.in-Some.is

within : (c : In-Some) → c.in-Some.frame < length c.self.inside.owners.items
within c = omega (arith, c.self.invariant.sound.numbers c.args.source c.args.page c.in-Some.frame (at c), counts-length (before c) c.self.inside.owners.items c.self.inside.reserved c.self.invariant)

none : (c : In-Some) → private_at (before c) c.args.table c.args.page ≡ None
none c = ap (λ (x : Frames). private_at x c.args.table c.args.page) c.self.view_is ∙ c.requires.blank

room : (c : In-Some) → used_by (table_at (before c) c.args.table) < reserved_by (table_at (before c) c.args.table)
room c =
    subst (λ (x : Frames). used_by (table_at x c.args.table) < reserved_by (table_at x c.args.table)) (sym c.self.view_is)
    (c.requires.reserved c.in-Some.frame (ap (λ (x : Frames). private_at x c.args.source c.args.page) (sym c.self.view_is) ∙ at c))

pub index_mut-requires : goal.index_mut-requires
index_mut-requires c = let o = (goal.at.index_mut-requires c).In-Some in omega (arith, within o, c.self.inside.owners.ok.0)

read : (c : In-Some) (n : ℕ) → n ≡ get_or c.self.inside.owners.items c.in-Some.frame n → n ≡ get_or c.self.inside.owners.items c.in-Some.frame 0
read c n e = get_or_read c.self.inside.owners.items c.in-Some.frame n (within c) e 0

pub overflow_add-index_mut : goal.overflow_add-index_mut
overflow_add-index_mut c =
    let o = (goal.at.overflow_add-index_mut c).In-Some in
    let most = count-most (before o) c.self.inside.owners.items c.self.inside.reserved c.args.table c.args.page c.args.source c.args.page c.in-Some.frame c.self.invariant c.requires.table (omega arith) (none o) (at o) (room o) in
    omega (arith, most, read o c.index_mut.result.now c.index_mut.ensures.value)

pub invariant_of-self : goal.invariant_of-self
invariant_of-self c =
    let o = (goal.at.invariant_of-self c).In-Some in
    let s = before o in
    let f = c.in-Some.frame in
    let owners = c.self.inside.owners.items in
    let table : c.put.new.self ≡ table_with_frame (table_at s c.args.table) c.args.page (Some f) =
    c.put.ensures ∙ ap (λ (x : Table). table_with_frame x c.args.page (Some f)) (get_or_read s.tables c.args.table c.index_mut-in-Some.result.now (omega (arith, c.requires.table, c.self.invariant.sound.tables)) c.index_mut-in-Some.ensures.value blank_table) in
    subst (λ n. IsKept (record s { tables = set s.tables c.args.table c.put.new.self }) (set owners f (n + 1)) c.self.inside.reserved) (sym (read o c.index_mut.result.now c.index_mut.ensures.value))
    (subst (λ (x : Table). IsKept (record s { tables = set s.tables c.args.table x }) (set owners f (get_or owners f 0 + 1)) c.self.inside.reserved) (sym table)
    (IsKept-joined s owners c.self.inside.reserved c.args.table c.args.page c.args.source c.args.page f c.self.invariant c.requires.table (omega arith) (none o) (at o) (room o)))

pub returns-in-Some-clause-sound : goal.returns-in-Some-clause-sound
returns-in-Some-clause-sound c = (invariant_of-self c).sound
