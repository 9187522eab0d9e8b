use Rattle.std.proofs.Common.{◌≡◌, ◌+◌, ◌<◌, ◌≤◌, arith, ap, sym, ◌∙◌, subst, refl, Some, None, is_some, get_or, set, length, List, count_by, unwrap_or}
use Rattle.std.proofs.lemmas.Bool.{false≢true}
use Rattle.std.proofs.lemmas.List.{get_or_read, get_or-set_same}
use Rattle.cpm_memory.specs.Opening.{opening}
use Rattle.cpm_memory.specs.Tabulated.{length-tabulated}
use Rattle.cpm_memory.specs.Frames.{Frames, Table, table_at, blank_table, is_table_taken, memory_at, memories, used_by, reserved_by, reserved_of}
use Rattle.cpm_memory.specs.Reserved.{taken_in, reserved_in}
use Rattle.cpm_memory.specs.Kept.{IsKept}
use Rattle.cpm_memory.proofs.Reservations.{memories-reserved, IsKept-reservation}
use Rattle.cpm_memory.proofs.Totals.{taken_in-tables, reserved_in-tables}
use Rattle.cpm_memory.proofs.store.FrameStore.reserve.Goals as goal
use Rattle.cpm_memory.proofs.store.FrameStore.reserve.Goals.{After-at}

pub find_free_table-index-requires : goal.find_free_table-index-requires
find_free_table-index-requires c =
    let i = c.self.inside in
    let s : Frames = record { private = i.private; frames = i.frames.items; tables = i.tables.items; stamps = i.stamps.items } in
    subst (λ (xs : List Table). count_by is_table_taken xs < length xs) (sym c.deref.ensures.value) (omega (arith, c.requires.tables, ap (λ x. taken_in (memories x)) c.self.view_is, taken_in-tables s c.self.invariant.sound, c.self.invariant.sound.tables))

pub returns-then-self-pages-clause-refused : goal.returns-then-self-pages-clause-refused
returns-then-self-pages-clause-refused c =
    let i = c.self.inside in
    let s : Frames = record { private = i.private; frames = i.frames.items; tables = i.tables.items; stamps = i.stamps.items } in
    let reserved = reserved_in-tables s c.self.invariant.sound in
    let more : c.args.self.now.private < reserved_in (memories c.args.self.now) + c.args.pages =
    subst (λ (x : Frames). x.private < reserved_in (memories x) + c.args.pages) c.self.view_is (omega (arith, reserved, c.self.invariant.reserved, c.self.invariant.sound.reserved, c.if-self-pages.true)) in
    ((λ _. more), (λ _. refl))

-- the store before, and the table that is taken
abbrev before : After-at → Frames
before c = let i = c.self.inside in record { private = i.private; frames = i.frames.items; tables = i.tables.items; stamps = i.stamps.items }

within : (c : After-at) → c.find_free_table-index.result < 64
within c = omega (arith, c.find_free_table-index.ensures.within, ap length c.deref.ensures.value, c.self.invariant.sound.tables)

free : (c : After-at) → used_by (table_at (before c) c.find_free_table-index.result) ≡ 0
free c =
    c.self.invariant.sound.blank c.find_free_table-index.result (ap (λ (xs : List Table). (get_or xs c.find_free_table-index.result blank_table).reservation) (sym c.deref.ensures.value) ∙ c.find_free_table-index.ensures.blank)

taken : (c : After-at) → c.reserve.new.self ≡ record (table_at (before c) c.find_free_table-index.result) { reservation = Some c.args.pages }
taken c =
    c.reserve.ensures ∙ ap (λ (x : Table). record x { reservation = Some c.args.pages }) (get_or_read (before c).tables c.find_free_table-index.result c.index_mut.result.now (omega (arith, within c, c.self.invariant.sound.tables)) c.index_mut.ensures.value blank_table)

none-before : (c : After-at) → reserved_by (table_at (before c) c.find_free_table-index.result) ≡ 0
none-before c =
    ap (λ o. unwrap_or o 0) (ap (λ (xs : List Table). (get_or xs c.find_free_table-index.result blank_table).reservation) (sym c.deref.ensures.value) ∙ c.find_free_table-index.ensures.blank)

fits : (c : After-at) → reserved_of (before c) + c.args.pages ≤ (before c).private
fits c = omega (arith, c.if-self-pages.false, c.self.invariant.reserved, c.self.invariant.sound.reserved)

pub invariant_of-self : goal.invariant_of-self
invariant_of-self c =
    let s = before c in
    let t = c.find_free_table-index.result in
    subst (λ (x : Table). IsKept (record s { tables = set s.tables t x }) c.self.inside.owners.items (c.self.inside.reserved + c.args.pages)) (sym (taken c))
    (IsKept-reservation s t (Some c.args.pages) c.self.invariant.sound (within c) (free c) c.requires.pages (omega (arith, fits c)) c.self.inside.owners.items c.self.inside.reserved (c.self.inside.reserved + c.args.pages) c.self.invariant
    (omega (arith, none-before c)))

pub returns-clause-memories : goal.returns-clause-memories
returns-clause-memories c =
    let s = before c in
    let t = c.find_free_table-index.result in
    ap (λ (x : Table). memories (record s { tables = set s.tables t x })) (taken c)
    ∙ memories-reserved s t (Some c.args.pages) c.self.invariant.sound (within c) (free c) c.requires.pages (omega (arith, fits c)) c.args.pages refl
    ∙ ap (λ x. set (memories x) t (Some (opening c.args.pages))) c.self.view_is
    ∙ ap (λ k. set (memories c.args.self.now) k (Some (opening c.args.pages))) (sym c.at.ensures)

pub returns-clause-taken : goal.returns-clause-taken
returns-clause-taken c =
    let t = c.at.result in
    let old = memories c.args.self.now in
    ap (λ m. is_some (get_or m t None)) (returns-clause-memories c)
    ∙ ap is_some (get_or-set_same old t (Some (opening c.args.pages)) None (omega (arith, within c, c.at.ensures, length-tabulated 64 (memory_at c.args.self.now))))

pub returns-clause-refused : goal.returns-clause-refused
returns-clause-refused c =
    let kept : reserved_in (memories c.args.self.now) + c.args.pages ≤ c.args.self.now.private =
    subst (λ (x : Frames). reserved_in (memories x) + c.args.pages ≤ x.private) c.self.view_is (omega (arith, reserved_in-tables (before c) c.self.invariant.sound, fits c)) in
    ((λ e. absurd (false≢true e)), (λ more. absurd (omega (arith, kept, more))))
