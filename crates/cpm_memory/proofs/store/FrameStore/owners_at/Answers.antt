use Rattle.std.proofs.Common.{◌≡◌, ℕ, ◌<◌, arith, sym, ◌∙◌, Some, ap, refl, get_or, unwrap_or, option_map, length}
use Rattle.std.proofs.lemmas.List.{get_or_read}
use Rattle.cpm_memory.proofs.Reservations.{count-is}
use Rattle.cpm_memory.proofs.Copies.{private_at-read, counts-length}
use Rattle.cpm_memory.specs.Frames.{Frames, private_at, owners_of, owners_at}
use Rattle.cpm_memory.proofs.store.FrameStore.owners_at.Goals as goal
use Rattle.cpm_memory.proofs.store.FrameStore.owners_at.Goals.{In-Some, In-None}

abbrev before : In-Some → Frames
before c = let i = c.self.inside in record { private = i.private; frames = i.frames.items; tables = i.tables.items; stamps = i.stamps.items }

at : (c : In-Some) → private_at (before c) c.args.table c.args.page ≡ Some c.in-Some.frame
at c = private_at-read (before c) (before c) c.args.table c.args.page c.index.result.now c.place.result c.self.invariant.sound c.requires refl c.index.ensures c.place.ensures.place ∙ c.in-Some.is

within : (c : In-Some) → c.in-Some.frame < length c.self.inside.owners.items
within c = omega (arith, c.self.invariant.sound.numbers c.args.table c.args.page c.in-Some.frame (at c), counts-length (before c) c.self.inside.owners.items c.self.inside.reserved c.self.invariant)

-- what the code reads is the number of the frame's owners
count : (c : In-Some) (n : ℕ) → n ≡ get_or c.self.inside.owners.items c.in-Some.frame n → n ≡ owners_at c.args.self.now c.args.table c.args.page
count c n e =
    get_or_read c.self.inside.owners.items c.in-Some.frame n (within c) e 0
    ∙ count-is (before c) c.args.table c.args.page c.self.invariant.sound c.requires (omega arith) c.self.inside.owners.items c.self.inside.reserved c.in-Some.frame c.self.invariant (at c)
    ∙ sym (ap (λ o. unwrap_or (option_map (owners_of (before c)) o) 0) (at c))
    ∙ ap (λ (x : Frames). owners_at x c.args.table c.args.page) c.self.view_is

pub index-requires-in-Some : goal.index-requires-in-Some
index-requires-in-Some c = let o = (goal.at.index-requires-in-Some c).In-Some in omega (arith, within o, c.self.inside.owners.ok.0)

pub returns-in-Some-clause-owners : goal.returns-in-Some-clause-owners
returns-in-Some-clause-owners c = count (goal.at.returns-in-Some-clause-owners c).In-Some c.index-in-Some.result.now c.index-in-Some.ensures
