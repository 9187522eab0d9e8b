use Rattle.std.proofs.Common.{◌≡◌, List, Option, None, true, is_some, get_or, set, refl, sym, ap, ◌∙◌, subst}
use Rattle.std.proofs.lemmas.Option.{slice_get_read}
use Rattle.cpm_memory.specs.Contents.{Contents}
use Rattle.cpm_memory.specs.Frames.{Frames, memories}
use Rattle.cpm_slots.specs.Slots.{slots_of, HaveTables, AllCached}
use Rattle.cpm_slots.proofs.CloseSlots.{slot-at, HaveTables-closed, slots-closed}
use Rattle.cpm_slots.proofs.CloseHost.{left-at}
use Rattle.cpm_slots.proofs.CachedSlots.{AllCached-closed}
use Rattle.cpm_slots.proofs.slots.close_at.Goals as goal

pub release-requires : goal.release-requires
release-requires c =
    let s = c.remove-runner.result in
    let items = c.args.slots.now.items in
    let at = slice_get_read items _ c.args.index s refl c.requires.index c.remove-runner.ensures.value in
    subst (λ (m : List (Option Contents)). is_some (get_or m s.table None) ≡ true) (sym (ap memories c.look_at-look.ensures.unchanged))
    (slot-at (memories c.args.store.now) items c.args.index s c.requires.have_tables.all at).taken

pub returns-clause-closed : goal.returns-clause-closed
returns-clause-closed c =
    let s = c.remove-runner.result in
    let items = c.args.slots.now.items in
    let at = slice_get_read items _ c.args.index s refl c.requires.index c.remove-runner.ensures.value in
    let old = memories c.args.store.now in
    left-at old items c.args.index s c.look_at-look.result c.into_images-drives.result at (rw c.deref.ensures.value at c.look_at-look.ensures.look) c.into_images-drives.ensures

pub returns-clause-slots : goal.returns-clause-slots
returns-clause-slots c =
    let s = c.remove-runner.result in
    let items = c.args.slots.now.items in
    let at = slice_get_read items _ c.args.index s refl c.requires.index c.remove-runner.ensures.value in
    let old = memories c.args.store.now in
    let new = memories c.release.new.self in
    let is = c.release.ensures.memories ∙ ap (λ (m : List (Option Contents)). set m s.table None) (ap memories c.look_at-look.ensures.unchanged) in
    ap (slots_of new) c.remove-runner.ensures.items ∙ slots-closed old new items c.args.index s c.requires.have_tables at is

pub returns-clause-have_tables : goal.returns-clause-have_tables
returns-clause-have_tables c =
    let s = c.remove-runner.result in
    let items = c.args.slots.now.items in
    let at = slice_get_read items _ c.args.index s refl c.requires.index c.remove-runner.ensures.value in
    let old = memories c.args.store.now in
    let new = memories c.release.new.self in
    let is = c.release.ensures.memories ∙ ap (λ (m : List (Option Contents)). set m s.table None) (ap memories c.look_at-look.ensures.unchanged) in
    subst (HaveTables new) (sym c.remove-runner.ensures.items) (HaveTables-closed old new items c.args.index s c.requires.have_tables at is)

pub returns-clause-cached : goal.returns-clause-cached
returns-clause-cached c =
    let s = c.remove-runner.result in
    let items = c.args.slots.now.items in
    let at = slice_get_read items _ c.args.index s refl c.requires.index c.remove-runner.ensures.value in
    let old = memories c.args.store.now in
    let new = memories c.release.new.self in
    let is = c.release.ensures.memories ∙ ap (λ (m : List (Option Contents)). set m s.table None) (ap memories c.look_at-look.ensures.unchanged) in
    let same = ap (λ (x : Frames). x.stamps) c.release.ensures.released ∙ ap (λ (x : Frames). x.stamps) c.look_at-look.ensures.unchanged in
    subst (AllCached new c.release.new.self.stamps) (sym c.remove-runner.ensures.items) (AllCached-closed old new c.args.store.now.stamps c.release.new.self.stamps items c.args.index s c.requires.have_tables.all c.requires.cached at is same)
