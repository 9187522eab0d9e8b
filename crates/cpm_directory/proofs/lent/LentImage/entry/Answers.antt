use Rattle.std.proofs.Common.{◌≤◌, ap, ◌∙◌, arith}
use Rattle.std.proofs.lemmas.List.{get_or_default}
use Rattle.cpm_geom.specs.Disk.{Disk}
use Rattle.cpm_geom.specs.Geometry.{dpb_of}
use Rattle.cpm_volume.specs.Files.{entry_at, no_entry}
use Rattle.cpm_directory.specs.Directory.{entries_of, Lists}
use Rattle.cpm_directory.proofs.DriveLemmas.{last_entry_small}
use Rattle.cpm_directory.proofs.lent.LentImage.entry.Goals as goal

pub bounds-entries-from : goal.bounds-entries-from
bounds-entries-from c = let small = last_entry_small c.args.self.now.format in omega arith

pub returns-in-Some : goal.returns-in-Some
returns-in-Some c =
    let small = last_entry_small c.args.self.now.format in
    let listed : Lists c.in-Some.entries.now c.self.inside.image.now = rw c.in-Some.is at c.self.invariant in
    let low : c.args.index ≤ (dpb_of c.self.inside.image.now.format).last_entry = rw (ap (λ (disk : Disk). (dpb_of disk.format).last_entry) c.self.view_is) c.requires in
    record { value = rw c.from.ensures (get_or_default c.in-Some.entries.now c.args.index _ no_entry (omega (arith, listed.size)) ∙ (listed.at c.args.index low ∙ ap (λ (disk : Disk). entry_at (entries_of disk) c.args.index) c.self.view_is)) }
