use Rattle.std.proofs.Common.{◌≤◌, ap, ◌∙◌, arith}
use Rattle.std.proofs.lemmas.List.{get_or_default}
use Rattle.cpm_geom.specs.Disk.{Disk}
use Rattle.cpm_geom.specs.Geometry.{dpb_of}
use Rattle.cpm_volume.specs.Files.{entry_at, no_entry}
use Rattle.cpm_directory.specs.Directory.{entries_of}
use Rattle.cpm_directory.proofs.DriveLemmas.{last_entry_small}
use Rattle.cpm_directory.proofs.ListedLemmas.{kept_lists}
use Rattle.cpm_directory.proofs.listed.ListedImage.entry.Goals as goal

pub bounds-deref-from : goal.bounds-deref-from
bounds-deref-from c = let small = last_entry_small c.args.self.now.format in omega (arith, small, c.requires, c.from.ensures)

pub returns-in-Some : goal.returns-in-Some
returns-in-Some c =
    let small = last_entry_small c.args.self.now.format in
    let low : c.args.index ≤ (dpb_of c.self.inside.image.format).last_entry = rw (ap (λ (disk : Disk). (dpb_of disk.format).last_entry) c.self.view_is) c.requires in
    let lists = kept_lists c.self.inside.entries c.in-Some.entries c.self.inside.image c.self.invariant c.in-Some.is in
    record {
      value = rw c.deref.ensures (rw c.from.ensures (get_or_default c.in-Some.entries.value c.args.index _ no_entry (omega (arith, lists.size)) ∙ (lists.at c.args.index low ∙ ap (λ (disk : Disk). entry_at (entries_of disk) c.args.index) c.self.view_is)));
    }
