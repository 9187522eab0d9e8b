use Rattle.std.proofs.Common.{◌≤◌, ap, arith}
use Rattle.cpm_geom.specs.Disk.{Disk}
use Rattle.cpm_geom.specs.Geometry.{dpb_of}
use Rattle.cpm_directory.proofs.DriveLemmas.{last_entry_small}
use Rattle.cpm_directory.proofs.ListedLemmas.{kept_lists, one_entry}
use Rattle.cpm_directory.proofs.listed.ListedImage.put_entry.Goals as goal

pub bounds-deref_mut-from : goal.bounds-deref_mut-from
bounds-deref_mut-from c = let small = last_entry_small c.args.self.now.format in omega (arith, small, c.requires, c.from.ensures)

pub invariant_of-self : goal.invariant_of-self
invariant_of-self c =
    let low : c.args.index ≤ (dpb_of c.self.inside.image.format).last_entry = rw (ap (λ (disk : Disk). (dpb_of disk.format).last_entry) c.self.view_is) c.requires in
    let lists = kept_lists c.self.inside.entries c.in-Some.entries c.self.inside.image c.self.invariant c.in-Some.is in
    rw c.deref_mut.ensures.value (rw c.from.ensures (one_entry c.self.inside.image c.put_entry.new.image c.args.index c.entry.result c.in-Some.entries.value lists (ap (λ (disk : Disk). disk.format) c.put_entry.ensures.bytes) low c.entry.ensures.value c.put_entry.ensures.others))
