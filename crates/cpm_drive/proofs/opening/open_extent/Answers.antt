use Rattle.std.proofs.Common.{◌≡◌, ◌≤◌, ◌∙◌, Some, length, sym, ap, arith}
use Rattle.cpm_geom.specs.Geometry.{dpb_of}
use Rattle.cpm_volume.specs.declared.extent.Entry.{Entry}
use Rattle.cpm_volume.specs.Files.{group_of, first_match}
use Rattle.cpm_volume.specs.Operations.{opened_extent}
use Rattle.cpm_directory.specs.Directory.{entries_of}
use Rattle.cpm_directory.proofs.DriveLemmas.{entries_length}
use Rattle.cpm_drive.specs.Judged.{entries_after}
use Rattle.cpm_drive.proofs.ChangeLemmas.{after_length}
use Rattle.cpm_drive.proofs.OpenLemmas.{open_none, open_found}
use Rattle.cpm_drive.proofs.opening.open_extent.Goals as goal

pub returns-in-None : goal.returns-in-None
returns-in-None c =
    let same = after_length (entries_of c.args.image.now) c.args.change in
    let group : c.group_of-group.result ≡ group_of (dpb_of c.args.image.now.format) c.args.number = cc in
    let none : length (entries_of c.args.image.now) ≤ first_match (dpb_of c.args.image.now.format) (entries_after (entries_of c.args.image.now) c.args.change) c.args.user c.args.name.now (group_of (dpb_of c.args.image.now.format) c.args.number) = rw group at c.in-None.ensures in
    sym (open_none (dpb_of c.args.image.now.format) (entries_after (entries_of c.args.image.now) c.args.change) c.args.user c.args.name.now c.args.number (omega arith))

pub returns-in-Some : goal.returns-in-Some
returns-in-Some c =
    let size = entries_length c.args.image.now in
    let same = after_length (entries_of c.args.image.now) c.args.change in
    let group : c.group_of-group.result ≡ group_of (dpb_of c.args.image.now.format) c.args.number = cc in
    let is : c.in-Some.index ≡ first_match (dpb_of c.args.image.now.format) (entries_after (entries_of c.args.image.now) c.args.change) c.args.user c.args.name.now (group_of (dpb_of c.args.image.now.format) c.args.number) = rw group at c.in-Some.ensures.0 in
    let within = c.in-Some.ensures.1 in
    let found = open_found (dpb_of c.args.image.now.format) (entries_after (entries_of c.args.image.now) c.args.change) c.args.user c.args.name.now c.args.number c.in-Some.index is (omega arith) in
    let entry = ap (λ (e : Entry). e.extent) c.entry_after.ensures in
    ap Some (c.opened_extent.ensures ∙ ap (λ x. opened_extent x c.args.number) entry) ∙ sym found
