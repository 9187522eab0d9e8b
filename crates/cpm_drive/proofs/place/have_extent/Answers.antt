use Rattle.std.proofs.Common.{◌≡◌, ◌<◌, Some, None, set, length, sym, ap, ◌∙◌, arith}
use Rattle.cpm_geom.specs.Geometry.{dpb_of}
use Rattle.cpm_volume.specs.Files.{first_free}
use Rattle.cpm_volume.specs.Operations.{open_extent, open_to_read, make_extent, standing, stopped}
use Rattle.cpm_directory.specs.Directory.{entries_of}
use Rattle.cpm_directory.proofs.DriveLemmas.{entries_length}
use Rattle.cpm_drive.specs.declared.place.Access.{Access}
use Rattle.cpm_drive.specs.Drive.{volume_of}
use Rattle.cpm_drive.specs.Judged.{with_change, target_by}
use Rattle.cpm_drive.proofs.ChangeLemmas.{after_length}
use Rattle.cpm_drive.proofs.PlaceLemmas.{no_change, changed_entries, read_missing, read_opened, write_missing, write_opened, write_made}
use Rattle.cpm_drive.proofs.place.have_extent.Goals as goal
use Rattle.cpm_drive.proofs.place.have_extent.Goals.{in-Read, in-Write, in-Read-access, in-Write-access}

pub returns-in-Some-clause-place : goal.returns-in-Some-clause-place
returns-in-Some-clause-place c =
    let v = with_change (volume_of c.args.image.now c.args.marks.now.reserved) (Some c.args.closed) in
    let e = changed_entries c.args.image.now c.args.marks.now.reserved c.args.closed in
    let here = ap (λ w. standing w c.in-Some.opened c.args.sought.now.current) (no_change v) in
    elim c.match-access.branch [
      | in-Read w ↦ (
          let is : c.args.access ≡ Access.Read = cc in
          let h : open_to_read (dpb_of c.args.image.now.format) v.entries c.args.user c.args.extent.now.name c.args.sought.now.number ≡ Some c.in-Some.opened = rw e (sym w.open_to_read-opened.ensures ∙ (sym w.opened-is ∙ c.in-Some.is)) in
          rw (is, c.arrived.ensures) (here ∙ sym (read_opened (dpb_of c.args.image.now.format) v c.args.user c.args.extent.now (target_by c.args.sought.now) c.in-Some.opened h))
          )
      | in-Write w ↦ (
          let is : c.args.access ≡ Access.Write = cc in
          let h : open_extent (dpb_of c.args.image.now.format) v.entries c.args.user c.args.extent.now.name c.args.sought.now.number ≡ Some c.in-Some.opened = rw e (sym w.open_extent-opened.ensures ∙ (sym w.opened-is ∙ c.in-Some.is)) in
          rw (is, c.arrived.ensures) (here ∙ sym (write_opened (dpb_of c.args.image.now.format) v c.args.user c.args.extent.now (target_by c.args.sought.now) c.in-Some.opened h))
          )
    ]

pub returns-in-Some-made-clause-place : goal.returns-in-Some-made-clause-place
returns-in-Some-made-clause-place c =
    let v = with_change (volume_of c.args.image.now c.args.marks.now.reserved) (Some c.args.closed) in
    let e = changed_entries c.args.image.now c.args.marks.now.reserved c.args.closed in
    let size = entries_length c.args.image.now in
    let same = after_length (entries_of c.args.image.now) (Some c.args.closed) in
    let change = c.in-Some-made.change in
    elim c.match-access-2.branch [
      | in-Read-access w ↦ absurd (cc)
      | in-Write-access w ↦ elim c.match-access.branch [
        | in-Read u ↦ absurd (cc)
        | in-Write u ↦ (
            let is : c.args.access ≡ Access.Write = cc in
            let made = rw (sym w.made-is ∙ c.in-Some-made.is) at w.make_extent-made.ensures in
            let within = made.within in
            let none : open_extent (dpb_of c.args.image.now.format) v.entries c.args.user c.args.extent.now.name c.args.sought.now.number ≡ None = rw e (sym u.open_extent-opened.ensures ∙ (sym u.opened-is ∙ c.in_default.is)) in
            let h : make_extent v.entries c.args.user c.args.extent.now c.args.sought.now.number ≡ Some (set v.entries change.index change.entry, change.entry.extent) = rw e (sym made.value) in
            let first : change.index ≡ first_free v.entries = rw e made.first in
            let below : change.index < length v.entries = rw e (omega arith) in
            rw (is, c.arrived-in-Some-made.ensures) (sym (write_made (dpb_of c.args.image.now.format) v c.args.user c.args.extent.now (target_by c.args.sought.now) change none h first below))
            )
      ]
    ]

pub returns-in-None-clause-place : goal.returns-in-None-clause-place
returns-in-None-clause-place c =
    let v = with_change (volume_of c.args.image.now c.args.marks.now.reserved) (Some c.args.closed) in
    let e = changed_entries c.args.image.now c.args.marks.now.reserved c.args.closed in
    let here = ap (λ w. stopped c.args.sought.now.missing w c.args.extent.now) (no_change v) in
    elim c.match-access.branch [
      | in-Read u ↦ (
          let is : c.args.access ≡ Access.Read = cc in
          let h : open_to_read (dpb_of c.args.image.now.format) v.entries c.args.user c.args.extent.now.name c.args.sought.now.number ≡ None = rw e (sym u.open_to_read-opened.ensures ∙ (sym u.opened-is ∙ c.in_default.is)) in
          rw is (here ∙ sym (read_missing (dpb_of c.args.image.now.format) v c.args.user c.args.extent.now (target_by c.args.sought.now) h))
          )
      | in-Write u ↦ elim c.match-access-2.branch [
        | in-Read-access w ↦ absurd (cc)
        | in-Write-access w ↦ (
            let is : c.args.access ≡ Access.Write = cc in
            let made = rw (sym w.made-is ∙ c.in-None.is) at w.make_extent-made.ensures in
            let none : open_extent (dpb_of c.args.image.now.format) v.entries c.args.user c.args.extent.now.name c.args.sought.now.number ≡ None = rw e (sym u.open_extent-opened.ensures ∙ (sym u.opened-is ∙ c.in_default.is)) in
            let h : make_extent v.entries c.args.user c.args.extent.now c.args.sought.now.number ≡ None = rw e (sym made.value) in
            rw is (here ∙ sym (write_missing (dpb_of c.args.image.now.format) v c.args.user c.args.extent.now (target_by c.args.sought.now) none h))
            )
      ]
    ]
