-- What a close, an open and a make of a file leave, case by case.
use Rattle.std.proofs.Common.{◌≡◌, ℕ, ◌%◌, ◌<◌, ◌≤◌, cond, ltb, List, Some, None, Result, Option, length, set, refl, sym, ap, arith}
use Rattle.cpm_geom.specs.declared.dpb.Dpb.{Dpb}
use Rattle.cpm_volume.specs.declared.extent.Extent.{Extent}
use Rattle.cpm_volume.specs.declared.extent.Entry.{Entry}
use Rattle.cpm_volume.specs.declared.fcb.Fcb.{Fcb}
use Rattle.cpm_volume.specs.declared.answer.Fault.{Fault as FileFault}
use Rattle.cpm_volume.specs.Files.{extent_number, entry_at, first_match, group_of, first_free}
use Rattle.cpm_volume.specs.Operations.{with_entry, Close, opened_extent, open_file_on_volume, make_extent, make_file_on_volume}
use Rattle.cpm_geom.specs.Geometry.{dpb_of}
use Rattle.cpm_directory.specs.Directory.{entries_of}
use Rattle.cpm_directory.proofs.DriveLemmas.{entries_length}
use Rattle.cpm_drive.specs.declared.drive.Drive.{Drive}
use Rattle.cpm_drive.specs.declared.change.Change.{Change}
use Rattle.cpm_drive.specs.declared.closing.CloseJudgement.{CloseJudgement}
use Rattle.cpm_drive.specs.declared.closing.CloseJudgement.TheVariants.{Refused, Fault, Closed}
use Rattle.cpm_drive.specs.Drive.{directory_code, volume_of, drive_after}
use Rattle.cpm_drive.specs.Judged.{with_change, close_of, change_of, IsEntryWithin}
use Rattle.cpm_drive.specs.Calls.{closed_file, close_answer, drive_closed, after_close, after_open, open_index, made_file, after_make}
use Rattle.cpm_drive.proofs.ChangeLemmas.{change_is}
use Rattle.cpm_drive.proofs.OpenLemmas.{read_none, read_found}
use Rattle.cpm_drive.proofs.PlaceLemmas.{volume_entries}
use Rattle.cpm_drive.proofs.WriteLemmas.{no_write}

written_is : (drive : Drive) (c : Change) → c.index < length (entries_of drive.image) → drive_after drive (with_change (volume_of drive.image drive.marks.reserved) (Some c)) ≡ drive_after drive (with_entry (volume_of drive.image drive.marks.reserved) c.index (set (entries_of drive.image) c.index c.entry))
unfolding volume_of
written_is drive c below =
    let same = volume_entries drive.image drive.marks.reserved in
    let is = change_is (volume_of drive.image drive.marks.reserved) c (rw same below) in
    ap (drive_after drive) (sym (rw same at is))

drive_closes : (drive : Drive) (closing : CloseJudgement) → IsEntryWithin (dpb_of drive.image.format) (change_of closing) → drive_after drive (with_change (volume_of drive.image drive.marks.reserved) (change_of closing)) ≡ drive_closed drive (close_of (entries_of drive.image) closing)
unfolding drive_closed
drive_closes drive Refused within = no_write drive
drive_closes drive (Fault which) within = no_write drive
drive_closes drive (Closed change both) within =
    let size = entries_length drive.image in
    written_is drive change (omega (arith, within))

-- a close whose entry is written
pub closes : (drive new : Drive) (fcb fcb' : Fcb) (closing : CloseJudgement) (close : Close) (result : Result (Option ℕ) FileFault) → close_of (entries_of drive.image) closing ≡ close → IsEntryWithin (dpb_of drive.image.format) (change_of closing) → new ≡ drive_after drive (with_change (volume_of drive.image drive.marks.reserved) (change_of closing)) → (result, fcb') ≡ close_answer fcb (close_of (entries_of drive.image) closing) → closed_file result new fcb' ≡ after_close drive fcb close
unfolding after_close
closes drive new fcb fcb' closing close result is within written answers =
    rw (← is, ← answers, ← drive_closes drive closing within) (ap (λ drive. closed_file result drive fcb') written)

module _ (drive : Drive) (fcb : Fcb) (user : ℕ) where
  pub make_refused : None ≡ make_extent (entries_of drive.image) user fcb.extent (fcb.extent.ex % 32) → made_file None drive fcb ≡ after_make drive fcb (first_free (entries_of drive.image)) (make_file_on_volume (entries_of drive.image) user fcb.extent)
  unfolding make_file_on_volume after_make
  make_refused h = rw (← h) refl

  pub make_writes : (c : Change) → Some (set (entries_of drive.image) c.index c.entry, c.entry.extent) ≡ make_extent (entries_of drive.image) user fcb.extent (fcb.extent.ex % 32) → c.index ≡ first_free (entries_of drive.image) → c.index < length (entries_of drive.image) → made_file (Some (directory_code c.index)) (drive_after drive (with_change (volume_of drive.image drive.marks.reserved) (Some c))) (record fcb { extent = c.entry.extent }) ≡ after_make drive fcb (first_free (entries_of drive.image)) (make_file_on_volume (entries_of drive.image) user fcb.extent)
  unfolding make_file_on_volume after_make
  make_writes c h is below = rw (← h, ← is, written_is drive c below) refl

module _ (d : Dpb) (es : List Entry) (user : ℕ) (fcb : Fcb) where
  pub open_missing : length es ≤ first_match d es user fcb.extent.name (group_of d (fcb.extent.ex % 32)) → (None, fcb) ≡ after_open fcb (open_index d es user fcb.extent) (open_file_on_volume d es user fcb.extent)
  unfolding open_file_on_volume after_open
  open_missing h = rw (read_none d es user fcb.extent.name (fcb.extent.ex % 32) h) refl

  module _ (i : ℕ) (is : i ≡ first_match d es user fcb.extent.name (group_of d (fcb.extent.ex % 32))) (h : i < length es) where
    pub open_lesser : None ≡ cond (ltb (extent_number (entry_at es i).extent) (fcb.extent.ex % 32)) None (Some (opened_extent (entry_at es i).extent (fcb.extent.ex % 32))) → (None, fcb) ≡ after_open fcb (open_index d es user fcb.extent) (open_file_on_volume d es user fcb.extent)
    unfolding open_file_on_volume after_open
    open_lesser k = rw (read_found d es user fcb.extent.name (fcb.extent.ex % 32) i is h, ← k) refl

    pub opens : (y : Extent) → Some y ≡ cond (ltb (extent_number (entry_at es i).extent) (fcb.extent.ex % 32)) None (Some (opened_extent (entry_at es i).extent (fcb.extent.ex % 32))) → (Some (directory_code i), record fcb { extent = y }) ≡ after_open fcb (open_index d es user fcb.extent) (open_file_on_volume d es user fcb.extent)
    unfolding open_file_on_volume after_open open_index
    opens y k = rw (read_found d es user fcb.extent.name (fcb.extent.ex % 32) i is h, ← k, ← is) refl
