-- The drive that a file is put on, once it is logged in.
use Rattle.std.proofs.Common.{◌≡◌, ℕ, false, List, None, length, sym, subst, ap, ◌∙◌, arith}
use Rattle.cpm_geom.specs.Geometry.{dpb_of}
use Rattle.cpm_geom.specs.Disk.{Disk, HasBytes, IsDisk}
use Rattle.cpm_volume.specs.declared.fcb.Fcb.{Fcb}
use Rattle.cpm_directory.specs.Directory.{entries_of}
use Rattle.cpm_drive.specs.declared.drive.Drive.{Drive}
use Rattle.cpm_drive.specs.Drive.{new_marks}
use Rattle.cpm_drive.specs.Calls.{logged_in}
use Rattle.cpm_drive.specs.Reads.{lent_drive}
use Rattle.cpm_drive.specs.Laws.{IsWritable}
use Rattle.cpm_image_files.specs.ImageFiles.{records_for, file_refusal_of}
use Rattle.cpm_image_files.specs.Writing.{HasRoomForFile, IsWriting}
use Rattle.cpm_image_files.proofs.Amounts.{room_of, room_less}

module _ (old : Disk) (bytes_of : HasBytes old) (whole : IsDisk old) (new drive : Drive) (is_new : new ≡ lent_drive old (new_marks old.format false)) (is : drive ≡ logged_in new) where
  pub image_is : drive.image ≡ old
  image_is = ap (λ (d : Drive). d.image) is ∙ ap (λ (d : Drive). d.image) is_new

  pub is_writable : IsWritable drive
  is_writable = record {
    disk = subst IsDisk (sym image_is) whole;
    bytes = subst HasBytes (sym image_is) bytes_of;
    free = ap (λ (d : Drive). d.marks.is_protected) is ∙ ap (λ (d : Drive). d.marks.is_protected) is_new;
  }

  pub has_room : (user : ℕ) (name bytes : List ℕ) → file_refusal_of (dpb_of old.format) (entries_of old) user name (records_for (length bytes)) ≡ None → HasRoomForFile (dpb_of drive.image.format) (entries_of drive.image) user name 0
  has_room user name bytes allowed =
      subst (λ (disk : Disk). HasRoomForFile (dpb_of disk.format) (entries_of disk) user name 0) (sym image_is) (room_less old.format (entries_of old) user name 0 (records_for (length bytes)) (room_of (dpb_of old.format) (entries_of old) user name (records_for (length bytes)) allowed) (omega arith))

  pub is_started : (user : ℕ) (name bytes : List ℕ) (begun : Drive) (fcb : Fcb) → ((bytes : List ℕ) → IsWriting drive.image user name bytes 0 begun fcb) → IsWriting old user name bytes 0 begun fcb
  is_started user name bytes begun fcb h =
      subst (λ (disk : Disk). IsWriting disk user name bytes 0 begun fcb) image_is (h bytes)
