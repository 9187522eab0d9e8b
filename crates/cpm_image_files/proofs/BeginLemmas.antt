-- A file is begun: the one that it replaces is erased, and an empty one made.
use Rattle.std.proofs.Common.{◌≡◌, ℕ, ◌<◌, false, List, Option, Some, Result, Ok, arith}
use Rattle.cpm_geom.specs.Geometry.{dpb_of}
use Rattle.cpm_volume.specs.declared.answer.Fault.{Fault}
use Rattle.cpm_volume.specs.declared.fcb.Fcb.{Fcb}
use Rattle.cpm_volume.specs.Encoding.{AreBytes}
use Rattle.cpm_volume.specs.Files.{has_wildcard, first_free}
use Rattle.cpm_volume.specs.Names.{erase_files_on_volume}
use Rattle.cpm_volume.specs.Operations.{make_file_on_volume}
use Rattle.cpm_directory.specs.Directory.{entries_of}
use Rattle.cpm_directory.specs.Login.{reserved_at_login}
use Rattle.cpm_drive.specs.declared.drive.Drive.{Drive}
use Rattle.cpm_drive.specs.Drive.{volume_of}
use Rattle.cpm_drive.specs.Calls.{made_file, after_make}
use Rattle.cpm_drive.specs.Named.{after_named}
use Rattle.cpm_drive.specs.Laws.{IsWritable}
use Rattle.cpm_image_files.specs.ImageFiles.{IsSoundDisk}
use Rattle.cpm_image_files.specs.Writing.{HasRoomForFile, IsCleared, IsWriting, new_fcb}
use Rattle.cpm_image_files.proofs.Amounts.{entries_none}
use Rattle.cpm_image_files.proofs.ErasedLemmas.{erased}
use Rattle.cpm_image_files.proofs.MadeLemmas.{makes}

module _ (drive : Drive) (user : ℕ) (name : List ℕ) (user_ok : user < 16) (plain : has_wildcard name ≡ false) (writable : IsWritable drive) (sound : IsSoundDisk drive.image) (fresh : drive.marks.reserved ≡ reserved_at_login (dpb_of drive.image.format) (entries_of drive.image)) (room : HasRoomForFile (dpb_of drive.image.format) (entries_of drive.image) user name 0) (result : Result (Option ℕ) Fault) (cleared : Drive) (erasing : (result, cleared) ≡ after_named drive (erase_files_on_volume (dpb_of drive.image.format) (volume_of drive.image drive.marks.reserved) user name)) where
  pub is_erased : ((code : Option ℕ) × (result ≡ Ok code)) × IsCleared drive.image user name cleared
  is_erased = erased drive user name user_ok plain writable sound fresh room.unprotected result cleared erasing

  pub is_begun : AreBytes 11 name → (code : Option ℕ) (begun : Drive) (fcb now : Fcb) → fcb ≡ new_fcb name → made_file code begun now ≡ after_make cleared fcb (first_free (entries_of cleared.image)) (make_file_on_volume (entries_of cleared.image) user fcb.extent) → ((k : ℕ) × (code ≡ Some k)) × ((bytes : List ℕ) → IsWriting drive.image user name bytes 0 begun now)
  is_begun are code begun fcb now new made =
      let one = entries_none drive.image.format in
      let need = room.entries in
      makes drive.image user name cleared user_ok plain are is_erased.1 (omega arith) code begun now (rw new at made)
