-- The drives, and what the calls on files keep, in a saving. All of it is own.
use Rattle.std.proofs.Common.{inl, inr}
use Rattle.std.specs.Prelude.{ℕ, Bool, true, false, ◌==◌, ◌⊎◌, IfSome, List, map, Option, option_map}
use Rattle.std.specs.List.{All, concat}
use Rattle.cpm_flags.specs.Arithmetic.{bit}
use Rattle.cpm_geom.specs.Disk.{Disk, IsDisk, disk_of}
use Rattle.cpm_geom.specs.declared.format.Format.{Format}
use Rattle.cpm_geom.specs.declared.format.Format.TheVariants as format
use Rattle.cpm_volume.specs.declared.extent.Extent.{Extent}
use Rattle.cpm_volume.specs.declared.fcb.Fcb.{Fcb}
use Rattle.cpm_drive.specs.declared.drive.Drive.{Drive}
use Rattle.cpm_drive.specs.declared.drive.Marks.{Marks}
use Rattle.cpm_drives.specs.declared.disks.Disks.{Disks}
use Rattle.cpm_drives.specs.declared.search.Search.{Search}
use Rattle.cpm_saved.specs.Layout.{Layout, Below, Both, AnyByte, Either, Fixed, Maybe, Run, Times, AnyWord, laid_out}
use Rattle.cpm_saved.specs.declared.part.SavingPart.TheVariants as part

-- for each block whether it is reserved; whether the drive is logged in, and whether it is protected
abbrev pub marks_layout : Layout
marks_layout = Both (Run part.Drive 512 2) (Both (Below part.Drive 2) (Below part.Drive 2))

abbrev pub marks_fields : Marks → laid_out marks_layout
marks_fields m = (map bit m.reserved, (bit m.is_logged_in, bit m.is_protected))

abbrev pub marks_of_fields : laid_out marks_layout → Marks
marks_of_fields v = record { reserved = map (λ b. b == 1) v.0; is_logged_in = v.1.0 == 1; is_protected = v.1.1 == 1 }

-- the bytes of an image, of the one format or the other
abbrev pub image_layout : Layout
image_layout = Either part.Image (Fixed part.Image 256256) (Fixed part.Image 2105344)

abbrev pub is_large : Format → Bool
is_large format.Ibm3740 = false
is_large format.Large = true

abbrev pub image_in : Format → List ℕ → laid_out image_layout
image_in format.Ibm3740 bytes = inl bytes
image_in format.Large bytes = inr bytes

abbrev pub image_fields : Disk → laid_out image_layout
image_fields disk = image_in disk.format (concat disk.sectors)

abbrev pub image_of_fields : List ℕ ⊎ List ℕ → Disk
image_of_fields (inl bytes) = disk_of format.Ibm3740 bytes
image_of_fields (inr bytes) = disk_of format.Large bytes

abbrev pub drive_layout : Layout
drive_layout = Both marks_layout image_layout

abbrev pub drive_fields : Drive → laid_out drive_layout
drive_fields d = (marks_fields d.marks, image_fields d.image)

abbrev pub drive_of_fields : laid_out drive_layout → Drive
drive_of_fields v = record { image = image_of_fields v.1; marks = marks_of_fields v.0 }

-- the place of a search
abbrev pub search_layout : Layout
search_layout = Both (AnyByte part.Search) (Both (Below part.Search 2) (Both (Fixed part.Search 11) (Both (AnyByte part.Search) (AnyWord part.Search))))

abbrev pub search_fields : Search → laid_out search_layout
search_fields s = (s.drive, (bit s.is_every, (s.name, (s.ex, s.next))))

abbrev pub search_of_fields : laid_out search_layout → Search
search_of_fields v = record { drive = v.0; is_every = v.1.0 == 1; name = v.1.1.0; ex = v.1.1.1.0; next = v.1.1.1.1 }

-- the drives A to D, as far as there are any; the marks of the system drive; the current drive and user; and the search
abbrev pub disks_layout : Layout
disks_layout =
    Both (Times 4 (Maybe part.Drive drive_layout)) (Both marks_layout
    (Both (AnyByte part.CurrentDrive) (Both (AnyByte part.User) (Maybe part.Search search_layout))))

abbrev pub disks_fields : Disks → laid_out disks_layout
disks_fields d =
    (map (option_map drive_fields) d.drives, (marks_fields d.system, (d.current, (d.user, option_map search_fields d.sought))))

abbrev pub disks_of_fields : laid_out disks_layout → Disks
disks_of_fields v =
    record {
      drives = map (option_map drive_of_fields) v.0;
      system = marks_of_fields v.1.0;
      current = v.1.1.0;
      user = v.1.1.1.0;
      sought = option_map search_of_fields v.1.1.1.1;
    }

-- the image of a drive, if there is one, has the sectors of its format
abbrev pub IsWholeIfAny : Option Drive → Type 0
IsWholeIfAny drive = IfSome drive (λ d. IsDisk d.image)

-- so has that of each drive
abbrev pub AreWhole : Disks → Type 0
AreWhole disks = All IsWholeIfAny disks.drives

-- a file control block
abbrev pub file_layout : Layout
file_layout =
    Both (AnyByte part.CommandFile) (Both (Fixed part.CommandFile 11) (Both (AnyByte part.CommandFile) (Both (AnyByte part.CommandFile)
    (Both (AnyByte part.CommandFile) (Both (AnyByte part.CommandFile) (Both (Times 16 (AnyWord part.CommandFile))
    (Both (AnyByte part.CommandFile) (Fixed part.CommandFile 3))))))))

abbrev pub file_fields : Fcb → laid_out file_layout
file_fields f =
    (f.drive, (f.extent.name, (f.extent.ex, (f.extent.s1, (f.extent.s2, (f.extent.record_count, (f.extent.blocks, (f.current_record, f.random_record))))))))

abbrev pub extent_of_fields : laid_out file_layout → Extent
extent_of_fields v =
    record { name = v.1.0; ex = v.1.1.0; s1 = v.1.1.1.0; s2 = v.1.1.1.1.0; record_count = v.1.1.1.1.1.0; blocks = v.1.1.1.1.1.1.0 }

abbrev pub file_of_fields : laid_out file_layout → Fcb
file_of_fields v = record { drive = v.0; extent = extent_of_fields v; current_record = v.1.1.1.1.1.1.1.0; random_record = v.1.1.1.1.1.1.1.1 }
