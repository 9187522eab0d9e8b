-- The list of a disk's files as it is written. All of it is own.
use Rattle.std.specs.Prelude.{⊤, ◌≡◌, ℕ, ◌<◌, ◌-◌, ◌%◌, Bool, true, false, ◌&&◌, ◌||◌, ◌==◌, nat_lt, if◌then◌else◌, List, [], ◌∷◌, ◌++◌}
use Rattle.std.specs.Prelude.{Option, Some, None, length, take, drop, replicate, slice_index, slice_index_or, codes, chars, decimal, Err}
use Rattle.std.specs.List.{insert, list_all, position_or_len}
use Rattle.std.specs.List.Sorted.{IsPermutation}
use Rattle.cpm_shown.specs.Shown.{shown_of}
use Rattle.cpm_directory.specs.Directory.{entries_of}
use Rattle.cpm_directory.specs.WellFormed.{IsChecked}
use Rattle.cpm_geom.specs.Disk.{Disk}
use Rattle.cpm_geom.specs.Geometry.{dpb_of}
use Rattle.cpm_geom.specs.declared.format.Format.{Format}
use Rattle.cpm_image_files.specs.ImageFiles.{IsSoundDisk}
use Rattle.cpm_image_files.specs.declared.listing.DiskFile.{DiskFile}
use Rattle.cpm_image_files.specs.declared.listing.DiskListing.{DiskListing}
use Rattle.cpm_disk_commands.specs.Damage.{damage_of}
use Rattle.cpm_disk_commands.specs.declared.error.DiskCommandError.{DiskCommandError}
use Rattle.cpm_disk_commands.specs.declared.error.DiskCommandError.TheVariants.{Damaged, OutputUnwritable, OutOfMemory}

-- Why there is no list: the fault of the first entry that has one; or the disk is sound, but there was no memory.
abbrev pub IsListTold : Disk → (image : List ℕ) → DiskCommandError → Type 0
IsListTold disk image (Damaged shown damage) =
    (shown.bytes ≡ shown_of (chars image)) × IsChecked (dpb_of disk.format) (entries_of disk) (Err damage.fault) × (damage ≡ damage_of disk damage.fault)
IsListTold disk image OutOfMemory = IsSoundDisk disk
IsListTold disk image _ = ⊥

-- ---- the order: by user, and by the low seven bits of a name's characters

-- the first character that differs says which name is less
unfoldable pub is_less : List ℕ → List ℕ → Bool
is_less [] bs = false
is_less (a ∷ cs) [] = false
is_less (a ∷ cs) (b ∷ bs) = nat_lt (a % 128) (b % 128) || ((a % 128 == b % 128) && is_less cs bs)

unfoldable pub comes_before : DiskFile → DiskFile → Bool
comes_before file other = nat_lt file.user other.user || ((file.user == other.user) && is_less file.name other.name)

-- a file in its place among others: before the first that it comes before
unfoldable pub in_its_place : DiskFile → List DiskFile → List DiskFile
in_its_place file files = insert files (position_or_len (comes_before file) files) file

-- files, each put in its place among those before it
unfoldable pub placed_all : List DiskFile → List DiskFile → List DiskFile
placed_all done [] = done
placed_all done (file ∷ files) = placed_all (in_its_place file done) files

abbrev pub in_order : List DiskFile → List DiskFile
in_order files = placed_all [] files

-- own: in order the files are the same, each as often, and none comes before one that stands before it
abbrev pub OrderLaw : Type 0
OrderLaw =
    (files : List DiskFile) → IsPermutation files (in_order files)
    × ((j k : ℕ) (d : DiskFile) → j < k → k < length (in_order files)
    → comes_before (slice_index_or (in_order files) k d) (slice_index_or (in_order files) j d) ≡ false)

-- ---- a line

-- at the right or the left of a field of so many characters
abbrev pub right : ℕ → List ℕ → List ℕ
right width text = replicate (width - length text) 0x20 ++ text

abbrev pub left_aligned : ℕ → List ℕ → List ℕ
left_aligned width text = text ++ replicate (width - length text) 0x20

abbrev pub is_blank_byte : ℕ → Bool
is_blank_byte c = c % 128 == 0x20

-- a character without its attribute; a question mark stands for one that is not seen
unfoldable pub visible : ℕ → ℕ
visible c = if nat_lt 0x20 (c % 128) && nat_lt (c % 128) 0x7F then c % 128 else 0x3F

-- a part of a name, without the blanks after it
unfoldable pub seen_part : List ℕ → List ℕ
seen_part [] = []
seen_part (c ∷ cs) = if list_all is_blank_byte (c ∷ cs) then [] else visible c ∷ seen_part cs

-- a name, with a dot before the type if there is one
unfoldable pub seen_name : List ℕ → List ℕ
seen_name name =
    seen_part (take 8 name) ++ (if list_all is_blank_byte (drop 8 name) then [] else 0x2E ∷ seen_part (drop 8 name))

-- the attributes of a file, by its name
unfoldable pub read_only_of : List ℕ → List ℕ
read_only_of name = if nat_lt 127 (slice_index name 8) then codes ", read-only" else []

unfoldable pub system_of : List ℕ → List ℕ
system_of name = if nat_lt 127 (slice_index name 9) then codes ", system" else []

unfoldable pub unit_of : ℕ → List ℕ
unit_of count = if count == 1 then codes " record" else codes " records"

-- a file has at most 65,536 records: an extent's number goes up to 511, and an extent has 128
unfoldable pub file_line : DiskFile → List ℕ
file_line file =
    codes "user " ++ right 2 (decimal file.user) ++ codes "  " ++ left_aligned 12 (seen_name file.name) ++ codes " " ++ right 5 (decimal file.records)
    ++ unit_of file.records ++ read_only_of file.name ++ system_of file.name ++ codes "\n"

-- ---- the list

-- a file is of the user that is asked for, if one is
unfoldable pub is_wanted : Option ℕ → DiskFile → Bool
is_wanted None file = true
is_wanted (Some user) file = file.user == user

-- a line for each file that is wanted
unfoldable pub lines_of : Option ℕ → List DiskFile → List ℕ
lines_of user [] = []
lines_of user (file ∷ files) = (if is_wanted user file then file_line file else []) ++ lines_of user files

-- how many blocks are free, of those that files can have
unfoldable pub free_line : Format → ℕ → List ℕ
free_line format free = decimal free ++ codes " of " ++ decimal ((dpb_of format).last_block - 1) ++ codes " blocks are free\n"

abbrev pub list_text : Format → Option ℕ → DiskListing → List ℕ
list_text format user listing = lines_of user (in_order listing.files.items) ++ free_line format listing.free_blocks

-- Why a list is not written: its writer refuses some of it; or memory is refused, and the writer is as it was.
abbrev pub IsListWriteRefusal : {W : Type 0} → DiskCommandError → W → W → Type 0
IsListWriteRefusal {W} (OutputUnwritable reason) old new = ⊤
IsListWriteRefusal {W} OutOfMemory old new = new ≡ old
IsListWriteRefusal {W} _ old new = ⊥
