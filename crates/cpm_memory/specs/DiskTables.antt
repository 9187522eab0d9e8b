-- The tables of the BIOS that say how disks are laid out, in page FCh at opening. The system never reads them back.
use Rattle.std.specs.Prelude.{ℕ, ◌+◌, ◌*◌, ◌-◌, ◌/◌, ◌%◌, ◌==◌, nat_lt, nat_le, if◌then◌else◌, ◌&&◌, List, [], ◌∷◌, slice_index}
use Rattle.cpm_geom.specs.declared.dpb.Dpb.{Dpb}
use Rattle.cpm_geom.specs.declared.format.Format.{Format}
use Rattle.cpm_geom.specs.declared.format.Format.TheVariants.{Ibm3740, Large}
use Rattle.cpm_geom.specs.Geometry.{dpb_of, sector_of}
use Rattle.cpm_memory.specs.Layout.{skew_address, first_parameter_block_address, first_header_address}
use Rattle.cpm_memory.specs.Layout.{directory_buffer_address, first_allocation_vector_address, first_check_vector_address}

-- CP/M 2.2 Operating System Manual, section 6.10, Disk Parameter Tables: the bytes of a disk parameter block,
-- SPT, BSH, BLM, EXM, DSM, DRM, AL0, AL1, CKS and OFF; words low byte first
abbrev pub parameter_block : Dpb → List ℕ
parameter_block d =
    d.sectors_per_track % 256 ∷ d.sectors_per_track / 256
    ∷ d.block_shift ∷ d.block_mask ∷ d.extent_mask
    ∷ d.last_block % 256 ∷ d.last_block / 256
    ∷ d.last_entry % 256 ∷ d.last_entry / 256
    ∷ d.directory_bits / 256 ∷ d.directory_bits % 256
    ∷ d.checksum_size % 256 ∷ d.checksum_size / 256
    ∷ d.track_offset % 256 ∷ d.track_offset / 256 ∷ []

-- own: each table of the large disk stands 16 bytes after that of the standard disk
abbrev pub format_offset : Format → ℕ
format_offset Ibm3740 = 0
format_offset Large = 16

-- own: where the tables of a format and of a drive stand. Drives A to D are 0 to 3, and P is 4.
abbrev pub parameter_block_address : Format → ℕ
parameter_block_address f = first_parameter_block_address + format_offset f

abbrev pub header_address : Format → ℕ → ℕ
header_address f drive = first_header_address + 32 * drive + format_offset f

abbrev pub check_vector_address : ℕ → ℕ
check_vector_address drive = first_check_vector_address + 16 * drive

abbrev pub allocation_vector_address : ℕ → ℕ
allocation_vector_address drive = first_allocation_vector_address + 64 * drive

-- CP/M 2.2 Operating System Manual, section 6.10, Disk Parameter Tables: where the sector translation vector of a format stands, 0 where there is none
abbrev pub translation_address : Format → ℕ
translation_address Ibm3740 = skew_address
translation_address Large = 0

-- CP/M 2.2 Operating System Manual, section 6.10, Disk Parameter Tables: the disk parameter header of a drive.
-- Its words are XLT, three words of work area, DIRBUF, DPB, CSV and ALV.
abbrev pub parameter_header : Format → ℕ → List ℕ
parameter_header f drive =
    translation_address f ∷ 0 ∷ 0 ∷ 0 ∷ directory_buffer_address ∷ parameter_block_address f ∷ check_vector_address drive ∷ allocation_vector_address drive ∷ []

-- a byte of words that stand low byte first
abbrev pub word_byte : List ℕ → ℕ → ℕ
word_byte words place = (if place % 2 == 0 then slice_index words (place / 2) % 256 else slice_index words (place / 2) / 256)

-- the format whose table an offset lies in
abbrev pub format_at : ℕ → Format
format_at offset = if offset / 16 % 2 == 0 then Ibm3740 else Large

-- own: page FCh has the sector translation vector from 00h on, the parameter block of each format from 20h and 30h on,
-- and from 40h on 32 bytes for each of the drives A to D and P, its header in each format. All else is 0.
abbrev pub disk_table_byte : ℕ → ℕ
disk_table_byte offset =
    (if nat_lt offset 26 then sector_of Ibm3740 offset else
    (if nat_le 0x20 offset && nat_lt offset 0x40 then slice_index (parameter_block (dpb_of (format_at offset))) (offset % 16) else
    (if nat_le 0x40 offset && nat_lt offset 0xE0 then word_byte (parameter_header (format_at offset) ((offset - 0x40) / 32)) (offset % 16) else 0)))
