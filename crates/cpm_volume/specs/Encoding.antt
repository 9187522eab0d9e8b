-- Directory entries and file control blocks as bytes.
use Rattle.std.specs.Prelude.{◌≡◌, ℕ, ◌+◌, ◌-◌, ◌*◌, ◌/◌, ◌%◌, ◌<◌, ◌==◌, nat_lt, if◌then◌else◌, List, [], ◌∷◌, length, map, slice_index, slice_range}
use Rattle.std.specs.List.{range_with_len}
use Rattle.cpm_geom.specs.declared.dpb.Dpb.{Dpb}
use Rattle.cpm_volume.specs.declared.extent.Extent.{Extent}
use Rattle.cpm_volume.specs.declared.extent.Entry.{Entry}
use Rattle.cpm_volume.specs.declared.fcb.Fcb.{Fcb}

-- CP/M 2.2 Operating System Manual, section 6.10, Disk Parameter Tables: block numbers are bytes where DSM is below 256, else words
unfoldable pub block_number_in : Dpb → List ℕ → ℕ → ℕ
block_number_in d bytes place =
    if nat_lt d.last_block 256 then slice_index bytes (16 + place)
    else (if nat_lt place 8 then slice_index bytes (16 + 2 * place) + 256 * slice_index bytes (17 + 2 * place) else 0)

-- CP/M 2.2 Operating System Manual, section 5.2, Operating System Call Conventions: bytes 1 to 31 of a file control block, which are those of a directory entry
unfoldable pub extent_of : Dpb → List ℕ → Extent
extent_of d bytes =
    record {
      name = slice_range bytes 1 12;
      ex = slice_index bytes 12;
      s1 = slice_index bytes 13;
      s2 = slice_index bytes 14;
      record_count = slice_index bytes 15;
      blocks = map (block_number_in d bytes) (range_with_len 0 16);
    }

-- the entry of 32 bytes
unfoldable pub entry_of : Dpb → List ℕ → Entry
entry_of d bytes = record { user = slice_index bytes 0; extent = extent_of d bytes }

-- CP/M 2.2 Operating System Manual, section 5.2, Operating System Call Conventions: the file control block of 36 bytes
unfoldable pub fcb_of : Dpb → List ℕ → Fcb
fcb_of d bytes =
    record {
      drive = slice_index bytes 0;
      extent = extent_of d bytes;
      current_record = slice_index bytes 32;
      random_record = slice_index bytes 33 ∷ slice_index bytes 34 ∷ slice_index bytes 35 ∷ [];
    }

-- the byte at a place of the sixteen of a map
unfoldable pub map_byte : Dpb → List ℕ → ℕ → ℕ
map_byte d blocks place =
    if nat_lt d.last_block 256 then slice_index blocks place % 256
    else (if place % 2 == 0 then slice_index blocks (place / 2) % 256 else slice_index blocks (place / 2) / 256)

-- the byte of an extent at a place of its entry
unfoldable pub extent_byte : Dpb → Extent → ℕ → ℕ
extent_byte d x offset =
    if nat_lt offset 12 then slice_index x.name (offset - 1)
    else (if offset == 12 then x.ex
    else (if offset == 13 then x.s1
    else (if offset == 14 then x.s2
    else (if offset == 15 then x.record_count
    else map_byte d x.blocks (offset - 16)))))

unfoldable pub entry_byte : Dpb → Entry → ℕ → ℕ
entry_byte d e offset = if offset == 0 then e.user else extent_byte d e.extent offset

unfoldable pub fcb_byte : Dpb → Fcb → ℕ → ℕ
fcb_byte d f offset =
    if offset == 0 then f.drive
    else (if nat_lt offset 32 then extent_byte d f.extent offset
    else (if offset == 32 then f.current_record
    else slice_index f.random_record (offset - 33)))

-- the bytes of an entry
unfoldable pub entry_bytes : Dpb → Entry → List ℕ
entry_bytes d e = map (entry_byte d e) (range_with_len 0 32)

-- the bytes of a file control block
unfoldable pub fcb_bytes : Dpb → Fcb → List ℕ
fcb_bytes d f = map (fcb_byte d f) (range_with_len 0 36)

-- one more than the greatest number that a place of a map has room for
unfoldable pub place_limit : Dpb → ℕ → ℕ
place_limit d place = if nat_lt d.last_block 256 then 256 else (if nat_lt place 8 then 65536 else 1)

-- the extent has a name and block numbers that its bytes have room for
pub record IsStorable (d : Dpb) (x : Extent) : Type 0 where
  pub name : length x.name ≡ 11
  pub map : length x.blocks ≡ 16
  pub numbers : (place : ℕ) → place < 16 → slice_index x.blocks place < place_limit d place

-- the list is of so many bytes
pub record AreBytes (size : ℕ) (bytes : List ℕ) : Type 0 where
  pub count : length bytes ≡ size
  pub bytes_fit : (k : ℕ) → slice_index bytes k < 256

-- what was read is written back, and what was written is read back
pub record AgreesWithBytes (d : Dpb) : Type 0 where
  pub entry_bytes_back : (bytes : List ℕ) → AreBytes 32 bytes → entry_bytes d (entry_of d bytes) ≡ bytes
  pub entry_back : (e : Entry) → IsStorable d e.extent → entry_of d (entry_bytes d e) ≡ e
  pub fcb_bytes_back : (bytes : List ℕ) → AreBytes 36 bytes → fcb_bytes d (fcb_of d bytes) ≡ bytes
  pub fcb_back : (f : Fcb) → IsStorable d f.extent → length f.random_record ≡ 3 → fcb_of d (fcb_bytes d f) ≡ f

abbrev pub EncodingLaw : Type 0
EncodingLaw = (d : Dpb) → AgreesWithBytes d
