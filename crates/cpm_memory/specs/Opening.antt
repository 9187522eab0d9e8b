-- The memory of a session at its opening.
use Rattle.std.specs.Prelude.{ℕ, ◌-◌, ◌/◌, ◌%◌, Bool, false, ◌==◌, nat_lt, if◌then◌else◌, ◌&&◌, List, ◌∷◌, ◌++◌, slice_index}
use Rattle.cpm_memory.specs.Contents.{Contents}
use Rattle.cpm_memory.specs.Layout.{warm_boot_jump, bdos_jump}
use Rattle.cpm_memory.specs.DiskTables.{disk_table_byte}
use Rattle.cpm_memory.specs.Tabulated.{tabulated}

-- the jump to the warm boot, the I/O and drive bytes, and the jump to the BDOS
abbrev pub base_page : List ℕ
base_page = warm_boot_jump ++ 0 ∷ 0 ∷ bdos_jump

-- a jump of the BIOS's table: entry k leads to FB00h + k
abbrev pub jump_byte : ℕ → ℕ → ℕ
jump_byte k part = (if part == 0 then 0xC3 else (if part == 1 then k else 0xFB))

-- two blank file names, at 5Ch and 6Ch
abbrev pub is_blank_name_byte : ℕ → Bool
is_blank_name_byte offset = nat_lt 0 ((offset - 0x5C) % 16) && nat_lt ((offset - 0x5C) % 16) 12 && nat_lt 0x5C offset && nat_lt offset 0x78

-- page 00h
abbrev pub base_byte : ℕ → ℕ
base_byte offset = (if nat_lt offset 8 then slice_index base_page offset else (if is_blank_name_byte offset then 0x20 else 0))

-- page FAh
abbrev pub jumps_byte : ℕ → ℕ
jumps_byte offset = (if nat_lt offset 51 then jump_byte (offset / 3) (offset % 3) else 0)

-- The byte at an offset of a page.
unfoldable pub opening_byte : ℕ → ℕ → ℕ
opening_byte page offset =
    (if page == 0 then base_byte offset else
    (if page == 0xFA then jumps_byte offset else
    (if page == 0xFC then disk_table_byte offset else 0)))

-- the memory at opening, of which so many pages may be written
abbrev pub opening : ℕ → Contents
opening limit = record { bytes = tabulated 65536 (λ a. opening_byte (a / 256) (a % 256)); written = tabulated 256 (λ _. false); limit = limit }
