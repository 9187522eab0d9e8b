-- The vectors of drives and of blocks.
-- CP/M 2.2 Operating System Manual, section 5.2, Operating System Call Conventions, functions 24, 27 and 29.
use Rattle.std.specs.Prelude.{ℕ, ◌+◌, ◌-◌, ◌*◌, ◌/◌, ◌^◌, Bool, ◌&&◌, nat_le, List, [], ◌∷◌, Option, Some, None, if◌then◌else◌, map, sum}
use Rattle.std.specs.List.{range_with_len}
use Rattle.cpm_geom.specs.Geometry.{dpb_of}
use Rattle.cpm_geom.specs.declared.dpb.Dpb.{Dpb}
use Rattle.cpm_volume.specs.Reserved.{is_reserved}
use Rattle.cpm_drive.specs.declared.drive.Drive.{Drive}
use Rattle.cpm_drive.specs.declared.drive.Marks.{Marks}
use Rattle.cpm_drives.specs.declared.disks.Disks.{Disks}

abbrev pub drive_bit : Bool → ℕ → ℕ
drive_bit set n = if set then 2 ^ n else 0

-- a bit for each drive whose marks are such, A's the lowest
unfoldable pub vector_from : (Marks → Bool) → ℕ → List (Option Drive) → ℕ
vector_from test n [] = 0
vector_from test n (None ∷ drives) = vector_from test (n + 1) drives
vector_from test n (Some drive ∷ drives) = drive_bit (test drive.marks) n + vector_from test (n + 1) drives

-- RETURN LOGIN VECTOR
unfoldable pub login_vector : Disks → ℕ
login_vector disks = vector_from (λ marks. marks.is_logged_in) 0 disks.drives + drive_bit disks.system.is_logged_in 15

-- GET READ-ONLY VECTOR: own: the system drive is always in it
unfoldable pub read_only_vector : Disks → ℕ
read_only_vector disks = vector_from (λ marks. marks.is_protected) 0 disks.drives + 2 ^ 15

-- the number is a block of the drive, and reserved
abbrev pub is_reserved_block : Dpb → List Bool → ℕ → Bool
is_reserved_block d reserved b = nat_le b d.last_block && is_reserved reserved b

-- eight blocks as a byte, the first as its highest bit
abbrev pub allocation_bit : Dpb → List Bool → ℕ → ℕ → ℕ
allocation_bit d reserved k place = drive_bit (is_reserved_block d reserved (8 * k + place)) (7 - place)

abbrev pub allocation_byte : Dpb → List Bool → ℕ → ℕ
allocation_byte d reserved k = sum (map (allocation_bit d reserved k) (range_with_len 0 8))

-- GET ADDR(ALLOC): a bit for each block of a drive, set where it is reserved
unfoldable pub allocation_vector : Dpb → List Bool → List ℕ
allocation_vector d reserved = map (allocation_byte d reserved) (range_with_len 0 (d.last_block / 8 + 1))

abbrev pub allocation_of : Drive → List ℕ
allocation_of drive = allocation_vector (dpb_of drive.image.format) drive.marks.reserved
