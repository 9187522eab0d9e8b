-- Whether the directory of a drive agrees with itself, and what is wrong with it. What a disk is refused for is own.
use Rattle.std.specs.Prelude.{◌≡◌, ℕ, ◌<◌, Bool, not, ◌==◌, ◌&&◌, ◌||◌, nat_lt, if◌then◌else◌, List, Option}
use Rattle.std.specs.Prelude.{Some, None, option_map, Result, Ok, Err, length, take, slice_index_or, true}
use Rattle.std.specs.Option.{option_or}
use Rattle.std.specs.List.{find, list_any, position, position_or_len, range_with_len}
use Rattle.cpm_geom.specs.declared.dpb.Dpb.{Dpb}
use Rattle.cpm_volume.specs.declared.extent.Entry.{Entry}
use Rattle.cpm_volume.specs.Files.{deleted, entry_at, block_number, extent_number, first_of, group_of, is_directory_block}
use Rattle.cpm_directory.specs.Login.{has_block}
use Rattle.cpm_directory.specs.declared.fault.DriveFault.{DriveFault}
use Rattle.cpm_directory.specs.declared.fault.DriveFault.TheVariants.{BadBlock, TwiceBlock, TwiceEntry}

-- a number that no file can have: above the last block, or of the directory's blocks; 0 is no number
unfoldable pub is_bad_block : Dpb → ℕ → Bool
is_bad_block d b = not (b == 0) && (nat_lt d.last_block b || is_directory_block d b)

-- an entry has a number that no file can have: the first in its map
unfoldable pub bad_block_in : Dpb → List Entry → ℕ → Option DriveFault
bad_block_in d es i = option_map (λ b. BadBlock i b) (find (is_bad_block d) (entry_at es i).extent.blocks)

-- the index of the first entry in use that has a block
unfoldable pub owner_of : List Entry → ℕ → ℕ
owner_of es b = position_or_len (has_block b) es

-- the number at a place of an entry's map stands before it: in an earlier entry in use, or earlier in this map
unfoldable pub stands_before : List Entry → ℕ → ℕ → Bool
stands_before es i s =
    let x = (entry_at es i).extent in
    let b = block_number x s in
    not (b == 0) && (nat_lt (owner_of es b) i || list_any (λ number. number == b) (take s x.blocks))

-- an entry has a block that stands before: the first such place of its map, and who has the block
unfoldable pub twice_block_in : List Entry → ℕ → Option DriveFault
twice_block_in es i =
    option_map (λ s. let b = block_number (entry_at es i).extent s in TwiceBlock i b (owner_of es b))
    (position (λ s. stands_before es i s) (range_with_len 0 (length (entry_at es i).extent.blocks)))

-- an entry is of the user, the name (in the low seven bits of each character) and the group of extents of an earlier one: the first of these
unfoldable pub twice_entry_in : Dpb → List Entry → ℕ → Option DriveFault
twice_entry_in d es i =
    let e = entry_at es i in
    let earlier = first_of d es e.user e.extent.name (group_of d (extent_number e.extent)) in
    if nat_lt earlier i then Some (TwiceEntry i earlier) else None

-- what is wrong with the entry at an index, in this order; nothing with one that is not in use
unfoldable pub fault_of : Dpb → List Entry → ℕ → Option DriveFault
fault_of d es i =
    if (entry_at es i).user == deleted then None
    else option_or (bad_block_in d es i) (option_or (twice_block_in es i) (twice_entry_in d es i))

-- no entry has a fault; or this is the fault of the first that has one
abbrev pub IsChecked : Dpb → List Entry → Result (Unit {0}) DriveFault → Type 0
IsChecked d es (Ok _) = (i : ℕ) → fault_of d es i ≡ None
IsChecked d es (Err fault) = (i : ℕ) × (fault_of d es i ≡ Some fault) × ((j : ℕ) → j < i → fault_of d es j ≡ None)

-- own: the tests of 512 numbers say which blocks stand in the entries in use before an index
pub record AreBefore (es : List Entry) (i : ℕ) (tests : List Bool) : Type 0 where
  pub size : length tests ≡ 512
  pub at : (b : ℕ) → 0 < b → b < 512 → slice_index_or tests b true ≡ list_any (has_block b) (take i es)
