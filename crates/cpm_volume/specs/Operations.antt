-- What the calls on files do to a drive and to a file control block, in every case.
-- CP/M 2.2 Operating System Manual, section 5.2, Operating System Call Conventions; own: what the manual leaves open.
use Rattle.std.specs.Prelude.{ℕ, zero, suc, ◌+◌, ◌*◌, ◌/◌, ◌%◌, Bool, true, false, ◌&&◌, ◌||◌, not, nat_lt, ◌==◌}
use Rattle.std.specs.Prelude.{if◌then◌else◌, List, [], ◌∷◌, ◌++◌, map, Option, Some, None, max, replicate, length, slice_set}
use Rattle.std.specs.List.{range_with_len}
use Rattle.cpm_geom.specs.declared.dpb.Dpb.{Dpb}
use Rattle.cpm_volume.specs.declared.extent.Extent.{Extent}
use Rattle.cpm_volume.specs.declared.extent.Entry.{Entry}
pub use Rattle.cpm_volume.specs.declared.answer.Fault.{Fault}
pub use Rattle.cpm_volume.specs.declared.answer.Fault.TheVariants.{BadSector as bad_sector, ReadOnly as read_only}
pub use Rattle.cpm_volume.specs.declared.answer.Answer.{Answer}
pub use Rattle.cpm_volume.specs.declared.answer.Answer.TheVariants.{Done as done, NoRecord as no_record, NoBlock as no_block}
pub use Rattle.cpm_volume.specs.declared.answer.Answer.TheVariants.{CannotClose as cannot_close, NoExtent as no_extent}
pub use Rattle.cpm_volume.specs.declared.answer.Answer.TheVariants.{NoEntryFree as no_entry_free, Fault as fault}
use Rattle.cpm_volume.specs.Files.{extent_number, group_of, entry_place_of, block_number, entry_at, first_match}
use Rattle.cpm_volume.specs.Files.{record_count_of, first_free, least_free, Volume, DiskWrite, entry_put, record_put}

-- the code that a call gives back, if it gives one
unfoldable pub code_of : Answer → Option ℕ
code_of done = Some 0
code_of no_record = Some 1
code_of no_block = Some 2
code_of cannot_close = Some 3
code_of no_extent = Some 4
code_of no_entry_free = Some 5
code_of (fault which) = None

-- what a call on a record leaves: its answer, the drive, the file control block with its current record, and the number of the record that was read
pub record VolumeOutcome : Type 0 where
  pub answer : Answer
  pub volume : Volume
  pub extent : Extent
  pub current : ℕ
  pub read : Option ℕ

-- no record was read
unfoldable pub ends : Answer → Volume → Extent → ℕ → VolumeOutcome
ends answer v x current =
    record { answer = answer; volume = v; extent = x; current = current; read = None }

-- a record was read
unfoldable pub gives : Volume → Extent → ℕ → ℕ → VolumeOutcome
gives v x current number =
    record { answer = done; volume = v; extent = x; current = current; read = Some number }

-- one entry of the directory is another
unfoldable pub with_entry : Volume → ℕ → List Entry → Volume
with_entry v index es =
    record v { entries = es; written = v.written ++ entry_put index (entry_at es index) ∷ [] }

-- ---- close, open, make

-- two maps as one: a place takes its number from the side that has one
unfoldable pub merged : List ℕ → List ℕ → List ℕ
merged [] ys = []
merged (x ∷ xs) [] = x ∷ xs
merged (x ∷ xs) (y ∷ ys) = (if x == 0 then y else x) ∷ merged xs ys

-- no place has two different numbers
unfoldable pub agree : List ℕ → List ℕ → Bool
agree [] ys = true
agree (x ∷ xs) [] = true
agree (x ∷ xs) (y ∷ ys) = ((x == 0) || ((y == 0) || (x == y))) && agree xs ys

-- a number that the drive has no block for
unfoldable pub has_bad_block : Dpb → List ℕ → Bool
has_bad_block d [] = false
has_bad_block d (x ∷ xs) = nat_lt d.last_block x || has_bad_block d xs

-- the entry once a file control block is closed: its map, and where its number is no less its number and count
unfoldable pub closed_entry : Entry → Extent → Entry
closed_entry e x =
    record e {
      extent = if nat_lt (extent_number x) (extent_number e.extent)
          then record e.extent { blocks = x.blocks }
          else record e.extent { ex = x.ex; s2 = x.s2; record_count = x.record_count; blocks = x.blocks };
    }

unfoldable pub same_numbers : List ℕ → List ℕ → Bool
same_numbers [] [] = true
same_numbers [] (y ∷ ys) = false
same_numbers (x ∷ xs) [] = false
same_numbers (x ∷ xs) (y ∷ ys) = (x == y) && same_numbers xs ys

-- nothing that a close writes is another than it was
unfoldable pub is_unchanged : Extent → Extent → Bool
is_unchanged x y =
    (x.ex == y.ex) && ((x.s2 == y.s2) && ((x.record_count == y.record_count) && same_numbers x.blocks y.blocks))

-- what a close answers: FFh, a fault, or the entry's index, with the directory and the file control block
pub data Close : Type 0 where
  refused : Close
  close_fault : (which : Fault) → Close
  closed : (index : ℕ) (entries : List Entry) (extent : Extent) → Close

-- CLOSE FILE: own: the first entry that matches takes the map of both sides, on a protected drive only where that changes nothing
unfoldable pub close_extent : Dpb → Bool → List Entry → ℕ → Extent → Close
close_extent d protected es user x =
    let i = first_match d es user x.name (group_of d (extent_number x)) in
    let e = entry_at es i in
    let both = record x { blocks = merged x.blocks e.extent.blocks } in
    let after = closed_entry e both in
    if not (nat_lt i (length es)) then refused
    else (if has_bad_block d x.blocks then close_fault bad_sector
    else (if not (agree x.blocks e.extent.blocks) then refused
    else (if protected && not (is_unchanged e.extent after.extent) then close_fault read_only
    else closed i (slice_set es i after) both)))

-- bytes 1 to 31 of an entry, for the extent of this number
unfoldable pub opened_extent : Extent → ℕ → Extent
opened_extent e number =
    record e { ex = number % 32; s2 = number / 32; record_count = record_count_of number (extent_number e) e.record_count }

-- open the extent of a number: the first match of its group, if any
unfoldable pub open_extent : Dpb → List Entry → ℕ → List ℕ → ℕ → Option Extent
open_extent d es user name number =
    let i = first_match d es user name (group_of d number) in
    if nat_lt i (length es) then Some (opened_extent (entry_at es i).extent number) else None

-- open the extent of a number to read it: an entry of a lesser number is none
unfoldable pub open_to_read : Dpb → List Entry → ℕ → List ℕ → ℕ → Option Extent
open_to_read d es user name number =
    let i = first_match d es user name (group_of d number) in
    if nat_lt i (length es)
    then (if nat_lt (extent_number (entry_at es i).extent) number then None else Some (opened_extent (entry_at es i).extent number))
    else None

-- bytes 1 to 31 of a new extent
unfoldable pub made_extent : Extent → ℕ → Extent
made_extent x number =
    record x { ex = number % 32; s1 = 0; s2 = number / 32; record_count = 0; blocks = replicate 16 0 }

-- make the extent of a number: the first entry that is not in use, if any
unfoldable pub make_extent : List Entry → ℕ → Extent → ℕ → Option (List Entry × Extent)
make_extent es user x number =
    if nat_lt (first_free es) (length es)
    then Some (slice_set es (first_free es) (record { user = user; extent = made_extent x number }), made_extent x number)
    else None

-- OPEN FILE: own: S2 is taken as 0, and an entry of a lesser number counts as none
unfoldable pub open_file_on_volume : Dpb → List Entry → ℕ → Extent → Option Extent
open_file_on_volume d es user x = open_to_read d es user x.name (x.ex % 32)

-- CLOSE FILE
unfoldable pub close_file_on_volume : Dpb → Bool → List Entry → ℕ → Extent → Close
close_file_on_volume d protected es user x = close_extent d protected es user x

-- MAKE FILE: own: S2 is taken as 0
unfoldable pub make_file_on_volume : List Entry → ℕ → Extent → Option (List Entry × Extent)
make_file_on_volume es user x = make_extent es user x (x.ex % 32)

-- ---- the extent of a record

-- a call reads its record, or writes it
pub data Purpose : Type 0 where
  reading : Purpose
  writing : Purpose

-- a record in another extent, and the codes where this one can't be closed and that one can't be had
pub record Target : Type 0 where
  pub number : ℕ
  pub current : ℕ
  pub unclosed : Answer
  pub missing : Answer

-- where a call stands when it comes to its record
pub data Place : Type 0 where
  stopped : (answer : Answer) (volume : Volume) (extent : Extent) → Place
  standing : (volume : Volume) (extent : Extent) (current : ℕ) → Place

unfoldable pub opened_in : Volume → Extent → Target → Option Extent → Place
opened_in v x t None = stopped t.missing v x
opened_in v x t (Some it) = standing v it t.current

unfoldable pub made_in : Volume → Extent → Target → Option (List Entry × Extent) → Place
made_in v x t None = stopped t.missing v x
made_in v x t (Some made_extent) = standing (with_entry v (first_free v.entries) made_extent.0) made_extent.1 t.current

unfoldable pub opened_or_made : Volume → ℕ → Extent → Target → Option Extent → Place
opened_or_made v user x t None = made_in v x t (make_extent v.entries user x t.number)
opened_or_made v user x t (Some it) = standing v it t.current

-- open the extent; a write makes it where there is none
unfoldable pub have_extent : Dpb → Purpose → Volume → ℕ → Extent → Target → Place
have_extent d reading v user x t = opened_in v x t (open_to_read d v.entries user x.name t.number)
have_extent d writing v user x t = opened_or_made v user x t (open_extent d v.entries user x.name t.number)

unfoldable pub closed_in : Dpb → Purpose → Volume → ℕ → Extent → Target → Close → Place
closed_in d purpose v user x t refused = stopped t.unclosed v x
closed_in d purpose v user x t (close_fault which) = stopped (fault which) v x
closed_in d purpose v user x t (closed i es y) = have_extent d purpose (with_entry v i es) user y t

-- close the extent, then have another
unfoldable pub cross : Dpb → Purpose → Bool → Volume → ℕ → Extent → Target → Place
cross d purpose protected v user x t =
    closed_in d purpose v user x t (close_extent d protected v.entries user x)

-- the first record of the next extent
unfoldable pub next_target : Extent → Target
next_target x =
    record { number = extent_number x + 1; current = 0; unclosed = no_record; missing = no_record }

-- record n of the file
unfoldable pub target_of : Answer → ℕ → Target
target_of missing n =
    record { number = n / 128; current = n % 128; unclosed = cannot_close; missing = missing }

-- the record that is next in sequence
unfoldable pub next_place : Dpb → Purpose → Bool → Volume → ℕ → Extent → ℕ → Place
next_place d purpose protected v user x current =
    if nat_lt current 128 then standing v x current
    else (if extent_number x == 511 then stopped no_record v x
    else cross d purpose protected v user x (next_target x))

-- any record of the file
unfoldable pub place_at : Dpb → Purpose → Bool → Volume → ℕ → Extent → Target → Place
place_at d purpose protected v user x t =
    if t.number == extent_number x then standing v x t.current
    else cross d purpose protected v user x t

-- ---- the record

-- the record of the drive at a place of a block
unfoldable pub record_in_block : Dpb → ℕ → ℕ → ℕ
record_in_block d b current = b * (d.block_mask + 1) + current % (d.block_mask + 1)

-- read the current record; the next is then current
unfoldable pub get_record : Dpb → Volume → Extent → ℕ → ℕ → VolumeOutcome
get_record d v x current next =
    let b = block_number x (entry_place_of d x current) in
    if not (nat_lt current x.record_count) then ends no_record v x current
    else (if nat_lt d.last_block b then ends (fault bad_sector) v x current
    else (if b == 0 then ends no_record v x current
    else gives v x next (record_in_block d b current)))

-- the block that a write is into
pub data BlockChoice : Type 0 where
  no_such_block : BlockChoice
  none_free : BlockChoice
  old_block : (block : ℕ) → BlockChoice
  new_block : (block : ℕ) → BlockChoice

-- a number of the map, for none the least block that is not reserved, if it is one of the drive's
unfoldable pub block_to_write : Dpb → List Bool → ℕ → BlockChoice
block_to_write d reserved b =
    if nat_lt d.last_block b then no_such_block
    else (if not (b == 0) then old_block b
    else (if nat_lt (least_free reserved) (length reserved) && nat_lt (least_free reserved) (d.last_block + 1)
    then new_block (least_free reserved) else none_free))

-- the extent with a block at a place of its map
unfoldable pub with_block : Extent → ℕ → ℕ → Extent
with_block x place b = record x { blocks = slice_set x.blocks place b }

-- the extent counts a record
unfoldable pub counting : Extent → ℕ → Extent
counting x current = record x { record_count = max x.record_count (current + 1) }

-- records of zeros, `count` of them from a place on
unfoldable pub cleared_records : ℕ → ℕ → List (List ℕ) → List (List ℕ)
cleared_records start zero records = records
cleared_records start (suc count) records = slice_set (cleared_records start count records) (start + count) (replicate 128 0)

-- the records once a block is taken: a call may clear it
unfoldable pub taken_records : Dpb → Bool → ℕ → List (List ℕ) → List (List ℕ)
taken_records d false b records = records
taken_records d true b records = cleared_records (b * (d.block_mask + 1)) (d.block_mask + 1) records

-- and what is written then
unfoldable pub taken_writes : Dpb → Bool → ℕ → List DiskWrite
taken_writes d false b = []
taken_writes d true b =
    map (λ place. record_put (b * (d.block_mask + 1) + place) (replicate 128 0)) (range_with_len 0 (d.block_mask + 1))

unfoldable pub put_found : Dpb → Bool → Volume → Extent → ℕ → ℕ → List ℕ → BlockChoice → VolumeOutcome
put_found d clears v x current next bytes no_such_block = ends (fault bad_sector) v x current
put_found d clears v x current next bytes none_free = ends no_block v x current
put_found d clears v x current next bytes (old_block b) =
    ends done (record v {
      records = slice_set v.records (record_in_block d b current) bytes;
      written = v.written ++ record_put (record_in_block d b current) bytes ∷ [];
    }) (counting x current) next
put_found d clears v x current next bytes (new_block b) =
    ends done (record v {
      reserved = slice_set v.reserved b true;
      records = slice_set (taken_records d clears b v.records) (record_in_block d b current) bytes;
      written = (v.written ++ taken_writes d clears b) ++ record_put (record_in_block d b current) bytes ∷ [];
    })
    (counting (with_block x (entry_place_of d x current) b) current) next

-- write the current record; the next is then current
unfoldable pub put_record : Dpb → Bool → Volume → Extent → ℕ → ℕ → List ℕ → VolumeOutcome
put_record d clears v x current next bytes =
    put_found d clears v x current next bytes (block_to_write d v.reserved (block_number x (entry_place_of d x current)))

-- ---- the functions

-- a call at its record, `step` records on afterwards; one that stops before keeps the current record
unfoldable pub read_in : Dpb → ℕ → ℕ → Place → VolumeOutcome
read_in d current step (stopped answer v x) = ends answer v x current
read_in d current step (standing v x here) = get_record d v x here (here + step)

unfoldable pub write_in : Dpb → Bool → ℕ → ℕ → List ℕ → Place → VolumeOutcome
write_in d clears current step bytes (stopped answer v x) = ends answer v x current
write_in d clears current step bytes (standing v x here) = put_record d clears v x here (here + step) bytes

-- READ SEQUENTIAL
unfoldable pub read_next_on_volume : Dpb → Bool → Volume → ℕ → Extent → ℕ → VolumeOutcome
read_next_on_volume d protected v user x current =
    read_in d current 1 (next_place d reading protected v user x current)

-- WRITE SEQUENTIAL, to a drive that is not protected
unfoldable pub write_next_on_volume : Dpb → Volume → ℕ → Extent → ℕ → List ℕ → VolumeOutcome
write_next_on_volume d v user x current bytes =
    write_in d false current 1 bytes (next_place d writing false v user x current)

-- READ RANDOM, record n
unfoldable pub read_random_on_volume : Dpb → Bool → Volume → ℕ → Extent → ℕ → ℕ → VolumeOutcome
read_random_on_volume d protected v user x current n =
    read_in d current 0 (place_at d reading protected v user x (target_of no_extent n))

-- WRITE RANDOM, record n, to a drive that is not protected
unfoldable pub write_random_on_volume : Dpb → Volume → ℕ → Extent → ℕ → ℕ → List ℕ → VolumeOutcome
write_random_on_volume d v user x current n bytes =
    write_in d false current 0 bytes (place_at d writing false v user x (target_of no_entry_free n))

-- WRITE RANDOM WITH ZERO FILL, record n, to a drive that is not protected
unfoldable pub write_random_cleared_on_volume : Dpb → Volume → ℕ → Extent → ℕ → ℕ → List ℕ → VolumeOutcome
write_random_cleared_on_volume d v user x current n bytes =
    write_in d true current 0 bytes (place_at d writing false v user x (target_of no_entry_free n))
