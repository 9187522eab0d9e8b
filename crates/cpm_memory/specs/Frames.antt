-- A store of frames of 256 bytes, from which the pages of many memories are made.
use Rattle.std.specs.Prelude.{◌≡◌, ◌≢◌, ℕ, ◌+◌, ◌/◌, ◌%◌, ◌<◌, ◌≤◌, Bool, true, false, ◌==◌, if◌then◌else◌, List, [], Option, Some}
use Rattle.std.specs.Prelude.{None, length, map, sum_by, count_by, slice_index, slice_index_or, option_map, unwrap_or, is_some, nat_lt}
use Rattle.cpm_memory.specs.Contents.{Contents}
use Rattle.cpm_memory.specs.Opening.{opening_byte}
use Rattle.cpm_memory.specs.Stamps.{AreStamps}
use Rattle.cpm_memory.specs.Tabulated.{tabulated}
use Rattle.cpm_memory.specs.declared.store.TheConstants.{MOST_FRAMES}

-- The pages of one memory: the private frame of each, if it has one. While the table is taken it has a reservation. (own)
pub record Table : Type 0 where
  pub places : List (Option ℕ)
  pub reservation : Option ℕ

-- How many private frames there are, the bytes of these and then of the four boot frames, the tables, and for each table the stamps of its pages. (own)
pub record Frames : Type 0 where
  pub private : ℕ
  pub frames : List (List ℕ)
  pub tables : List Table
  pub stamps : List (List ℕ)

-- what is read where there is no table (own)
abbrev pub blank_table : Table
blank_table = record { places = []; reservation = None }

-- the table of a number (own)
abbrev pub table_at : Frames → ℕ → Table
table_at s t = slice_index_or s.tables t blank_table

-- the stamps of a table's pages (own)
abbrev pub stamps_at : Frames → ℕ → List ℕ
stamps_at s t = slice_index_or s.stamps t []

-- the private frame of a table's page (own)
abbrev pub private_at : Frames → ℕ → ℕ → Option ℕ
private_at s t page = slice_index_or (table_at s t).places page None

-- which boot frame a page begins with (own)
abbrev pub boot_of : ℕ → ℕ
boot_of page = (if page == 0 then 1 else (if page == 0xFA then 2 else (if page == 0xFC then 3 else 0)))

-- the frame that a table's page is made of: its private one, else its boot frame (own)
abbrev pub frame_of_page : Frames → ℕ → ℕ → ℕ
frame_of_page s t page = unwrap_or (private_at s t page) (s.private + boot_of page)

-- the 256 bytes of a frame (own)
abbrev pub frame_of : Frames → ℕ → List ℕ
frame_of s frame = slice_index_or s.frames frame []

-- a table's byte at an address lies in the frame of the address's page (own)
abbrev pub table_byte : Frames → ℕ → ℕ → ℕ
table_byte s t address = slice_index (frame_of s (frame_of_page s t (address / 256))) (address % 256)

-- the memory that a table's frames make (own)
abbrev pub memory_of : Frames → ℕ → Contents
memory_of s t = record { bytes = tabulated 65536 (table_byte s t); written = map is_some (table_at s t).places; limit = unwrap_or (table_at s t).reservation 0 }

-- the same, where the table is taken (own)
abbrev pub memory_at : Frames → ℕ → Option Contents
memory_at s t = option_map (λ _. memory_of s t) (table_at s t).reservation

-- the table has reserved some number of frames, be it none (own)
abbrev pub HasReservation : Frames → ℕ → Type 0
HasReservation s t = is_some (table_at s t).reservation ≡ true

-- the memories of all tables; a table that is not taken has none (own)
abbrev pub memories : Frames → List (Option Contents)
memories s = tabulated 64 (memory_at s)

-- The table is taken: it has a memory. (own)
abbrev pub IsTableTaken : Frames → ℕ → Type 0
IsTableTaken s t = is_some (slice_index_or (memories s) t None) ≡ true

-- whether this is the frame's number (own)
abbrev pub is_frame : ℕ → Option ℕ → Bool
is_frame frame None = false
is_frame frame (Some f) = f == frame

-- how many pages of one table are made of a private frame (own)
abbrev pub pages_on : ℕ → Table → ℕ
pages_on frame t = count_by (is_frame frame) t.places

-- how many pages of all tables are made of a private frame (own)
abbrev pub owners_of : Frames → ℕ → ℕ
owners_of s frame = sum_by (pages_on frame) s.tables

-- how many pages of all tables are made of the private frame of a table's page; none where the page has no private frame (own)
abbrev pub owners_at : Frames → ℕ → ℕ → ℕ
owners_at s t page = unwrap_or (option_map (owners_of s) (private_at s t page)) 0

-- A page is made of a private frame, of which no other page of any table is made. (own)
pub record IsAlone (s : Frames) (t page : ℕ) : Type 0 where
  pub private : frame_of_page s t page < s.private
  pub alone : (t' page' : ℕ) → frame_of_page s t' page' ≡ frame_of_page s t page → (t' ≡ t) × (page' ≡ page)

-- how many pages of a table are made of private frames (own)
abbrev pub used_by : Table → ℕ
used_by t = count_by is_some t.places

-- how many of its pages may be (own)
abbrev pub reserved_by : Table → ℕ
reserved_by t = unwrap_or t.reservation 0

-- how many frames all tables have reserved (own)
abbrev pub reserved_of : Frames → ℕ
reserved_of s = sum_by reserved_by s.tables

-- Each of 64 tables has the stamps of 256 pages. (own)
pub record AreTablesStamps (stamps : List (List ℕ)) : Type 0 where
  pub tables : length stamps ≡ 64
  pub each : (t : ℕ) → t < 64 → AreStamps (slice_index_or stamps t [])

-- What holds of a store at all times. (own)
pub record IsStoreSound (s : Frames) : Type 0 where
  pub bound : s.private ≤ MOST_FRAMES
  pub tables : length s.tables ≡ 64
  pub frames : length s.frames ≡ s.private + 4
  pub sizes : (f : ℕ) → f < s.private + 4 → length (frame_of s f) ≡ 256
  -- the boot frames never change
  pub boot : (page k : ℕ) → page < 256 → k < 256 → slice_index (frame_of s (s.private + boot_of page)) k ≡ opening_byte page k
  pub pages : (t : ℕ) → t < 64 → length (table_at s t).places ≡ 256
  pub numbers : (t page f : ℕ) → private_at s t page ≡ Some f → f < s.private
  -- a table that is not taken has boot frames alone
  pub blank : (t : ℕ) → (table_at s t).reservation ≡ None → used_by (table_at s t) ≡ 0
  -- each keeps to what it reserved, and no more is reserved than there is
  pub within : (t : ℕ) → used_by (table_at s t) ≤ reserved_by (table_at s t)
  pub limits : (t : ℕ) → reserved_by (table_at s t) ≤ 256
  pub reserved : reserved_of s ≤ s.private
  pub stamped : AreTablesStamps s.stamps

-- At most the memory of one table changes, and not how much it has reserved. (own)
pub record ChangesTable (old new : Frames) (t : ℕ) : Type 0 where
  pub others : (t' : ℕ) → t' ≢ t → memory_at new t' ≡ memory_at old t'
  pub private : new.private ≡ old.private
  pub reservation : (table_at new t).reservation ≡ (table_at old t).reservation

-- No page of another table moves. (own)
abbrev pub KeepsPlaces : Frames → Frames → ℕ → Type 0
KeepsPlaces old new t = (t' page : ℕ) → t' ≢ t → frame_of_page new t' page ≡ frame_of_page old t' page

-- No stamp of another table is raised. (own)
abbrev pub KeepsStamps : Frames → Frames → ℕ → Type 0
KeepsStamps old new t = (t' : ℕ) → t' ≢ t → stamps_at new t' ≡ stamps_at old t'

-- No page but this one of the table moves. (own)
abbrev pub MovesAtMost : Frames → Frames → ℕ → ℕ → Type 0
MovesAtMost old new t page = (t' page' : ℕ) → (t' ≡ t → page' ≡ page → ⊥) → frame_of_page new t' page' ≡ frame_of_page old t' page'

-- whether a table is taken (own)
abbrev pub is_table_taken : Table → Bool
is_table_taken t = is_some t.reservation

-- a table that is not taken: each page is made of its boot frame (own)
abbrev pub empty_table : Table
empty_table = record { places = tabulated 256 (λ _. None); reservation = None }

-- a table that was never taken (own)
pub record IsBlank (t : Table) : Type 0 where
  pub pages : length t.places ≡ 256
  pub reservation : t.reservation ≡ None
  pub used : used_by t ≡ 0

-- the frames of a new store: each has 256 bytes, and the last four are the boot frames (own)
pub record AreNewFrames (frames : List (List ℕ)) (private : ℕ) : Type 0 where
  pub count : length frames ≡ private + 4
  pub sizes : (f : ℕ) → f < private + 4 → length (slice_index_or frames f []) ≡ 256
  pub zeros : slice_index_or frames private [] ≡ tabulated 256 (opening_byte 1)
  pub base : slice_index_or frames (private + 1) [] ≡ tabulated 256 (opening_byte 0)
  pub jumps : slice_index_or frames (private + 2) [] ≡ tabulated 256 (opening_byte 0xFA)
  pub disks : slice_index_or frames (private + 3) [] ≡ tabulated 256 (opening_byte 0xFC)

-- how many different private frames the pages of all tables are made of (own)
abbrev pub used_of : Frames → ℕ
used_of s = count_by (nat_lt 0) (tabulated s.private (owners_of s))
