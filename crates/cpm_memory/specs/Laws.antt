-- Laws of memories and of the store. All are own: CP/M has one memory and no store.
use Rattle.std.specs.Prelude.{◌≡◌, ◌≢◌, ℕ, ◌+◌, ◌*◌, ◌/◌, ◌%◌, ◌<◌, List, Some, slice_index, slice_set}
use Rattle.cpm_memory.specs.Contents.{Write, byte_at, word_at, touched_of, after_sets}
use Rattle.cpm_geom.specs.Geometry.{dpb_of, sector_of}
use Rattle.cpm_geom.specs.declared.format.Format.{Format}
use Rattle.cpm_geom.specs.declared.format.Format.TheVariants.{Ibm3740}
use Rattle.cpm_memory.specs.Layout.{skew_address}
use Rattle.cpm_memory.specs.DiskTables.{parameter_block, parameter_block_address, parameter_header, header_address}
use Rattle.cpm_memory.specs.Opening.{opening, opening_byte}
use Rattle.cpm_memory.specs.Frames.{Frames, IsTableTaken, frame_of_page, frame_of, stamps_at, memory_of, memories}
use Rattle.cpm_memory.specs.View.{ViewLeads, store_of, view_table, contents_of}
use Rattle.cpm_memory.specs.declared.view.View.{View}

-- A memory at its opening has the bytes of the table, and no page is written. (own)
abbrev pub OpensBlank : Type 0
OpensBlank = (limit : ℕ) →
    (touched_of (opening limit) ≡ 0)
    × ((address : ℕ) → address < 65536 → byte_at (opening limit) address ≡ opening_byte (address / 256) (address % 256))

-- A memory at its opening has the disk tables: the skew, and of each format the parameter block byte by byte
-- and the header of each of five drives word by word. (own)
pub record HasDiskTables (limit : ℕ) : Type 0 where
  pub sectors : (k : ℕ) → k < 26 → byte_at (opening limit) (skew_address + k) ≡ sector_of Ibm3740 k
  pub parameters : (f : Format) (k : ℕ) → k < 15 → byte_at (opening limit) (parameter_block_address f + k) ≡ slice_index (parameter_block (dpb_of f)) k
  pub headers : (f : Format) (drive k : ℕ) → drive < 5 → k < 8
      → word_at (opening limit) (header_address f drive + 2 * k) ≡ slice_index (parameter_header f drive) k

abbrev pub OpensWithDiskTables : Type 0
OpensWithDiskTables = (limit : ℕ) → HasDiskTables limit

-- A byte of a table's memory is a byte of the frame at its page. (own)
abbrev pub FramesMakeMemories : Type 0
FramesMakeMemories = (s : Frames) (t address : ℕ) → address < 65536 →
    byte_at (memory_of s t) address ≡ slice_index (frame_of s (frame_of_page s t (address / 256))) (address % 256)

-- What a store is after any calls of a view, whether or not the view still lives. (own)
pub record ChangesOwnTable (v w : View) : Type 0 where
  -- some stores were made to the memory of its table, and no other memory changed
  pub stores : List Write
  pub memories : memories (store_of w) ≡ slice_set (memories (store_of v)) (view_table v) (Some (after_sets (contents_of v) stores))
  -- no page of another table moved
  pub places : (t page : ℕ) → t ≢ view_table v → frame_of_page (store_of w) t page ≡ frame_of_page (store_of v) t page
  -- nor was its stamp raised
  pub stamps : (t : ℕ) → t ≢ view_table v → stamps_at (store_of w) t ≡ stamps_at (store_of v) t
  -- and the frames of the other tables have the bytes that they had
  pub frames : (t page : ℕ) → t ≢ view_table v → t < 64 → page < 256 → IsTableTaken (store_of v) t
      → frame_of (store_of w) (frame_of_page (store_of v) t page) ≡ frame_of (store_of v) (frame_of_page (store_of v) t page)

-- Whatever is done through a view changes its own table alone. (own)
abbrev pub ViewsChangeOwnTable : Type 0
ViewsChangeOwnTable = (v w : View) → ViewLeads v w → ChangesOwnTable v w
