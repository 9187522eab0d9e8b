-- own: the law of what a call has written: it is what the call changed, over all drives and file control blocks, sound or not.
use Rattle.std.specs.Prelude.{◌≡◌, ℕ, Bool, List, [], ◌∷◌, ◌++◌, Some, slice_set}
use Rattle.cpm_geom.specs.declared.dpb.Dpb.{Dpb}
use Rattle.cpm_volume.specs.declared.extent.Extent.{Extent}
use Rattle.cpm_volume.specs.declared.extent.Entry.{Entry}
use Rattle.cpm_volume.specs.Files.{Volume, DiskWrite, entry_put, record_put, first_free}
use Rattle.cpm_volume.specs.Operations.{with_entry, closed, close_file_on_volume, make_file_on_volume, read_next_on_volume}
use Rattle.cpm_volume.specs.Operations.{read_random_on_volume, write_next_on_volume, write_random_on_volume, write_random_cleared_on_volume}
use Rattle.cpm_volume.specs.Names.{named, erase_files_on_volume, rename_files_on_volume, set_attributes_on_volume}

-- own: one thing that is written, in the entries and the records of a volume
unfoldable pub logged : DiskWrite → Volume → Volume
logged (entry_put index entry) v = record v { entries = slice_set v.entries index entry }
logged (record_put number bytes) v = record v { records = slice_set v.records number bytes }

-- own: one after the other
unfoldable pub logged_all : List DiskWrite → Volume → Volume
logged_all [] v = v
logged_all (w ∷ ws) v = logged_all ws (logged w v)

-- own: the call wrote what it changed, and changed what it wrote: its log is longer by writes that lead from the entries and the records before to those after
pub record IsLogged (v v' : Volume) : Type 0 where
  pub writes : List DiskWrite
  pub log : v'.written ≡ v.written ++ writes
  pub entries : v'.entries ≡ (logged_all writes v).entries
  pub records : v'.records ≡ (logged_all writes v).records

-- own: each call on a file logs what it changes
pub record CallsLog (d : Dpb) (v : Volume) (user : ℕ) (x : Extent) : Type 0 where
  pub sequential_read : (protected : Bool) (current : ℕ) → IsLogged v (read_next_on_volume d protected v user x current).volume
  pub random_read : (protected : Bool) (current n : ℕ) → IsLogged v (read_random_on_volume d protected v user x current n).volume
  pub sequential_write : (current : ℕ) (bytes : List ℕ) → IsLogged v (write_next_on_volume d v user x current bytes).volume
  pub random_write : (current n : ℕ) (bytes : List ℕ) → IsLogged v (write_random_on_volume d v user x current n bytes).volume
  pub clearing_write : (current n : ℕ) (bytes : List ℕ) → IsLogged v (write_random_cleared_on_volume d v user x current n bytes).volume
  pub close : (protected : Bool) (index : ℕ) (after : List Entry) (x' : Extent)
      → close_file_on_volume d protected v.entries user x ≡ closed index after x' → IsLogged v (with_entry v index after)
  pub make : (after : List Entry) (x' : Extent)
      → make_file_on_volume v.entries user x ≡ Some (after, x') → IsLogged v (with_entry v (first_free v.entries) after)

-- own: so does each call on all entries of a name
pub record NamedCallsLog (d : Dpb) (v : Volume) (user : ℕ) (pattern : List ℕ) : Type 0 where
  pub erase : (first : ℕ) (v' : Volume) → erase_files_on_volume d v user pattern ≡ named first v' → IsLogged v v'
  pub rename : (name : List ℕ) (first : ℕ) (v' : Volume) → rename_files_on_volume v user pattern name ≡ named first v' → IsLogged v v'
  pub attributes : (first : ℕ) (v' : Volume) → set_attributes_on_volume v user pattern ≡ named first v' → IsLogged v v'

abbrev pub LogLaw : Type 0
LogLaw =
    ((d : Dpb) (v : Volume) (user : ℕ) (x : Extent) → CallsLog d v user x)
    × ((d : Dpb) (v : Volume) (user : ℕ) (pattern : List ℕ) → NamedCallsLog d v user pattern)
