-- The law of records that are written at the end of a file, over all drives and file control blocks.
use Rattle.std.specs.Prelude.{◌≡◌, ◌≢◌, ◌⊎◌, ℕ, ◌<◌, ◌≤◌, List, None}
use Rattle.cpm_geom.specs.declared.dpb.Dpb.{Dpb}
use Rattle.cpm_volume.specs.declared.extent.Extent.{Extent}
use Rattle.cpm_volume.specs.Files.{deleted, open_file_record, IsFormat, IsSound, Volume}
use Rattle.cpm_volume.specs.Operations.{write_next_on_volume}
use Rattle.cpm_volume.specs.Laws.{position}
use Rattle.cpm_image_files.specs.Appending.{IsAppending, IsAppended, LacksEntry, LacksBlock}

-- at the end of a file there is no further record, and a write of the next one takes an entry and a block where it begins one, and nothing else;
-- and it changes no record but in the file's blocks
abbrev pub AppendingLaw : Type 0
AppendingLaw =
    (d : Dpb) (user : ℕ) (name : List ℕ) (v : Volume) (x : Extent) (current : ℕ) (bytes : List ℕ) → user ≢ deleted → IsFormat d → IsSound d v user x
    → IsAppending d user name v x current
    → ((m : ℕ) → position x current ≤ m → open_file_record d v.entries v.records user x m ≡ None)
    × (position x current < 65536
    → IsAppended d user name v x (position x current) (write_next_on_volume d v user x current bytes)
    ⊎ (LacksEntry d v (position x current) (write_next_on_volume d v user x current bytes)
    ⊎ LacksBlock d v (position x current) (write_next_on_volume d v user x current bytes)))
