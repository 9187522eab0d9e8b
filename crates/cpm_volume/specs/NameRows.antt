-- Worked rows: what the calls on all entries of a name must give.
use Rattle.std.specs.Prelude.{◌≡◌, ℕ, true, List, [], ◌∷◌, replicate, map}
use Rattle.cpm_volume.specs.declared.extent.Entry.{Entry}
use Rattle.cpm_volume.specs.Files.{Volume}
use Rattle.cpm_volume.specs.Operations.{VolumeOutcome, make_file_on_volume}
use Rattle.cpm_volume.specs.Names.{NameOutcome, none_named, file_read_only, named, erase_files_on_volume, rename_files_on_volume, set_attributes_on_volume}
use Rattle.cpm_volume.specs.Rows.{standard, t_dat, two_extents, from_make, more}

-- T.DAT of 129 records, blocks 02h to 12h
unfoldable pub two_taken : Volume
two_taken =
    record { entries = two_extents; reserved = replicate 19 true; records = []; written = [] }

-- U.DAT
unfoldable pub u_dat : List ℕ
u_dat =
    0x55 ∷ 0x20 ∷ 0x20 ∷ 0x20 ∷ 0x20 ∷ 0x20 ∷ 0x20 ∷ 0x20 ∷ 0x44 ∷ 0x41 ∷ 0x54 ∷ []

-- any name of type DAT
unfoldable pub any_dat : List ℕ
any_dat =
    0x3F ∷ 0x3F ∷ 0x3F ∷ 0x3F ∷ 0x3F ∷ 0x3F ∷ 0x3F ∷ 0x3F ∷ 0x44 ∷ 0x41 ∷ 0x54 ∷ []

-- T.DAT with the attribute of a read-only file
unfoldable pub t_dat_read_only : List ℕ
t_dat_read_only =
    0x54 ∷ 0x20 ∷ 0x20 ∷ 0x20 ∷ 0x20 ∷ 0x20 ∷ 0x20 ∷ 0x20 ∷ 0xC4 ∷ 0x41 ∷ 0x54 ∷ []

unfoldable pub users : NameOutcome → List ℕ
users none_named = []
users file_read_only = []
users (named first v) = first ∷ map (λ (e : Entry). e.user) v.entries

unfoldable pub names_in : NameOutcome → List (List ℕ)
names_in none_named = []
names_in file_read_only = []
names_in (named first v) = map (λ (e : Entry). e.extent.name) v.entries

-- U.DAT is made on a drive, and one record written
unfoldable pub u_started : Volume → VolumeOutcome
u_started v = from_make v (make_file_on_volume v.entries 0 (record t_dat { name = u_dat }))

unfoldable pub held : VolumeOutcome → List (List ℕ)
held o = o.extent.blocks ∷ map (λ (e : Entry). e.user ∷ e.extent.name) o.volume.entries

unfoldable pub u_made : NameOutcome → List (List ℕ)
u_made none_named = []
u_made file_read_only = []
u_made (named first v) = held (more standard (u_started v) (u_started v).answer)

-- T.DAT is erased, by its name or by a pattern; U.DAT then has its first entry and its first block
abbrev pub RowErase : Type 0
RowErase =
    (users (erase_files_on_volume standard two_taken 0 t_dat.name) ≡ 0 ∷ 0xE5 ∷ 0xE5 ∷ 0xE5 ∷ 0xE5 ∷ [])
    × (users (erase_files_on_volume standard two_taken 0 any_dat) ≡ 0 ∷ 0xE5 ∷ 0xE5 ∷ 0xE5 ∷ 0xE5 ∷ [])
    × (erase_files_on_volume standard two_taken 1 any_dat ≡ none_named)
    × (u_made (erase_files_on_volume standard two_taken 0 t_dat.name) ≡ (2 ∷ replicate 15 0) ∷ (0 ∷ u_dat) ∷ (0xE5 ∷ t_dat.name) ∷ (0xE5 ∷ []) ∷ (0xE5 ∷ [])
    ∷ [])

-- T.DAT is renamed in both its entries
abbrev pub RowRename : Type 0
RowRename =
    (names_in (rename_files_on_volume two_taken 0 t_dat.name u_dat) ≡ u_dat ∷ u_dat ∷ [] ∷ [] ∷ [])
    × (rename_files_on_volume two_taken 0 u_dat t_dat.name ≡ none_named)

-- what erase and rename answer on the drive then
unfoldable pub after_attributes : NameOutcome → NameOutcome × NameOutcome
after_attributes (named first v) =
    (erase_files_on_volume standard v 0 any_dat, rename_files_on_volume v 0 t_dat.name u_dat)
after_attributes none_named = (none_named, none_named)
after_attributes file_read_only = (none_named, none_named)

unfoldable pub cleared_attributes : NameOutcome → List (List ℕ)
cleared_attributes (named first v) = names_in (set_attributes_on_volume v 0 t_dat.name)
cleared_attributes none_named = []
cleared_attributes file_read_only = []

-- an attribute is set in both its entries; a read-only file is then neither erased nor renamed, and gets it off again by its name
abbrev pub RowAttributes : Type 0
RowAttributes =
    (names_in (set_attributes_on_volume two_taken 0 t_dat_read_only) ≡ t_dat_read_only ∷ t_dat_read_only ∷ [] ∷ [] ∷ [])
    × (after_attributes (set_attributes_on_volume two_taken 0 t_dat_read_only) ≡ (file_read_only, file_read_only))
    × (cleared_attributes (set_attributes_on_volume two_taken 0 t_dat_read_only) ≡ t_dat.name ∷ t_dat.name ∷ [] ∷ [] ∷ [])
