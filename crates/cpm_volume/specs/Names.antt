-- What the calls on all entries of a name do: erase, rename, set attributes, compute the size.
-- CP/M 2.2 Operating System Manual, section 5.2, Operating System Call Conventions; own: what the manual leaves open.
use Rattle.std.specs.Prelude.{ℕ, ◌+◌, ◌*◌, ◌/◌, ◌%◌, Bool, ◌&&◌, ◌||◌, not, nat_lt, ◌==◌, if◌then◌else◌}
use Rattle.std.specs.Prelude.{List, [], ◌∷◌, ◌++◌, Option, max, length, map, slice_index}
use Rattle.std.specs.List.{position_or_len, list_any, filter, reduce, range_with_len}
use Rattle.cpm_geom.specs.declared.dpb.Dpb.{Dpb}
use Rattle.cpm_volume.specs.declared.extent.Entry.{Entry}
use Rattle.cpm_volume.specs.Files.{deleted, extent_number, name_matches, is_reserved, is_directory_block, Volume, DiskWrite, entry_put}

-- an entry of the user whose name matches, of any extent
unfoldable pub is_named : ℕ → List ℕ → Entry → Bool
is_named user pattern e = (e.user == user) && name_matches pattern e.extent.name

-- the index of the first of them; the number of entries where there is none
unfoldable pub first_named : List Entry → ℕ → List ℕ → ℕ
first_named es user pattern = position_or_len (is_named user pattern) es

-- the high bit of the type's first character
unfoldable pub is_read_only : List ℕ → Bool
is_read_only name = nat_lt 127 (slice_index name 8)

-- each entry of the name changed, and no other
unfoldable pub change_named : ℕ → List ℕ → (Entry → Entry) → List Entry → List Entry
change_named user pattern change es = map (λ e. if is_named user pattern e then change e else e) es

-- the entries of the name are written as they are now, one after the other from an index on
unfoldable pub named_writes : ℕ → List ℕ → ℕ → List Entry → List Entry → List DiskWrite
named_writes user pattern i [] now = []
named_writes user pattern i (e ∷ es) [] = []
named_writes user pattern i (e ∷ es) (n ∷ now) =
    if is_named user pattern e then entry_put i n ∷ named_writes user pattern (i + 1) es now else named_writes user pattern (i + 1) es now

-- what a call on all entries of a name answers: FFh, File R/O, or the first's index with the drive
pub data NameOutcome : Type 0 where
  none_named : NameOutcome
  file_read_only : NameOutcome
  named : (first : ℕ) (volume : Volume) → NameOutcome

-- own: the attribute of any of them refuses the call before a change
unfoldable pub protects : ℕ → List ℕ → Entry → Bool
protects user pattern e = is_named user pattern e && is_read_only e.extent.name

unfoldable pub deletion : Entry → Entry
deletion e = record { user = deleted; extent = e.extent }

-- the block's number is in an entry that is erased
unfoldable pub is_erased : ℕ → List ℕ → List Entry → ℕ → Bool
is_erased user pattern es b =
    nat_lt 0 b && list_any (λ e. is_named user pattern e && list_any (λ number. number == b) e.extent.blocks) es

-- the reserved blocks once the entries of a name are erased: theirs are free, but those of AL0 and AL1
unfoldable pub reserved_after : Dpb → ℕ → List ℕ → List Entry → List Bool → List Bool
reserved_after d user pattern es reserved =
    map (λ b. is_reserved reserved b && (is_directory_block d b || not (is_erased user pattern es b))) (range_with_len 0 (length reserved))

-- DELETE FILE, on a drive that is not protected
unfoldable pub erase_files_on_volume : Dpb → Volume → ℕ → List ℕ → NameOutcome
erase_files_on_volume d v user pattern =
    if not (nat_lt (first_named v.entries user pattern) (length v.entries)) then none_named
    else (if list_any (protects user pattern) v.entries then file_read_only
    else named (first_named v.entries user pattern) (record v {
      entries = change_named user pattern deletion v.entries;
      reserved = reserved_after d user pattern v.entries v.reserved;
      written = v.written ++ named_writes user pattern 0 v.entries (change_named user pattern deletion v.entries);
    }))

unfoldable pub renaming : List ℕ → Entry → Entry
renaming name e = record e { extent = record e.extent { name = name } }

-- RENAME FILE, on a drive that is not protected: the eleven bytes as they are
unfoldable pub rename_files_on_volume : Volume → ℕ → List ℕ → List ℕ → NameOutcome
rename_files_on_volume v user pattern name =
    if not (nat_lt (first_named v.entries user pattern) (length v.entries)) then none_named
    else (if list_any (protects user pattern) v.entries then file_read_only
    else named (first_named v.entries user pattern) (record v {
      entries = change_named user pattern (renaming name) v.entries;
      written = v.written ++ named_writes user pattern 0 v.entries (change_named user pattern (renaming name) v.entries);
    }))

-- the low seven bits of a name with the high bits of another
unfoldable pub with_attributes : List ℕ → List ℕ → List ℕ
with_attributes [] bs = []
with_attributes (c ∷ cs) [] = c ∷ cs
with_attributes (c ∷ cs) (b ∷ bs) = (c % 128 + b / 128 * 128) ∷ with_attributes cs bs

unfoldable pub marking : List ℕ → Entry → Entry
marking pattern e =
    record e { extent = record e.extent { name = with_attributes e.extent.name pattern } }

-- SET FILE ATTRIBUTES, on a drive that is not protected: own: all eleven, and no attribute refuses it
unfoldable pub set_attributes_on_volume : Volume → ℕ → List ℕ → NameOutcome
set_attributes_on_volume v user pattern =
    if not (nat_lt (first_named v.entries user pattern) (length v.entries)) then none_named
    else named (first_named v.entries user pattern) (record v {
      entries = change_named user pattern (marking pattern) v.entries;
      written = v.written ++ named_writes user pattern 0 v.entries (change_named user pattern (marking pattern) v.entries);
    })

-- the records of a file up to the end of an entry, by the entry's count
unfoldable pub records_to : Entry → ℕ
records_to e = 128 * extent_number e.extent + e.extent.record_count

-- COMPUTE FILE SIZE: own: the greatest of these over the entries of the name, none where there is no such entry
unfoldable pub compute_size_on_volume : List Entry → ℕ → List ℕ → Option ℕ
compute_size_on_volume es user pattern = reduce max (map records_to (filter (is_named user pattern) es))
