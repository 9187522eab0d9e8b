-- A disk and the volume that it holds, and writes to it.
use Rattle.std.proofs.Common.{◌≡◌, ◌≢◌, ℕ, ◌+◌, ◌-◌, ◌*◌, ◌/◌, ◌%◌, ◌<◌, ◌≤◌, Bool, List, [], ◌∷◌, ◌++◌, length, get_or, set, take, drop, map, sym, refl, ap, ◌∙◌, inl, inr, arith}
use Rattle.std.specs.List.{range_with_len}
use Rattle.std.proofs.lemmas.List.{get_or-take, get_or-drop, get_or_past, get_or_append_left, get_or-append-add, get_or-set_same, get_or-set_other, length-drop, length-set}
use Rattle.std.proofs.Common.{length-take}
use Rattle.std.proofs.lemmas.Bool.{cases_eq, cases_lt, eq-eqb, ne_eqb, lt-ltb, le-ltb}
use Rattle.std.proofs.lemmas.List.FromFn.{length-map-range_with_len, get_or-map-range_with_len}
use Rattle.cpm_geom.specs.declared.dpb.Dpb.{Dpb}
use Rattle.cpm_geom.specs.declared.format.Format.{Format}
use Rattle.cpm_geom.specs.declared.format.Format.TheVariants.{Ibm3740, Large}
use Rattle.cpm_geom.specs.Geometry.{dpb_of, tracks_of, sectors_per_track, IsRecord, record_index}
use Rattle.cpm_geom.specs.Disk.{Disk, IsDisk, HasBytes, record_count, records_of, sector_at, with_sector}
use Rattle.cpm_geom.proofs.GeometryLemmas.{record_within}
use Rattle.cpm_geom.proofs.SectorLemmas.{put_length}
use Rattle.cpm_geom.proofs.RecordLemmas.{are_listed, are_records}
use Rattle.cpm_volume.specs.declared.extent.Extent.{Extent}
use Rattle.cpm_volume.specs.declared.extent.Entry.{Entry}
use Rattle.cpm_volume.specs.Files.{entry_at, directory_records, Volume, DiskWrite, entry_put, record_put, IsVolume}
use Rattle.cpm_volume.specs.Encoding.{block_number_in, extent_of, entry_of, map_byte, extent_byte, entry_byte, entry_bytes, place_limit, IsStorable, AreBytes}
use Rattle.cpm_volume.specs.LogLaws.{logged, logged_all}
use Rattle.cpm_volume.proofs.Entries.{in_use_within}
use Rattle.cpm_directory.specs.Directory.{slot_bytes, entries_of, record_with_entry}
use Rattle.cpm_directory.proofs.DriveLemmas.{entries_length, entry_is, entry_record}
use Rattle.cpm_directory.proofs.SlotLemmas.{put_in_directory, put_keeps, entry_size, slot_is}
use Rattle.cpm_volume.proofs.Formats.{each_format}
use Rattle.cpm_directory.proofs.LawLemmas.{outside}
use Rattle.cpm_drive.specs.Drive.{volume_of, after_write, after_writes}
use Rattle.cpm_drive.specs.Laws.{Holds, IsDiskOf, IsOfBytes, Fits, AllFit}

-- ---- lists of bytes
abbrev AllBytes : List ℕ → Type 0
AllBytes xs = (k : ℕ) → get_or xs k 0 < 256

take_fits : (n : ℕ) (xs : List ℕ) → AllBytes xs → AllBytes (take n xs)
take_fits n xs h k =
    elim (cases_lt k n) [
      | inl lt ↦ rw (get_or-take n xs k 0 lt) (h k)
      | inr ge ↦ rw (get_or_past (take n xs) k 0 (simp length-take (omega arith))) (omega arith)
    ]

drop_fits : (n : ℕ) (xs : List ℕ) → AllBytes xs → AllBytes (drop n xs)
drop_fits n xs h k = rw (get_or-drop n xs k 0) (h (n + k))

append_fits : (xs ys : List ℕ) → AllBytes xs → AllBytes ys → AllBytes (xs ++ ys)
append_fits xs ys h g k =
    elim (cases_lt k (length xs)) [
      | inl lt ↦ rw (get_or_append_left xs ys 0 k lt) (h k)
      | inr ge ↦
          let split : k ≡ length xs + (k - length xs) = omega arith in
          rw (ap (λ i. get_or (xs ++ ys) i 0) split ∙ get_or-append-add xs ys (k - length xs) 0) (g (k - length xs))
    ]

-- ---- an entry of bytes
number_fits : (d : Dpb) (bytes : List ℕ) (place : ℕ) → AllBytes bytes → block_number_in d bytes place < place_limit d place
unfolding block_number_in place_limit
number_fits d bytes place h =
    elim (cases_lt d.last_block 256) [
      | inl small ↦ rw (lt-ltb _ _ small) (h (16 + place))
      | inr large ↦ rw (le-ltb _ _ large) (elim (cases_lt place 8) [
        | inl word ↦ rw (lt-ltb _ _ word) (omega (arith, h (16 + 2 * place), h (17 + 2 * place)))
        | inr past ↦ rw (le-ltb _ _ past) (omega arith)
      ])
    ]

entry_map : (d : Dpb) (bytes : List ℕ) → length (entry_of d bytes).extent.blocks ≡ 16
unfolding entry_of extent_of
entry_map d bytes = length-map-range_with_len (block_number_in d bytes) 0 16

pub read_fits : (d : Dpb) (bytes : List ℕ) → 32 ≤ length bytes → AllBytes bytes → IsOfBytes d (entry_of d bytes).extent
unfolding entry_of extent_of
read_fits d bytes size h = record {
  storable = record {
    name = simp (length-take, length-drop) (omega arith);
    map = length-map-range_with_len (block_number_in d bytes) 0 16;
    numbers = λ place below. rw (get_or-map-range_with_len (block_number_in d bytes) 0 16 place place 0 below (omega arith)) (number_fits d bytes place h);
  };
  name = take_fits 11 (drop 1 bytes) (drop_fits 1 bytes h);
  ex = h 12;
  s1 = h 13;
  s2 = h 14;
  records = h 15;
}

-- a byte of an entry that has room in its bytes
map_fits : (d : Dpb) (x : Extent) (place : ℕ) → IsStorable d x → place < 16 → map_byte d x.blocks place < 256
unfolding map_byte place_limit
map_fits d x place storable h =
    elim (cases_lt d.last_block 256) [
      | inl small ↦ rw (lt-ltb _ _ small) (omega arith)
      | inr large ↦ rw (le-ltb _ _ large) (elim (cases_eq (place % 2) 0) [
        | inl even ↦ rw (eq-eqb _ _ even) (omega arith)
        | inr odd ↦
            let below : place / 2 < 8 = omega arith in
            let room = storable.numbers (place / 2) (omega arith) in
            let number : get_or x.blocks (place / 2) 0 < 65536 = rw (le-ltb _ _ large, lt-ltb _ _ below) at room in
            rw (ne_eqb _ _ odd) (omega arith)
      ])
    ]

extent_fits : (d : Dpb) (x : Extent) (k : ℕ) → IsOfBytes d x → k < 32 → extent_byte d x k < 256
unfolding extent_byte
extent_fits d x k fit h =
    elim (cases_lt k 12) [
      | inl name ↦ rw (lt-ltb _ _ name) (fit.name (k - 1))
      | inr later ↦ rw (le-ltb _ _ later) (elim (cases_eq k 12) [
        | inl e ↦ rw e fit.ex
        | inr n12 ↦ rw (ne_eqb _ _ n12) (elim (cases_eq k 13) [
          | inl e ↦ rw e fit.s1
          | inr n13 ↦ rw (ne_eqb _ _ n13) (elim (cases_eq k 14) [
            | inl e ↦ rw e fit.s2
            | inr n14 ↦ rw (ne_eqb _ _ n14) (elim (cases_eq k 15) [
              | inl e ↦ rw e fit.records
              | inr n15 ↦ rw (ne_eqb _ _ n15) (map_fits d x (k - 16) fit.storable (omega arith))
            ])
          ])
        ])
      ])
    ]

byte_fits : (d : Dpb) (e : Entry) (k : ℕ) → e.user < 256 → IsOfBytes d e.extent → k < 32 → entry_byte d e k < 256
unfolding entry_byte
byte_fits d e k user fit h =
    elim (cases_eq k 0) [
      | inl z ↦ rw (eq-eqb _ _ z) user
      | inr n ↦ rw (ne_eqb _ _ n) (extent_fits d e.extent k fit h)
    ]

bytes_fit : (d : Dpb) (e : Entry) → e.user < 256 → IsOfBytes d e.extent → AllBytes (entry_bytes d e)
unfolding entry_bytes
bytes_fit d e user fit k =
    elim (cases_lt k 32) [
      | inl lt ↦ rw (get_or-map-range_with_len (entry_byte d e) 0 32 k k 0 lt (omega arith)) (byte_fits d e k user fit lt)
      | inr ge ↦ rw (get_or_past (map (entry_byte d e) (range_with_len 0 32)) k 0 (rw (length-map-range_with_len (entry_byte d e) 0 32) ge)) (omega arith)
    ]

-- ---- a disk of bytes
slot_size : (bytes : List ℕ) (slot : ℕ) → length bytes ≡ 128 → slot < 4 → length (slot_bytes bytes slot) ≡ 32
unfolding slot_bytes
slot_size bytes slot size h = simp (length-take, length-drop) (omega arith)

slot_fits : (bytes : List ℕ) (slot : ℕ) → AllBytes bytes → AllBytes (slot_bytes bytes slot)
unfolding slot_bytes
slot_fits bytes slot h = take_fits _ _ (drop_fits (32 * slot) bytes h)

pub entry_user : (disk : Disk) (i : ℕ) → IsDisk disk → HasBytes disk → i ≤ (dpb_of disk.format).last_entry → (entry_at (entries_of disk) i).user < 256
unfolding entry_of
entry_user disk i is bytes h =
    rw (entry_is disk i h) (slot_fits (sector_at disk (record_index disk.format (i / 4))) (i % 4) (bytes.bytes_fit _) 0)

pub entry_fits : (disk : Disk) (i : ℕ) → IsDisk disk → HasBytes disk → i ≤ (dpb_of disk.format).last_entry → IsOfBytes (dpb_of disk.format) (entry_at (entries_of disk) i).extent
entry_fits disk i is bytes h =
    let size : length (sector_at disk (record_index disk.format (i / 4))) ≡ 128 = is.sizes _ (record_within disk.format _ (entry_record disk.format i h)) in
    let slot = slot_size (sector_at disk (record_index disk.format (i / 4))) (i % 4) size (omega arith) in
    rw (entry_is disk i h) (read_fits (dpb_of disk.format) _ (omega arith) (slot_fits (sector_at disk (record_index disk.format (i / 4))) (i % 4) (bytes.bytes_fit _)))

-- ---- a disk is as large as its volume says
space : (f : Format) → ((dpb_of f).last_block + 1) * ((dpb_of f).block_mask + 1) ≤ record_count f
unfolding dpb_of record_count tracks_of sectors_per_track
space Ibm3740 = omega arith
space Large = omega arith

pub disk_is_volume : (disk : Disk) (reserved : List Bool) → length reserved ≡ (dpb_of disk.format).last_block + 1 → IsVolume (dpb_of disk.format) (volume_of disk reserved)
unfolding volume_of
disk_is_volume disk reserved h = record {
  blocks = h;
  space = rw (are_listed disk).size (space disk.format);
  maps = λ i used.
      let within = in_use_within (entries_of disk) i used.used in
      let size = entries_length disk in
      rw (entry_is disk i (omega arith)) (entry_map (dpb_of disk.format) _);
}

-- ---- a sector that is written
sector_is_disk : (disk : Disk) (place : ℕ) (bytes : List ℕ) → IsDisk disk → length bytes ≡ 128 → IsDisk (with_sector disk place bytes)
sector_is_disk disk place bytes is size = record {
  count = length-set disk.sectors place bytes ∙ is.count;
  sizes = λ k below. elim (cases_eq k place) [
    | inl e ↦ rw (e, get_or-set_same disk.sectors place bytes [] (let c = is.count in omega arith)) size
    | inr n ↦ rw (get_or-set_other disk.sectors place k bytes [] n) (is.sizes k below)
  ];
}

sector_has_bytes : (disk : Disk) (place : ℕ) (bytes : List ℕ) → place < length disk.sectors → HasBytes disk → AllBytes bytes → HasBytes (with_sector disk place bytes)
sector_has_bytes disk place bytes within has fit = record {
  bytes_fit = λ other k. elim (cases_eq other place) [
    | inl e ↦ rw (e, get_or-set_same disk.sectors place bytes [] within) (fit k)
    | inr n ↦ rw (get_or-set_other disk.sectors place other bytes [] n) (has.bytes_fit other k)
  ];
}

slot_length : (bytes entry : List ℕ) (slot : ℕ) → length bytes ≡ 128 → slot < 4 → length entry ≡ 32 → length (record_with_entry bytes slot entry) ≡ 128
slot_length bytes entry slot size below count =
    rw (← slot_is bytes entry slot) (put_length bytes entry (32 * slot) 32 count (omega arith) ∙ size)

with_slot_fits : (bytes entry : List ℕ) (slot : ℕ) → AllBytes bytes → AllBytes entry → AllBytes (record_with_entry bytes slot entry)
unfolding record_with_entry
with_slot_fits bytes entry slot h g =
    append_fits (take (32 * slot) bytes) (entry ++ drop 32 (drop (32 * slot) bytes)) (take_fits (32 * slot) bytes h) (append_fits entry (drop 32 (drop (32 * slot) bytes)) g (drop_fits 32 (drop (32 * slot) bytes) (drop_fits (32 * slot) bytes h)))

-- ---- an entry that is written to a disk that holds a volume
module _ (disk : Disk) (v : Volume) (is : IsDisk disk) (bytes_are : HasBytes disk) (holds : Holds disk v) where
  module _ (i : ℕ) (e : Entry) (below : i ≤ (dpb_of disk.format).last_entry) (user : e.user < 256) (fit : IsOfBytes (dpb_of disk.format) e.extent) where
    place : ℕ
    place = record_index disk.format (i / 4)

    size : length (sector_at disk (record_index disk.format (i / 4))) ≡ 128
    size = is.sizes _ (record_within disk.format _ (entry_record disk.format i below))

    within : record_index disk.format (i / 4) < length disk.sectors
    within = rw is.count (record_within disk.format _ (entry_record disk.format i below))

    behind : (n : ℕ) → directory_records (dpb_of disk.format) ≤ n → n ≢ i / 4
    unfolding directory_records
    behind n h same = let whole = (each_format disk.format).whole_records in absurd (omega arith)

    entry_step : IsDiskOf disk.format (after_write (entry_put i e) disk) (logged (entry_put i e) v)
    unfolding after_write logged
    entry_step = record {
      format = refl;
      disk_is = sector_is_disk disk (record_index disk.format (i / 4)) _ is (slot_length (sector_at disk (record_index disk.format (i / 4))) (entry_bytes (dpb_of disk.format) e) (i % 4) size (omega arith) (entry_size (dpb_of disk.format) e));
      bytes = sector_has_bytes disk (record_index disk.format (i / 4)) _ within bytes_are (with_slot_fits (sector_at disk (record_index disk.format (i / 4))) (entry_bytes (dpb_of disk.format) e) (i % 4) (bytes_are.bytes_fit _) (bytes_fit (dpb_of disk.format) e user fit));
      holds = record {
        entries = put_in_directory disk i e is below fit.storable ∙ ap (λ es. set es i e) holds.entries;
        records = λ n h. put_keeps disk i _ is below n (behind n h) ∙ holds.records n h;
      };
    }

  -- ---- and a record
  module _ (n : ℕ) (bytes : List ℕ) (low : directory_records (dpb_of disk.format) ≤ n) (high : n < record_count disk.format) (are : AreBytes 128 bytes) where
    there : IsRecord disk.format n
    there = ((are_records disk.format).count n).1 high

    in_sectors : record_index disk.format n < length disk.sectors
    in_sectors = rw is.count (record_within disk.format n there)

    -- the volume has the record, since the disk has
    in_volume : n < length v.records
    in_volume =
        elim (cases_lt n (length v.records)) [
          | inl lt ↦ lt
          | inr ge ↦
              let none = sym ((are_listed disk).at n there) ∙ (holds.records n low ∙ get_or_past v.records n [] ge) in
              let size = is.sizes _ (record_within disk.format n there) in
              let empty : length (sector_at disk (record_index disk.format n)) ≡ 0 = ap (λ (xs : List ℕ). length xs) none in
              absurd (omega arith)
        ]

    in_records : n < length (records_of disk)
    in_records = rw (are_listed disk).size high

    same_records : (m : ℕ) → directory_records (dpb_of disk.format) ≤ m → get_or (set (records_of disk) n bytes) m [] ≡ get_or (set v.records n bytes) m []
    same_records m h =
        elim (cases_eq m n) [
          | inl e ↦ rw e (get_or-set_same (records_of disk) n bytes [] in_records ∙ sym (get_or-set_same v.records n bytes [] in_volume))
          | inr o ↦ get_or-set_other (records_of disk) n m bytes [] o ∙ (holds.records m h ∙ sym (get_or-set_other v.records n m bytes [] o))
        ]

    record_step : IsDiskOf disk.format (after_write (record_put n bytes) disk) (logged (record_put n bytes) v)
    unfolding after_write logged
    record_step = record {
      format = refl;
      disk_is = sector_is_disk disk (record_index disk.format n) bytes is are.count;
      bytes = sector_has_bytes disk (record_index disk.format n) bytes in_sectors bytes_are are.bytes_fit;
      holds = record {
        entries = outside disk n bytes is there low ∙ holds.entries;
        records = λ m h. ap (λ rs. get_or rs m []) ((are_listed disk).written n bytes is there) ∙ same_records m h;
      };
    }

-- ---- one write after the other
step : (disk : Disk) (v : Volume) (w : DiskWrite) → IsDisk disk → HasBytes disk → Holds disk v → Fits disk.format w → IsDiskOf disk.format (after_write w disk) (logged w v)
unfolding Fits
step disk v (entry_put i e) is bytes holds fit = entry_step disk v is bytes holds i e fit.0 fit.1 fit.2
step disk v (record_put n bs) is bytes holds fit = record_step disk v is bytes holds n bs fit.0 fit.1 fit.2

pub log_reaches : (f : Format) (disk : Disk) (v : Volume) (ws : List DiskWrite) → IsDiskOf f disk v → AllFit f ws → IsDiskOf f (after_writes ws disk) (logged_all ws v)
unfolding after_writes logged_all AllFit
log_reaches f disk v [] h fit = h
log_reaches f disk v (w ∷ ws) h fit =
    let s = step disk v w h.disk_is h.bytes h.holds (rw h.format fit.0) in
    log_reaches f (after_write w disk) (logged w v) ws (record { format = s.format ∙ h.format; disk_is = s.disk_is; bytes = s.bytes; holds = s.holds }) fit.1
