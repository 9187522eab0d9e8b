-- A blank disk has no entry in use, so none with a fault.
use Rattle.std.proofs.Common.{◌≡◌, ◌∙◌, ℕ, ◌+◌, ◌*◌, ◌/◌, ◌%◌, ◌<◌, ◌≤◌, List, [], get_or, replicate, refl, ap, subst, inl, inr, arith}
use Rattle.std.specs.List.{between}
use Rattle.std.proofs.lemmas.Bool.{cases_lt}
use Rattle.std.proofs.lemmas.List.{get_or_past, get_or-replicate, length-replicate}
use Rattle.std.proofs.lemmas.List.Edits.{get_or-between}
use Rattle.cpm_geom.specs.Disk.{blank_disk, sector_at}
use Rattle.cpm_geom.specs.Geometry.{dpb_of, record_index, sector_count}
use Rattle.cpm_geom.specs.declared.format.Format.{Format}
use Rattle.cpm_geom.proofs.GeometryLemmas.{record_within}
use Rattle.cpm_geom.proofs.SectorLemmas.{sector_is}
use Rattle.cpm_volume.specs.declared.extent.Entry.{Entry}
use Rattle.cpm_volume.specs.Encoding.{entry_of}
use Rattle.cpm_volume.specs.Files.{deleted, entry_at, no_entry}
use Rattle.cpm_directory.specs.Directory.{slot_bytes, entries_of}
use Rattle.cpm_directory.specs.WellFormed.{fault_of}
use Rattle.cpm_directory.proofs.DriveLemmas.{entries_length, entry_is, entry_record}
use Rattle.cpm_image_files.specs.ImageFiles.{IsSoundDisk}

blank_sector : (f : Format) (place : ℕ) → place < sector_count f
    → sector_at (blank_disk f) place ≡ between (place * 128) (place * 128 + 128) (replicate (sector_count f * 128) 0xE5)
unfolding blank_disk
blank_sector f place h =
    sector_is (replicate (sector_count f * 128) 0xE5) place [] (omega (arith, length-replicate {A = ℕ} (sector_count f * 128) 0xE5))

blank_format : (f : Format) → (blank_disk f).format ≡ f
unfolding blank_disk
blank_format f = refl

blank_user : (f : Format) (i : ℕ) → i ≤ (dpb_of (blank_disk f).format).last_entry → (entry_at (entries_of (blank_disk f)) i).user ≡ deleted
unfolding entry_of slot_bytes
blank_user f i h =
    let g = (blank_disk f).format in
    let place = record_index g (i / 4) in
    let all : List ℕ = replicate (sector_count f * 128) 0xE5 in
    let within : place < sector_count f = subst (λ (k : Format). place < sector_count k) (blank_format f) (record_within g (i / 4) (entry_record g i h)) in
    let slot = i % 4 in
    ap (λ (e : Entry). e.user) (entry_is (blank_disk f) i h)
    ∙ ap (λ bytes. get_or (between (32 * slot) (32 * slot + 32) bytes) 0 0) (blank_sector f place within)
    ∙ get_or-between (between (place * 128) (place * 128 + 128) all) (32 * slot) (32 * slot + 32) 0 0 (omega arith)
    ∙ get_or-between all (place * 128) (place * 128 + 128) (32 * slot + 0) 0 (omega arith)
    ∙ get_or-replicate (sector_count f * 128) (place * 128 + (32 * slot + 0)) 0xE5 0 (omega (arith, within))

unused : (f : Format) (i : ℕ) → (entry_at (entries_of (blank_disk f)) i).user ≡ deleted
unfolding entry_at no_entry
unused f i =
    elim (cases_lt (dpb_of (blank_disk f).format).last_entry i) [
      | inl past ↦ ap (λ (e : Entry). e.user) (get_or_past (entries_of (blank_disk f)) i no_entry (omega (arith, entries_length (blank_disk f))))
      | inr within ↦ blank_user f i (omega arith)
    ]

pub blank_sound : (f : Format) → IsSoundDisk (blank_disk f)
unfolding fault_of
blank_sound f i = rw (unused f i) refl
