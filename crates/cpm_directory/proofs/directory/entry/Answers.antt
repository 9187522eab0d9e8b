use Rattle.std.proofs.Common.{◌≡◌, ◌%◌, ◌/◌, refl, sym, ap, ◌∙◌}
use Rattle.cpm_geom.specs.Geometry.{dpb_of, record_index}
use Rattle.cpm_geom.specs.Disk.{sector_at}
use Rattle.cpm_geom.specs.declared.dpb.Dpb.{Dpb}
use Rattle.cpm_volume.specs.Encoding.{entry_of}
use Rattle.cpm_directory.specs.Directory.{slot_bytes}
use Rattle.cpm_directory.proofs.DriveLemmas.{entry_record, entry_is}
use Rattle.cpm_directory.proofs.SlotLemmas.{must_be_ok}
use Rattle.cpm_directory.proofs.directory.entry.Goals as goal

pub unwrap-record-requires : goal.unwrap-record-requires
unwrap-record-requires c = must_be_ok c.record.result _ _ _ c.record.ensures (entry_record c.args.image.now.format c.args.index c.requires)

pub returns : goal.returns
unfolding slot_bytes
returns c =
    let is = entry_is c.args.image.now c.args.index c.requires in
    let found = rw c.unwrap-record.ensures at c.record.ensures in
    let bytes : c.copy_from_slice.new.self ≡ slot_bytes (sector_at c.args.image.now (record_index c.args.image.now.format (c.args.index / 4))) (c.args.index % 4) = rw (c.copy_from_slice.ensures.after, found.1, c.from-start.ensures) refl in
    let d : c.dpb.result ≡ dpb_of c.args.image.now.format = cc in
    record { value = c.from_bytes.ensures ∙ (ap (λ (p : Dpb). entry_of p c.copy_from_slice.new.self) d ∙ (ap (entry_of (dpb_of c.args.image.now.format)) bytes ∙ sym is)) }
