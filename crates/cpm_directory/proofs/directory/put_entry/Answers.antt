use Rattle.std.proofs.Common.{◌≡◌, ◌/◌, ◌%◌, [], get_or, ap, ◌∙◌}
use Rattle.cpm_geom.specs.Geometry.{dpb_of, record_index}
use Rattle.cpm_geom.specs.Disk.{records_of, sector_at, with_sector}
use Rattle.cpm_volume.specs.Files.{entry_at}
use Rattle.cpm_volume.specs.Encoding.{entry_bytes}
use Rattle.cpm_directory.specs.Directory.{entries_of, record_with_entry}
use Rattle.cpm_directory.proofs.DriveLemmas.{entry_record}
use Rattle.cpm_directory.proofs.SlotLemmas.{must_be_ok, slot_written, put_in_directory, put_leaves, put_keeps}
use Rattle.cpm_directory.proofs.directory.put_entry.Goals as goal

pub unwrap-requires : goal.unwrap-requires
unwrap-requires c = must_be_ok c.record.result _ _ _ c.record.ensures (entry_record c.args.image.now.format c.args.index c.requires)

pub returns : goal.returns
returns c =
    let written = rw c.unwrap-2.ensures at c.put_record.ensures in
    let found = rw c.unwrap.ensures at c.record.ensures in
    let d : c.dpb.result ≡ dpb_of c.args.image.now.format = cc in
    let old : c.copy_from_slice.new.self ≡ sector_at c.args.image.now (record_index c.args.image.now.format (c.args.index / 4)) = c.copy_from_slice.ensures.after ∙ found.1 in
    let new : c.copy_from_slice-2.new.self ≡ entry_bytes (dpb_of c.args.image.now.format) c.args.entry.now = c.copy_from_slice-2.ensures.after ∙ (c.to_bytes.ensures ∙ ap (λ p. entry_bytes p c.args.entry.now) d) in
    let slot = slot_written c.from-start.result (c.args.index % 4) _ _ _ _ c.from-start.ensures old new in
    let bytes : c.put_record.new.self ≡ with_sector c.args.image.now (record_index c.args.image.now.format (c.args.index / 4)) (record_with_entry (sector_at c.args.image.now (record_index c.args.image.now.format (c.args.index / 4))) (c.args.index % 4) (entry_bytes (dpb_of c.args.image.now.format) c.args.entry.now)) = written.1 ∙ ap (with_sector c.args.image.now (record_index c.args.image.now.format (c.args.index / 4))) slot in
    record {
      bytes = bytes;
      entry = λ storable. ap entries_of bytes ∙ put_in_directory c.args.image.now c.args.index c.args.entry.now c.format.ensures.whole c.requires storable;
      others = λ k other. ap (λ disk. entry_at (entries_of disk) k) bytes ∙ put_leaves c.args.image.now c.args.index c.args.entry.now c.format.ensures.whole c.requires k other;
      records = λ n other. ap (λ disk. get_or (records_of disk) n []) bytes ∙ put_keeps c.args.image.now c.args.index _ c.format.ensures.whole c.requires n other;
    }
