use Rattle.std.proofs.Common.{◌≡◌, refl, ap, ◌∙◌}
use Rattle.cpm_geom.specs.Geometry.{dpb_of}
use Rattle.cpm_geom.specs.Disk.{records_of}
use Rattle.cpm_geom.specs.declared.format.Format.{Format}
use Rattle.cpm_volume.specs.Files.{entry_block}
use Rattle.cpm_image_files.specs.Reach.{IsOnDrive}
use Rattle.cpm_image_files.proofs.GettingLemmas.{on_drive, taken_none}
use Rattle.cpm_image_files.proofs.records.record_by.Goals as goal

pub record_in-requires : goal.record_in-requires
record_in-requires c =
    let within : IsOnDrive (dpb_of c.args.image.now.format) c.in-Some.entry = rw c.in-Some.is at c.requires in
    let block : c.block_of.result ≡ entry_block (dpb_of c.args.image.now.format) c.in-Some.entry c.args.number = c.block_of.ensures ∙ ap (λ (f : Format). entry_block (dpb_of f) c.in-Some.entry c.args.number) c.format.ensures.format in
    rw block (on_drive (dpb_of c.args.image.now.format) c.in-Some.entry c.args.number within)

pub returns-in-None-clause-value : goal.returns-in-None-clause-value
returns-in-None-clause-value c = rw c.in-None.is (taken_none (dpb_of c.args.image.now.format) (records_of c.args.image.now) 0 c.args.number refl)
