use Rattle.std.proofs.Common.{◌≡◌, ap, ◌∙◌, sym, get_or, []}
use Rattle.cpm_geom.specs.Geometry.{dpb_of}
use Rattle.cpm_geom.specs.declared.format.Format.{Format}
use Rattle.cpm_geom.specs.Disk.{records_of}
use Rattle.cpm_geom.proofs.RecordLemmas.{are_listed}
use Rattle.cpm_volume.specs.Files.{drive_record}
use Rattle.cpm_image_files.proofs.GettingLemmas.{taken_some, taken_none}
use Rattle.cpm_image_files.proofs.records.record_in.Goals as goal

pub returns-then-block-eq0 : goal.returns-then-block-eq0
returns-then-block-eq0 c = taken_none (dpb_of c.args.image.now.format) (records_of c.args.image.now) c.args.block c.args.number c.if-block-eq0.true

pub returns : goal.returns
returns c =
    let found = rw c.unwrap.ensures at c.record.ensures in
    let place : c.drive_record-place.result ≡ drive_record (dpb_of c.args.image.now.format) c.args.block c.args.number = c.drive_record-place.ensures.value ∙ ap (λ (f : Format). drive_record (dpb_of f) c.args.block c.args.number) c.format.ensures.format in
    c.copy_from_slice.ensures.after ∙ (found.1 ∙ (sym ((are_listed c.args.image.now).at c.drive_record-place.result found.0) ∙ (ap (λ k. get_or (records_of c.args.image.now) k []) place ∙ taken_some (dpb_of c.args.image.now.format) (records_of c.args.image.now) c.args.block c.args.number c.if-block-eq0.false)))
