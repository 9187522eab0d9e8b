use Rattle.std.proofs.Common.{◌≡◌, ◌≢◌, ◌+◌, ◌*◌, ◌%◌, ap, ◌∙◌}
use Rattle.cpm_geom.specs.declared.format.Format.{Format}
use Rattle.cpm_geom.specs.Geometry.{dpb_of}
use Rattle.cpm_image_files.proofs.GettingLemmas.{same_entry}
use Rattle.cpm_image_files.proofs.records.next_entry.Goals as goal

pub returns-else-number-records_in_entry-eq0 : goal.returns-else-number-records_in_entry-eq0
returns-else-number-records_in_entry-eq0 c =
    let size : c.records_in_entry.result ≡ 128 * ((dpb_of c.args.image.now.format).extent_mask + 1) = c.records_in_entry.ensures.value ∙ ap (λ (f : Format). 128 * ((dpb_of f).extent_mask + 1)) c.format.ensures.format in
    let some : c.args.number % (128 * ((dpb_of c.args.image.now.format).extent_mask + 1)) ≢ 0 = λ z. c.if-number-records_in_entry-eq0.false (ap (λ n. c.args.number % n) size ∙ z) in
    same_entry c.args.image.now c.args.user c.args.name.now c.args.number c.args.before some c.requires
