use Rattle.std.proofs.Common.{◌≡◌, ap, ◌∙◌}
use Rattle.cpm_geom.specs.declared.dpb.Dpb.{Dpb}
use Rattle.cpm_geom.specs.Geometry.{dpb_of}
use Rattle.cpm_image_files.proofs.GettingLemmas.{entry_records}
use Rattle.cpm_image_files.proofs.records.records_in_entry.Goals as goal

pub returns-clause-small : goal.returns-clause-small
returns-clause-small c =
    let m : c.from.result ≡ (dpb_of c.args.format).extent_mask = c.from.ensures ∙ ap (λ (p : Dpb). p.extent_mask) c.dpb.ensures in
    rw m (entry_records c.args.format)
