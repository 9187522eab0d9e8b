use Rattle.std.proofs.Common.{get_or, ap, ◌∙◌}
use Rattle.cpm_geom.specs.Geometry.{dpb_of}
use Rattle.cpm_image_files.proofs.GettingLemmas.{block_counted, block_past}
use Rattle.cpm_image_files.proofs.records.block_of.Goals as goal

pub returns-then-number-records_in_extent : goal.returns-then-number-records_in_extent
returns-then-number-records_in_extent c =
    ap (λ k. get_or c.args.entry.now.extent.blocks k 0) c.map_place.ensures.place ∙ block_counted (dpb_of c.args.format) c.args.entry.now c.args.number c.records_in_extent.result c.records_in_extent.ensures c.if-number-records_in_extent.true

pub returns-else-number-records_in_extent : goal.returns-else-number-records_in_extent
returns-else-number-records_in_extent c =
    block_past (dpb_of c.args.format) c.args.entry.now c.args.number c.records_in_extent.result c.records_in_extent.ensures c.if-number-records_in_extent.false
