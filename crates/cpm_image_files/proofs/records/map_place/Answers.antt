use Rattle.std.proofs.Common.{◌≡◌, refl, ap, ◌∙◌}
use Rattle.cpm_geom.specs.declared.dpb.Dpb.{Dpb}
use Rattle.cpm_geom.specs.Geometry.{dpb_of}
use Rattle.cpm_volume.specs.Files.{map_place}
use Rattle.cpm_volume.proofs.Formats.{each_format}
use Rattle.cpm_volume.proofs.Records.{place_below}
use Rattle.cpm_image_files.proofs.records.map_place.Goals as goal

pub returns-clause-place : goal.returns-clause-place
unfolding map_place
returns-clause-place c =
    let b : c.from-block_size.result ≡ (dpb_of c.args.format).block_mask = c.from-block_size.ensures ∙ ap (λ (p : Dpb). p.block_mask) c.dpb-dpb.ensures in
    let m : c.from.result ≡ (dpb_of c.args.format).extent_mask = c.from.ensures ∙ ap (λ (p : Dpb). p.extent_mask) c.dpb-dpb.ensures in
    rw (b, m) refl

pub returns-clause-within : goal.returns-clause-within
unfolding map_place
returns-clause-within c =
    let b : c.from-block_size.result ≡ (dpb_of c.args.format).block_mask = c.from-block_size.ensures ∙ ap (λ (p : Dpb). p.block_mask) c.dpb-dpb.ensures in
    let m : c.from.result ≡ (dpb_of c.args.format).extent_mask = c.from.ensures ∙ ap (λ (p : Dpb). p.extent_mask) c.dpb-dpb.ensures in
    rw (b, m) (place_below (dpb_of c.args.format) c.args.number (each_format c.args.format))
