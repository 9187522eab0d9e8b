use Rattle.std.proofs.Common.{◌≡◌, ap, ◌∙◌}
use Rattle.cpm_geom.specs.declared.dpb.Dpb.{Dpb}
use Rattle.cpm_geom.specs.Geometry.{dpb_of}
use Rattle.cpm_drive.proofs.ReadLemmas.{place_small}
use Rattle.cpm_drive.proofs.writing.entry_place_of.Goals as goal

pub returns-clause-within : goal.returns-clause-within
returns-clause-within c =
    let m : c.from-block_size.result ≡ (dpb_of c.args.format).block_mask = c.from-block_size.ensures ∙ ap (λ (p : Dpb). p.block_mask) c.dpb-dpb.ensures in
    let e : c.from-2.result ≡ (dpb_of c.args.format).extent_mask = c.from-2.ensures ∙ ap (λ (p : Dpb). p.extent_mask) c.dpb-dpb.ensures in
    rw (m, e, c.from-3.ensures) (place_small c.args.format c.from.result c.args.current c.requires)
