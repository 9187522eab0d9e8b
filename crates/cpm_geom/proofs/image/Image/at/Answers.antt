use Rattle.std.proofs.Common.{◌≡◌, arith, sym, ap, get_or, [], ◌∙◌}
use Rattle.cpm_geom.specs.Disk.{Disk}
use Rattle.cpm_geom.specs.Geometry.{sector_count}
use Rattle.cpm_geom.proofs.SectorLemmas.{sector_is}
use Rattle.cpm_geom.proofs.GeometryLemmas.{format_size, sector_count_small}
use Rattle.cpm_geom.proofs.image.Image.at.Goals as goal

pub overflow_mul-start : goal.overflow_mul-start
overflow_mul-start c = omega (arith, sector_count_small c.args.self.now.format)

pub overflow_add-result : goal.overflow_add-result
overflow_add-result c = omega (arith, sector_count_small c.args.self.now.format)

pub slice_bounds-result-end : goal.slice_bounds-result-end
slice_bounds-result-end c =
    let size = format_size c.self.inside.format _ c.self.invariant in
    let same : sector_count c.self.inside.format ≡ sector_count c.args.self.now.format = ap (λ (d : Disk). sector_count d.format) c.self.view_is in
    omega (arith, c.deref.ensures.len)

pub returns-clause-bytes : goal.returns-clause-bytes
returns-clause-bytes c =
    let size = format_size c.self.inside.format _ c.self.invariant in
    let same : sector_count c.self.inside.format ≡ sector_count c.args.self.now.format = ap (λ (d : Disk). sector_count d.format) c.self.view_is in
    rw c.deref.ensures.value (sym (sector_is c.self.inside.bytes.items c.args.place [] (omega arith)) ∙ ap (λ (d : Disk). get_or d.sectors c.args.place []) c.self.view_is)
