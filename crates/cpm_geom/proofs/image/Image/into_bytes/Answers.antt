use Rattle.std.proofs.Common.{sym, ap, ◌∙◌}
use Rattle.std.specs.List.{concat}
use Rattle.cpm_geom.specs.Disk.{Disk}
use Rattle.cpm_geom.proofs.SectorLemmas.{joined_sectors}
use Rattle.cpm_geom.proofs.GeometryLemmas.{format_size}
use Rattle.cpm_geom.proofs.image.Image.into_bytes.Goals as goal

pub returns : goal.returns
returns c =
    sym (joined_sectors c.self.inside.bytes.items _ (format_size c.self.inside.format _ c.self.invariant)) ∙ ap (λ (d : Disk). concat d.sectors) c.self.view_is
