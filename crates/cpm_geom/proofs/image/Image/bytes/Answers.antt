use Rattle.std.proofs.Common.{sym, ap, ◌∙◌}
use Rattle.std.specs.List.{concat}
use Rattle.cpm_geom.specs.Disk.{Disk}
use Rattle.cpm_geom.proofs.SectorLemmas.{is_disk, joined_sectors}
use Rattle.cpm_geom.proofs.GeometryLemmas.{format_size}
use Rattle.cpm_geom.proofs.image.Image.bytes.Goals as goal

pub returns-clause-value : goal.returns-clause-value
returns-clause-value c =
    rw c.deref.ensures.value (sym (joined_sectors c.self.inside.bytes.items _ (format_size c.self.inside.format _ c.self.invariant)) ∙ ap (λ (d : Disk). concat d.sectors) c.self.view_is)

pub returns-clause-whole : goal.returns-clause-whole
returns-clause-whole c = rw (← c.self.view_is) (is_disk c.self.inside.format c.self.inside.bytes.items c.self.invariant)
