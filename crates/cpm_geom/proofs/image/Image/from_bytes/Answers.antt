use Rattle.std.proofs.Common.{◌≡◌, Some, length}
use Rattle.cpm_geom.specs.Geometry.{format_of_length}
use Rattle.cpm_geom.proofs.SectorLemmas.{is_disk, joined_sectors}
use Rattle.cpm_geom.proofs.GeometryLemmas.{format_size}
use Rattle.cpm_geom.proofs.image.Image.from_bytes.Goals as goal

pub returns-in-Some : goal.returns-in-Some
returns-in-Some c =
    let h : format_of_length (length c.args.bytes.items) ≡ Some c.in-Some.format = cc in
    (h, joined_sectors c.args.bytes.items _ (format_size c.in-Some.format _ h), is_disk c.in-Some.format c.args.bytes.items h)
