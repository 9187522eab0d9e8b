use Rattle.cpm_volume.proofs.Formats.{each_format}
use Rattle.cpm_volume.proofs.laws.formats_serve_files.Goals as goal

pub returns : goal.returns
returns c = each_format
