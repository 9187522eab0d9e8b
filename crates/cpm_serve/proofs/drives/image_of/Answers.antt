use Rattle.cpm_serve.proofs.ReadLemmas.{disk-file, no_disk-file}
use Rattle.cpm_serve.proofs.drives.image_of.Goals as goal

pub returns-in-Ok : goal.returns-in-Ok
returns-in-Ok c = let k = c.in-Ok.ensures in disk-file c.args.bytes.items c.in-Ok.image k.0 k.1 k.2

pub returns : goal.returns
returns c = no_disk-file c.args.bytes.items c.in-Err.ensures.0
