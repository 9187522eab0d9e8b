use Rattle.cpm_serve.proofs.DiskLemmas.{get-made, get-not}
use Rattle.cpm_serve.proofs.disk.bytes_on.Goals as goal

pub returns-in-Ok : goal.returns-in-Ok
returns-in-Ok c = get-made c.args.image.now c.args.file.now.user c.args.file.now.name c.in-Ok.bytes.items c.requires c.in-Ok.ensures

pub returns-in-Err : goal.returns-in-Err
returns-in-Err c = get-not c.args.image.now c.args.file.now.user c.args.file.now.name c.in-Err.error c.disk_refusal.result c.requires c.in-Err.ensures c.disk_refusal.ensures
