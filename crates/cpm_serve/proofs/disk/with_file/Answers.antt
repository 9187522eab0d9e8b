use Rattle.cpm_serve.proofs.DiskLemmas.{put-made, put-not}
use Rattle.cpm_serve.proofs.disk.with_file.Goals as goal

pub returns-in-Ok : goal.returns-in-Ok
returns-in-Ok c =
    put-made c.args.image.now c.in-Ok.new c.args.file.now.user c.args.file.now.name c.args.text.now c.into_bytes.result.items c.requires c.in-Ok.ensures c.into_bytes.ensures

pub returns-in-Err : goal.returns-in-Err
returns-in-Err c =
    put-not c.args.image.now c.args.file.now.user c.args.file.now.name c.args.text.now c.in-Err.error c.disk_refusal.result c.requires c.in-Err.ensures c.disk_refusal.ensures
