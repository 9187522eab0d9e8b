use Rattle.cpm_serve.proofs.DiskLemmas.{list-lacked, list-made, list-not}
use Rattle.cpm_serve.proofs.disk.names_on.Goals as goal

pub returns-in-Err : goal.returns-in-Err
returns-in-Err c = list-not c.args.image.now c.in-Err.error c.disk_refusal.result c.in-Err.ensures c.disk_refusal.ensures

pub returns-in-Ok-name_lines : goal.returns-in-Ok-name_lines
returns-in-Ok-name_lines c = list-made c.args.image.now c.in-Ok.listing c.in-Ok-name_lines.text.items c.in-Ok.ensures (rw c.deref.ensures.value at c.in-Ok-name_lines.ensures)

pub returns : goal.returns
returns c = list-lacked c.args.image.now c.in-Ok.listing c.in-Ok.ensures
