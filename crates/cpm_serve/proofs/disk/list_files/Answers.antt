use Rattle.cpm_serve.specs.Owned.{owned_answer}
use Rattle.cpm_serve.specs.Reading.{text_work}
use Rattle.cpm_serve.proofs.DiskLemmas.{list-done, list-unread}
use Rattle.cpm_serve.proofs.disk.list_files.Goals as goal

pub returns-in-Err : goal.returns-in-Err
returns-in-Err g c = λ h.
    list-unread g.F.Folder.does h c.args.drive.now c.in-Err.refusal (owned_answer c.refused.result) c.args.folder.now c.image_in.new.folder c.in-Err.ensures c.refused.ensures

pub returns-in-Ok : goal.returns-in-Ok
returns-in-Ok g c = λ h.
    list-done g.F.Folder.does h c.args.drive.now c.in-Ok.image (text_work c.names_on.result) (owned_answer c.given.result) c.args.folder.now c.image_in.new.folder c.in-Ok.ensures c.names_on.ensures c.given.ensures
