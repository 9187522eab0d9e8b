use Rattle.std.proofs.Common.{sym}
use Rattle.cpm_serve.specs.Owned.{owned_answer}
use Rattle.cpm_serve.specs.Reading.{text_work}
use Rattle.cpm_serve.proofs.DiskLemmas.{get-done, get-unnamed, get-unread}
use Rattle.cpm_serve.proofs.disk.get_file.Goals as goal

pub returns-in_default : goal.returns-in_default
returns-in_default g c = λ h.
    get-unnamed g.F.Folder.does h c.args.drive.now c.args.name.now (owned_answer c.refused.result) c.args.folder.now (sym c.in_default.ensures.name) c.refused.ensures

pub returns-in-Err : goal.returns-in-Err
returns-in-Err g c = λ h.
    get-unread g.F.Folder.does h c.args.drive.now c.args.name.now c.in-Some.file.name c.in-Err.refusal (owned_answer c.refused-in-Err.result) c.args.folder.now c.image_in.new.folder
    (sym c.in-Some.ensures.name) c.in-Err.ensures c.refused-in-Err.ensures

pub returns-in-Ok : goal.returns-in-Ok
returns-in-Ok g c = λ h.
    get-done g.F.Folder.does h c.args.drive.now c.args.name.now c.in-Some.file.name c.in-Ok.image (text_work c.bytes_on.result) (owned_answer c.given.result) c.args.folder.now c.image_in.new.folder
    (sym c.in-Some.ensures.name) c.in-Ok.ensures c.bytes_on.ensures c.given.ensures
