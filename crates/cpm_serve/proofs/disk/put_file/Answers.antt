use Rattle.std.proofs.Common.{◌∙◌, ℕ, List, ap, length, sym, subst}
use Rattle.std.specs.Prelude.{chars}
use Rattle.cpm_protocol.specs.Requests.{Put}
use Rattle.cpm_serve.specs.DriveFiles.{stored_answer}
use Rattle.cpm_serve.specs.Folder.{AccessesLead, write_answer}
use Rattle.cpm_serve.specs.Owned.{owned_answer}
use Rattle.cpm_serve.specs.ServedWith.{IsRequestServedWith}
use Rattle.cpm_serve.proofs.DiskLemmas.{put-done, put-lacked, put-refused, put-unnamed, put-unread}
use Rattle.cpm_serve.proofs.disk.put_file.Goals as goal

pub returns-in_default : goal.returns-in_default
returns-in_default g c = λ h.
    put-unnamed g.F.Folder.does h c.args.drive.now c.args.name.now (chars c.args.text.now) (owned_answer c.refused.result) c.args.folder.now (sym c.in_default.ensures.name) c.refused.ensures

pub returns-in_default-bytes_of : goal.returns-in_default-bytes_of
returns-in_default-bytes_of g c = λ h.
    put-lacked g.F.Folder.does h c.args.drive.now c.args.name.now (chars c.args.text.now) c.in-Some.file.name (owned_answer c.refused-in_default-bytes_of.result) c.args.folder.now
    (sym c.in-Some.ensures.name) c.refused-in_default-bytes_of.ensures

pub returns-in-Err : goal.returns-in-Err
returns-in-Err g c = λ h.
    put-unread g.F.Folder.does h c.args.drive.now c.args.name.now (chars c.args.text.now) c.in-Some.file.name c.in-Err.refusal (owned_answer c.let_go.result) c.args.folder.now c.held_image.new.folder
    c.let_go.new.folder (sym c.in-Some.ensures.name) c.in-Err.ensures c.let_go.ensures.did c.let_go.ensures.reply

pub returns : goal.returns
returns g c = λ h.
    subst (λ (t : List ℕ). IsRequestServedWith (AccessesLead g.F.Folder.does c.args.folder.now c.let_go-in-Err-with_file.new.folder) (Put c.args.drive.now c.args.name.now t) h h (owned_answer c.let_go-in-Err-with_file.result))
    (c.in-Ok.ensures.all c.requires)
    (put-refused g.F.Folder.does h c.args.drive.now c.args.name.now c.in-Ok.text.items c.in-Some.file.name c.in-Ok-held_image.image c.in-Err-with_file.refusal (owned_answer c.let_go-in-Err-with_file.result)
    c.args.folder.now c.held_image.new.folder c.let_go-in-Err-with_file.new.folder (sym c.in-Some.ensures.name) c.in-Ok-held_image.ensures (rw c.deref.ensures.value at c.in-Err-with_file.ensures)
    c.let_go-in-Err-with_file.ensures.did c.let_go-in-Err-with_file.ensures.reply)

pub returns-in-Ok-with_file : goal.returns-in-Ok-with_file
returns-in-Ok-with_file g c = λ h.
    subst (λ (t : List ℕ). IsRequestServedWith (AccessesLead g.F.Folder.does c.args.folder.now c.write_file.new.folder) (Put c.args.drive.now c.args.name.now t) h h (owned_answer c.stored.result))
    (c.in-Ok.ensures.all c.requires)
    (put-done g.F.Folder.does h c.args.drive.now c.args.name.now c.in-Ok.text.items c.in-Some.file.name c.in-Ok-held_image.image c.in-Ok-with_file.bytes.items (write_answer c.write_file.result) (owned_answer c.stored.result)
    c.args.folder.now c.held_image.new.folder c.write_file.new.folder (sym c.in-Some.ensures.name) c.in-Ok-held_image.ensures (rw c.deref.ensures.value at c.in-Ok-with_file.ensures) c.write_file.ensures
    (c.stored.ensures ∙ ap (λ (bs : List ℕ). stored_answer (length bs) (write_answer c.write_file.result)) c.as_slice.ensures.value))
