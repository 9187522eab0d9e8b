use Rattle.std.proofs.lemmas.Result.{IfErr-weaker, err_from_is_err_and}
use Rattle.cpm_commands.specs.Disk.IsChangeRefused.{Unchanged, Unwritten}
use Rattle.cpm_commands.proofs.disk.put_files.Goals as goal

pub returns-in_err-image-2-clause-refusal : goal.returns-in_err-image-2-clause-refusal
returns-in_err-image-2-clause-refusal g c =
    let p = err_from_is_err_and c.from_residual-in_err-image-2.result c.from_residual-in_err-image-2.ensures.1 in
    rw (p.1, p.2) (Unchanged c.in_ok-image.image c.open_image.new.files c.in_ok-image.ensures.opened c.in_err-image-2.ensures.refusal)

pub returns-clause-refusal : goal.returns-clause-refusal
returns-clause-refusal g c =
    IfErr-weaker c.write_image.result _ _
    (λ e h. Unwritten c.in_ok-image.image c.in_ok-image-2.image c.open_image.new.files c.put_words.new.files c.in_ok-image.ensures.opened c.in_ok-image-2.ensures.put h)
    c.write_image.ensures.refusal
