use Rattle.std.proofs.Common.{ap, refl, ◌∙◌}
use Rattle.std.proofs.lemmas.Result.{err_from_is_err_and}
use Rattle.cpm_drives.specs.Files.{make_file_on, by_make}
use Rattle.cpm_drives.proofs.CallLemmas.{allowed}
use Rattle.cpm_drive.specs.Calls.{MadeFile}
use Rattle.cpm_drives.proofs.own.make_file.Goals as goal

pub returns-in_err-may_write : goal.returns-in_err-may_write
unfolding make_file_on
returns-in_err-may_write c =
    let p = err_from_is_err_and c.from_residual.result c.from_residual.ensures.1 in
    λ buffer. rw (p.1, p.2, c.in_err-may_write.ensures.0, c.in_err-may_write.ensures.1) refl

pub returns : goal.returns
unfolding make_file_on
returns c =
    λ buffer. rw c.code_or_none.ensures (ap (λ (o : MadeFile). by_make buffer o) c.make_file.ensures ∙ allowed c.args.drive.now c.args.fcb.now buffer _ c.in_ok-may_write.ensures)
