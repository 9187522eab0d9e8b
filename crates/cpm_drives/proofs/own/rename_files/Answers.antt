use Rattle.std.proofs.Common.{refl, ◌∙◌}
use Rattle.std.proofs.lemmas.Result.{err_from_is_err_and}
use Rattle.cpm_drives.specs.Files.{rename_files_on}
use Rattle.cpm_drives.proofs.CallLemmas.{named_call, allowed}
use Rattle.cpm_drives.proofs.own.rename_files.Goals as goal

pub returns-in_err-may_write : goal.returns-in_err-may_write
unfolding rename_files_on
returns-in_err-may_write c =
    let p = err_from_is_err_and c.from_residual.result c.from_residual.ensures.1 in
    λ buffer. rw (p.1, p.2, c.in_err-may_write.ensures.0, c.in_err-may_write.ensures.1) refl

pub returns : goal.returns
unfolding rename_files_on
returns c =
    λ buffer. rw c.code_or_fault.ensures (named_call c.args.drive.now c.rename_files.new.self c.args.fcb.now buffer _ c.rename_files.result c.rename_files.ensures ∙ allowed c.args.drive.now c.args.fcb.now buffer _ c.in_ok-may_write.ensures)
