use Rattle.std.proofs.Common.{Ok, refl, ◌∙◌}
use Rattle.std.proofs.lemmas.Result.{err_from_is_err_and}
use Rattle.cpm_drives.specs.Files.{set_attributes_on}
use Rattle.cpm_drives.proofs.CallLemmas.{named_call, allowed}
use Rattle.cpm_drives.proofs.own.set_attributes.Goals as goal

pub returns-in_err-may_write : goal.returns-in_err-may_write
unfolding set_attributes_on
returns-in_err-may_write c =
    let p = err_from_is_err_and c.from_residual.result c.from_residual.ensures.1 in
    λ buffer. rw (p.1, p.2, c.in_err-may_write.ensures.0, c.in_err-may_write.ensures.1) refl

pub returns : goal.returns
unfolding set_attributes_on
returns c =
    λ buffer. rw c.code_or_none.ensures (named_call c.args.drive.now c.set_attributes.new.self c.args.fcb.now buffer _ (Ok c.set_attributes.result) c.set_attributes.ensures ∙ allowed c.args.drive.now c.args.fcb.now buffer _ c.in_ok-may_write.ensures)
