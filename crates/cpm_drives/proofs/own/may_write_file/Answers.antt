use Rattle.std.proofs.Common.{refl}
use Rattle.std.proofs.lemmas.Result.{err_from_is_err_and}
use Rattle.cpm_drives.proofs.own.may_write_file.Goals as goal

pub returns-in_err-may_write : goal.returns-in_err-may_write
returns-in_err-may_write c =
    let p = err_from_is_err_and c.from_residual.result c.from_residual.ensures.1 in
    rw p.1 (λ buffer call. rw (p.2, c.in_err-may_write.ensures.0, c.in_err-may_write.ensures.1) refl)

pub returns-then-is_read_only : goal.returns-then-is_read_only
returns-then-is_read_only c =
    λ buffer call. rw (c.in_ok-may_write.ensures, ← c.is_read_only.ensures, c.if-is_read_only.true) refl
