use Rattle.std.proofs.Common.{ap, refl, ◌∙◌}
use Rattle.std.proofs.lemmas.Result.{err_from_is_err_and}
use Rattle.std.proofs.lemmas.Bool.{ne_eqb}
use Rattle.cpm_drive.specs.Drive.{CallResult}
use Rattle.cpm_drives.specs.Files.{write_random_on, by_record}
use Rattle.cpm_drives.proofs.CallLemmas.{written, within}
use Rattle.cpm_drives.proofs.own.write_random.Goals as goal

pub returns-in_err-may_write_file : goal.returns-in_err-may_write_file
unfolding write_random_on
returns-in_err-may_write_file c =
    let p = err_from_is_err_and c.from_residual.result c.from_residual.ensures.1 in
    rw (p.1, p.2) (c.in_err-may_write_file.ensures c.args.buffer.now _)

pub returns-then-fcb-ne0 : goal.returns-then-fcb-ne0
unfolding write_random_on
returns-then-fcb-ne0 c =
    rw (c.in_ok-may_write_file.ensures.0, c.in_ok-may_write_file.ensures.1, ne_eqb _ _ c.if-fcb-ne0.true) refl

pub returns : goal.returns
unfolding write_random_on
returns c =
    rw (← c.random_number.ensures, c.code_of.ensures) (ap (λ (o : CallResult). by_record o) c.write_random.ensures ∙ (within c.args.drive.now c.args.fcb.now c.args.buffer.now _ c.if-fcb-ne0.false ∙ written c.args.drive.now c.args.fcb.now c.args.buffer.now _ c.in_ok-may_write_file.ensures))
