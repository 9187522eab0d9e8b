use Rattle.std.proofs.Common.{ap, ◌∙◌}
use Rattle.std.proofs.lemmas.Result.{err_from_is_err_and}
use Rattle.cpm_drive.specs.Drive.{CallResult}
use Rattle.cpm_drives.specs.Files.{write_next_on, by_record}
use Rattle.cpm_drives.proofs.CallLemmas.{written}
use Rattle.cpm_drives.proofs.own.write_next.Goals as goal

pub returns-in_err-may_write_file : goal.returns-in_err-may_write_file
unfolding write_next_on
returns-in_err-may_write_file c =
    let p = err_from_is_err_and c.from_residual.result c.from_residual.ensures.1 in
    rw (p.1, p.2) (c.in_err-may_write_file.ensures c.args.buffer.now _)

pub returns : goal.returns
unfolding write_next_on
returns c =
    rw c.code_of.ensures (ap (λ (o : CallResult). by_record o) c.write_next.ensures ∙ written c.args.drive.now c.args.fcb.now c.args.buffer.now _ c.in_ok-may_write_file.ensures)
