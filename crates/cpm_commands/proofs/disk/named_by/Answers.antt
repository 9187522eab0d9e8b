use Rattle.std.proofs.Common.{inr}
use Rattle.std.proofs.lemmas.Result.{err_from_is_err_and}
use Rattle.cpm_commands.proofs.disk.named_by.Goals as goal

pub returns-in_err-check_new-clause-refusal : goal.returns-in_err-check_new-clause-refusal
returns-in_err-check_new-clause-refusal c =
    let p = err_from_is_err_and c.from_residual-in_err-check_new.result c.from_residual-in_err-check_new.ensures.1 in
    rw p.1 (inr (
      c.split_word.result.0.now,
      c.split_word.result.1.now,
      c.in_ok-file.file,
      c.split_word.ensures,
      c.in_ok-file.ensures,
      (c.in_err-check_new.field-0.0, c.in_err-check_new.ensures, p.2),
    ))
