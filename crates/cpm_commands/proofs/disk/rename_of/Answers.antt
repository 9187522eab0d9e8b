use Rattle.std.proofs.Common.{List, false, inl, inr, subst, ℕ}
use Rattle.std.proofs.lemmas.Result.{err_from_is_err_and}
use Rattle.cpm_disk_commands.specs.Refusals.{IsNotName}
use Rattle.cpm_disk_commands.specs.declared.error.DiskCommandError.TheVariants.{NotPair}
use Rattle.cpm_commands.specs.Disk.{IsFileName}
use Rattle.cpm_commands.proofs.disk.rename_of.Goals as goal

pub returns-in_default-clause-refusal : goal.returns-in_default-clause-refusal
returns-in_default-clause-refusal c = inl (NotPair c.shown.result, (c.shown.ensures, c.in_default.ensures), c.from.ensures)

pub returns-in_err-old-clause-refusal : goal.returns-in_err-old-clause-refusal
returns-in_err-old-clause-refusal c =
    let p = err_from_is_err_and c.from_residual-in_err-old.result c.from_residual-in_err-old.ensures.1 in
    let new_file = c.in_ok-new.new in
    let fault = c.in_err-old.field-0.0 in
    let pair = c.in-Some.ensures in
    let named = subst (λ (text : List ℕ). IsFileName text c.args.user false false new_file) pair.1 c.in_ok-new.ensures in
    let unnamed = subst (λ (text : List ℕ). IsNotName text fault) pair.2 c.in_err-old.ensures in
    rw p.1 (inr (inr (new_file, pair.0, named, (fault, unnamed, p.2))))
