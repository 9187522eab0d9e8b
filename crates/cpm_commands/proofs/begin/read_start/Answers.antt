use Rattle.std.proofs.Common.{None, option_map}
use Rattle.std.proofs.lemmas.Result.{err_from_is_err_and}
use Rattle.cpm_batch.specs.Savings.{saving_view}
use Rattle.cpm_commands.specs.Play.IsStartRefused.{NoDrives, NoSystem, TooLong, TooMany, Unread}
use Rattle.cpm_commands.proofs.begin.read_start.Goals as goal

pub returns-in_err-program-clause-refusal : goal.returns-in_err-program-clause-refusal
returns-in_err-program-clause-refusal g c =
    let p = err_from_is_err_and c.from_residual-in_err-program.result c.from_residual-in_err-program.ensures.1 in
    rw (p.1, p.2) (Unread _ _ c.in_ok-saved.ensures.read c.in_err-program.ensures.refusal)

pub returns-in_err-check-clause-refusal : goal.returns-in_err-check-clause-refusal
returns-in_err-check-clause-refusal g c =
    let p = err_from_is_err_and c.from_residual-in_err-check.result c.from_residual-in_err-check.ensures.1 in
    let saved = option_map (λ b. saving_view b.value) c.in_ok-saved.saved in
    rw (p.1, p.2) (TooLong (record { cpu = c.args.task.now.cpu; program = _; tail = c.args.tail; drives = c.new.result.items; system = None; saved = saved }) _
    c.in_ok-saved.ensures.read c.in_ok-program.ensures.read c.new.ensures.items c.in_err-check.ensures.refusal.0)

pub returns-in_err-start-clause-refusal : goal.returns-in_err-start-clause-refusal
returns-in_err-start-clause-refusal g c =
    let p = err_from_is_err_and c.from_residual-in_err-start.result c.from_residual-in_err-start.ensures.1 in
    rw (p.1, p.2) (NoDrives _ _ _ _ c.in_ok-saved.ensures.read c.in_ok-program.ensures.read c.in_err-start.ensures.refusal)

pub returns-in_err-check-2-clause-refusal : goal.returns-in_err-check-2-clause-refusal
returns-in_err-check-2-clause-refusal g c =
    let p = err_from_is_err_and c.from_residual-in_err-check-2.result c.from_residual-in_err-check-2.ensures.1 in
    let saved = option_map (λ b. saving_view b.value) c.in_ok-saved.saved in
    rw (p.1, p.2) (TooMany
    (record { cpu = c.args.task.now.cpu; program = _; tail = c.args.tail; drives = c.in_ok-start.field-0.items; system = None; saved = saved }) _ _
    c.in_ok-saved.ensures.read c.in_ok-program.ensures.read c.in_ok-start.ensures.read c.in_err-check-2.ensures.refusal.0)

pub returns-in_err-start-2-clause-refusal : goal.returns-in_err-start-2-clause-refusal
returns-in_err-start-2-clause-refusal g c =
    let p = err_from_is_err_and c.from_residual-in_err-start-2.result c.from_residual-in_err-start-2.ensures.1 in
    rw (p.1, p.2) (NoSystem _ _ _ _ _ _ c.in_ok-saved.ensures.read c.in_ok-program.ensures.read c.in_ok-start.ensures.read c.in_err-start-2.ensures.refusal)
