use Rattle.std.proofs.Common.{refl}
use Rattle.std.proofs.lemmas.Result.{err_from_is_err_and}
use Rattle.cpm_machine.specs.declared.opening.Opening.{Opening}
use Rattle.cpm_run.proofs.PrepareLemmas.{opens_slot, restores_slot, restoring_refused, start_refused, waits}
use Rattle.cpm_run.proofs.play.prepare.Goals as goal

pub returns-in_err-slot-in-Opened-clause-refusal : goal.returns-in_err-slot-in-Opened-clause-refusal
returns-in_err-slot-in-Opened-clause-refusal c =
    let p = err_from_is_err_and c.from_residual.result c.from_residual.ensures.1 in
    let o : Opening = record { cpu = c.in-Opened.cpu; quota = c.in-Opened.quota; drives = c.in-Opened.drives } in
    rw (p.1, p.2) (start_refused c.args.input o c.args.host.now.host c.in_err-slot-in-Opened.field-0.0 c.in-Opened.is c.in_err-slot-in-Opened.ensures.refusal)

pub returns-in_ok-slot-in-Opened-clause-prepared : goal.returns-in_ok-slot-in-Opened-clause-prepared
returns-in_ok-slot-in-Opened-clause-prepared c =
    let o : Opening = record { cpu = c.in-Opened.cpu; quota = c.in-Opened.quota; drives = c.in-Opened.drives } in
    opens_slot c.args.input o c.args.host.now.host c.open_slot.new.host.host c.in_ok-slot-in-Opened.slot c.in-Opened.is c.in_ok-slot-in-Opened.ensures.opened

pub returns-in_err-slot-in-Restored-clause-refusal : goal.returns-in_err-slot-in-Restored-clause-refusal
returns-in_err-slot-in-Restored-clause-refusal c =
    let p = err_from_is_err_and c.from_residual-in_err-slot-in-Restored.result c.from_residual-in_err-slot-in-Restored.ensures.1 in
    rw (p.1, p.2) (restoring_refused c.args.input c.in-Restored.saved c.args.host.now.host c.in_err-slot-in-Restored.field-0.0 c.in-Restored.is c.in_err-slot-in-Restored.ensures.refusal)

pub returns-in_ok-slot-in-Restored-clause-prepared : goal.returns-in_ok-slot-in-Restored-clause-prepared
returns-in_ok-slot-in-Restored-clause-prepared c =
    restores_slot c.args.input c.in-Restored.saved c.args.host.now.host c.restore_slot.new.host.host c.in_ok-slot-in-Restored.slot c.in-Restored.is c.in_ok-slot-in-Restored.ensures.restored

pub returns-in-Forked-clause-prepared : goal.returns-in-Forked-clause-prepared
returns-in-Forked-clause-prepared c =
    waits c.args.input (record { parent = c.in-Forked.parent; at = c.in-Forked.at; keys = c.args.input.keys; steps = c.args.input.steps }) c.args.host.now.host c.in-Forked.is
    (record { parent = refl; at = refl; keys = refl; steps = refl })
