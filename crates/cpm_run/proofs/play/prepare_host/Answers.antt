use Rattle.std.proofs.Common.{◌∙◌, ℕ, ap, subst, List, map}
use Rattle.std.proofs.lemmas.Result.{err_from_is_err_and}
use Rattle.cpm_config.specs.declared.config.SessionConfig.{SessionConfig}
use Rattle.cpm_slots.specs.Host.{Host}
use Rattle.cpm_machine.specs.declared.opening.OpenError.{OpenError}
use Rattle.cpm_run.specs.Playing.{IsRefusedAmong, IsSlotRefusal}
use Rattle.cpm_run.specs.Run.{AllAccepted, HasForkRoom, IsForkAt, IsShortFor, fork_pages_in, forks_in}
use Rattle.cpm_run.specs.declared.error.StartFault.TheVariants.{Unopened}
use Rattle.cpm_run.proofs.play.prepare_host.Goals as goal
use Rattle.cpm_run.specs.Settled.{settled_view, starts_of}
use Rattle.cpm_batch.specs.Inputs.{StartInput}

pub returns-clause-accepted : goal.returns-clause-accepted
returns-clause-accepted c =
    let inputs = map settled_view c.args.inputs.items in
    let now = c.prepare_all.new.host.host in
    subst (λ (h : Host). (all : List StartInput) → HasForkRoom all now → AllAccepted all h (starts_of inputs)) c.in-Ok.ensures.made c.in_ok-players.ensures.accepted

pub returns-clause-short : goal.returns-clause-short
returns-clause-short c =
    let inputs = map settled_view c.args.inputs.items in
    let now = c.prepare_all.new.host.host in
    subst (λ (h : Host). (all : List StartInput) (fault : OpenError) (place : ℕ) → IsForkAt all place → IsShortFor now (forks_in all) (fork_pages_in all) fault → IsRefusedAmong all h 0 (starts_of inputs) (Unopened fault) place) c.in-Ok.ensures.made
    c.in_ok-players.ensures.short

pub returns-clause-system : goal.returns-clause-system
returns-clause-system c = c.prepare_all.ensures.system ∙ ap (λ (h : Host). h.system) c.in-Ok.ensures.made

pub returns-in_err-players-clause-refusal : goal.returns-in_err-players-clause-refusal
returns-in_err-players-clause-refusal c =
    let p = err_from_is_err_and c.from_residual.result c.from_residual.ensures.1 in
    let inputs = map settled_view c.args.inputs.items in
    rw (p.1, p.2) (subst (λ (h : Host). IsSlotRefusal c.args.config.now.sessions.items h (starts_of inputs) c.in_err-players.field-0.0) c.in-Ok.ensures.made
    (subst (λ (ss : List SessionConfig). IsSlotRefusal ss c.in-Ok.host.host (starts_of inputs) c.in_err-players.field-0.0) c.requires.sessions c.in_err-players.ensures.refusal))
