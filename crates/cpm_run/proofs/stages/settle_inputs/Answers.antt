use Rattle.std.proofs.Common.{List, None, [], map, option_map, refl, subst, sym}
use Rattle.std.proofs.lemmas.Result.{err_from_is_err_and}
use Rattle.std.specs.List.{All}
use Rattle.cpm_batch.specs.Inputs.{given}
use Rattle.cpm_batch.specs.declared.input.Input.{Input}
use Rattle.cpm_script.specs.Laws.{KeysAreAscii}
use Rattle.cpm_slots.specs.Host.{new_host}
use Rattle.cpm_run.specs.Run.{starts_read}
use Rattle.cpm_run.proofs.StageLemmas.{accepted_openable, ascii_inputs, sessions_refused, settle_refused_as, typed_fit}
use Rattle.cpm_run.proofs.stages.settle_inputs.Goals as goal

pub type_if_any-requires-clause-ascii : goal.type_if_any-requires-clause-ascii
type_if_any-requires-clause-ascii g c =
    subst (λ (xs : List Input). All (λ i. KeysAreAscii i.said) (map given xs)) (sym c.as_slice-sessions.ensures.value) (ascii_inputs [] (map given c.args.inputs.items) c.requires.fit)

pub settle-requires-clause-fit : goal.settle-requires-clause-fit
settle-requires-clause-fit g c =
    typed_fit c.args.system.now c.args.config.now.sessions.items (option_map (λ n. n.now) c.args.options.typed) (map given c.args.inputs.items) _ _
    (rw (c.as_slice-sessions.ensures.value) at c.in_ok-heard.ensures.typed) c.requires.fit

pub settle-requires-clause-openable : goal.settle-requires-clause-openable
settle-requires-clause-openable g c =
    let inputs = map given c.args.inputs.items in
    accepted_openable (starts_read inputs) (new_host c.args.system.now c.args.config.now.frames) (starts_read inputs)
    (rw (c.as_slice-sessions.ensures.value) at c.in_ok-judge_openings.ensures.accepted)

pub returns-in_err-judge_openings-clause-refusal : goal.returns-in_err-judge_openings-clause-refusal
returns-in_err-judge_openings-clause-refusal g c =
    let p = err_from_is_err_and c.from_residual.result c.from_residual.ensures.1 in
    rw (p.1, p.2) (sessions_refused c.args.config.now c.args.options _ c.args.system.now (map given c.args.inputs.items) c.in_err-judge_openings.field-0.0
    (record { unread = refl; unwritten = refl; unrecorded = refl }) (rw (c.as_slice-sessions.ensures.value) at c.in_err-judge_openings.ensures.refusal))

pub returns-in_err-settled-clause-refusal : goal.returns-in_err-settled-clause-refusal
returns-in_err-settled-clause-refusal g c =
    let p = err_from_is_err_and c.from_residual-in_err-settled.result c.from_residual-in_err-settled.ensures.1 in
    rw (p.1, p.2) (settle_refused_as c.args.config.now c.args.options _ c.args.system.now (map given c.args.inputs.items) c.in_ok-heard.heard _ c.in_err-settled.field-0.0 refl
    (rw (c.as_slice-sessions.ensures.value) at c.in_ok-judge_openings.ensures.accepted) (rw (c.as_slice-sessions.ensures.value) at c.in_ok-heard.ensures.typed)
    c.in_err-settled.ensures.refusal)
