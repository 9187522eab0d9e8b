use Rattle.std.proofs.Common.{◌∙◌, [], ap, map, refl, sym}
use Rattle.std.proofs.lemmas.Result.{err_from_is_err_and}
use Rattle.cpm_batch.specs.Inputs.{given}
use Rattle.cpm_config.proofs.FaultLemmas.{neither}
use Rattle.cpm_store.specs.Writes.{named_output}
use Rattle.cpm_run.proofs.ReplayLemmas.{all_give, all_ordered}
use Rattle.cpm_run.proofs.RunLemmas.{are_parts, parts_by, place_refused, play_settled, reading_refused, settle_refused, settled_sessions, write_refused, written_as}
use Rattle.cpm_run.proofs.ScriptLemmas.{inputs_begin, inputs_fit}
use Rattle.cpm_run.specs.Run.{top_fault}
use Rattle.cpm_run.specs.Refusing.{IsRunnable}
use Rattle.cpm_run.specs.Settled.{settled_view}
use Rattle.cpm_run.proofs.run.run_host.Goals as goal

pub settle_inputs-requires-clause-starts : goal.settle_inputs-requires-clause-starts
settle_inputs-requires-clause-starts g c = inputs_begin c.args.options.replays.now (g.S.Store.files c.args.store.now) (map given c.in_ok-system.inputs.items) c.in_ok-system.ensures.read.all

pub settle_inputs-requires-clause-fit : goal.settle_inputs-requires-clause-fit
settle_inputs-requires-clause-fit g c =
    inputs_fit c.args.options.replays.now (g.S.Store.files c.args.store.now) c.args.config.now.sessions.items (map given c.in_ok-system.inputs.items) c.in_ok-system.ensures.read.sessions c.in_ok-system.ensures.read.all
    (neither 0 (top_fault c.args.config.now) _ (sym c.in_default.ensures)).1

pub play_inputs-requires-clause-sessions : goal.play_inputs-requires-clause-sessions
play_inputs-requires-clause-sessions g c =
    let h = c.in_ok-settled.ensures.settled in
    settled_sessions c.in_ok-system.system c.args.options.stops_idle h.typed c.args.config.now.sessions.items [] (map given c.in_ok-system.inputs.items)
    (map settled_view c.in_ok-settled.settled.items) h.keys ∙ c.in_ok-system.ensures.read.sessions

pub returns-in_err-typed-clause-refusal : goal.returns-in_err-typed-clause-refusal
returns-in_err-typed-clause-refusal g c =
    let p = err_from_is_err_and c.from_residual.result c.from_residual.ensures.1 in
    rw (p.1, p.2) (place_refused (record { does = g.S.Store.does; files = g.S.Store.files }) c.args.config.now c.args.options _ c.args.store.now c.in_err-typed.field-0.0 (sym c.in_default.ensures)
    c.in_err-typed.ensures.refusal (record { unread = refl; unwritten = refl; unrecorded = refl }))

pub returns-in_err-system-clause-refusal : goal.returns-in_err-system-clause-refusal
returns-in_err-system-clause-refusal g c =
    let p = err_from_is_err_and c.from_residual-in_err-system.result c.from_residual-in_err-system.ensures.1 in
    let runnable : IsRunnable c.args.config.now c.args.options = record { faultless = sym c.in_default.ensures; place = c.in_ok-typed.typed; typable = c.in_ok-typed.ensures.place } in
    rw (p.1, p.2) (reading_refused (record { does = g.S.Store.does; files = g.S.Store.files }) c.args.config.now c.args.options _ c.args.store.now c.read_inputs.new.store c.in_err-system.field-0.0 runnable
    c.in_err-system.ensures.refusal c.read_inputs.ensures.store.same c.in_err-system.ensures.refused_log c.read_inputs.ensures.store.unwritten
    (record { unread = refl; unwritten = refl; unrecorded = refl }))

pub returns-in_err-settled-clause-refusal : goal.returns-in_err-settled-clause-refusal
returns-in_err-settled-clause-refusal g c =
    let p = err_from_is_err_and c.from_residual-in_err-settled.result c.from_residual-in_err-settled.ensures.1 in
    let config = c.args.config.now in
    let system = c.in_ok-system.system in
    let inputs = map given c.in_ok-system.inputs.items in
    let runnable : IsRunnable config c.args.options = record { faultless = sym c.in_default.ensures; place = c.in_ok-typed.typed; typable = c.in_ok-typed.ensures.place } in
    rw (p.1, p.2) (settle_refused (record { does = g.S.Store.does; files = g.S.Store.files }) config c.args.options _ system inputs c.args.store.now c.read_inputs.new.store c.in_err-settled.field-0.0 runnable
    (record { held = c.in_ok-system.ensures.read; same = c.read_inputs.ensures.store.same; calls = c.in_ok-system.ensures.log }) c.in_err-settled.ensures.refusal)

pub returns-in_err-report-clause-refusal : goal.returns-in_err-report-clause-refusal
returns-in_err-report-clause-refusal g c =
    let p = err_from_is_err_and c.from_residual-in_err-report.result c.from_residual-in_err-report.ensures.1 in
    let config = c.args.config.now in
    let system = c.in_ok-system.system in
    let inputs = map given c.in_ok-system.inputs.items in
    let settled = map settled_view c.in_ok-settled.settled.items in
    let runnable : IsRunnable config c.args.options = record { faultless = sym c.in_default.ensures; place = c.in_ok-typed.typed; typable = c.in_ok-typed.ensures.place } in
    rw (p.1, p.2) (settle_refused (record { does = g.S.Store.does; files = g.S.Store.files }) config c.args.options _ system inputs c.args.store.now c.read_inputs.new.store c.in_err-report.field-0.0 runnable
    (record { held = c.in_ok-system.ensures.read; same = c.read_inputs.ensures.store.same; calls = c.in_ok-system.ensures.log })
    (play_settled config c.args.options _ system inputs settled c.in_err-report.field-0.0 c.in_ok-settled.ensures.settled c.in_err-report.ensures.refusal))

pub returns-in_err-write_files-clause-refusal : goal.returns-in_err-write_files-clause-refusal
returns-in_err-write_files-clause-refusal g c =
    let e = err_from_is_err_and c.from_residual-in_err-write_files.result c.from_residual-in_err-write_files.ensures.1 in
    let config = c.args.config.now in
    let system = c.in_ok-system.system in
    let inputs = map given c.in_ok-system.inputs.items in
    let settled = map settled_view c.in_ok-settled.settled.items in
    let h = c.in_ok-settled.ensures.settled in
    let p = c.in_ok-report.ensures.played in
    let are = ap (map named_output) c.as_slice.ensures.value ∙ p.left.1 in
    let r = c.in_err-write_files.ensures.refusal in
    let runnable : IsRunnable config c.args.options = record { faultless = sym c.in_default.ensures; place = c.in_ok-typed.typed; typable = c.in_ok-typed.ensures.place } in
    rw (e.1, e.2) (write_refused (record { does = g.S.Store.does; files = g.S.Store.files }) config c.args.options _ (parts_by config c.args.options _ system inputs settled h p.from) c.args.store.now c.read_inputs.new.store c.write_files.new.store
    (map named_output c.as_slice.result.now) r.0 c.in_err-write_files.field-0.0 runnable
    (record { held = c.in_ok-system.ensures.read; same = c.read_inputs.ensures.store.same; calls = c.in_ok-system.ensures.log })
    (are_parts config c.args.options _ system inputs settled h p.from p.gone) are r.1 r.2 r.3)

pub returns-clause-run : goal.returns-clause-run
returns-clause-run g c =
    let config = c.args.config.now in
    let system = c.in_ok-system.system in
    let inputs = map given c.in_ok-system.inputs.items in
    let settled = map settled_view c.in_ok-settled.settled.items in
    let h = c.in_ok-settled.ensures.settled in
    let p = c.in_ok-report.ensures.played in
    let are = ap (map named_output) c.as_slice.ensures.value ∙ p.left.1 in
    record {
      parts = parts_by config c.args.options _ system inputs settled h p.from;
      between = c.read_inputs.new.store;
      faultless = sym c.in_default.ensures;
      read = record { held = c.in_ok-system.ensures.read; same = c.read_inputs.ensures.store.same; calls = c.in_ok-system.ensures.log };
      played = are_parts config c.args.options _ system inputs settled h p.from p.gone;
      replays = all_give system settled c.in_ok-settled.ensures.sound;
      orders = all_ordered system settled c.in_ok-settled.ensures.sound;
      savings = p.savings;
      wrote = written_as _ _ _ _ _ are c.in_ok-write_files.ensures.written;
      reported = p.left.0;
    }
