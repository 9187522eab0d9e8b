use Rattle.std.proofs.Common.{◌∙◌, [], map, refl}
use Rattle.std.specs.Prelude.{string_bytes}
use Rattle.std.proofs.lemmas.Result.{err_from_is_err_and}
use Rattle.cpm_store.proofs.LogLemmas.{ran_then}
use Rattle.cpm_batch.specs.Inputs.{given}
use Rattle.cpm_batch.specs.Reads.{AreInputsRead, IsImageRead}
use Rattle.cpm_batch.proofs.InputLemmas.{image_as, image_refusal_as, sessions_refused, system_refused}
use Rattle.cpm_batch.proofs.ReadLemmas.{image_read_as, only_read_as, only_read_failed, only_read_then}
use Rattle.cpm_batch.proofs.StopLemmas.{image_stopped_as, sessions_stopped, system_stopped}
use Rattle.cpm_batch.proofs.input.read_inputs.Goals as goal

pub returns-clause-log : goal.returns-clause-log
returns-clause-log g c =
    let does = g.S.Store.does in
    let name = string_bytes c.args.config.now.system in
    let system = c.in_ok-system.system in
    let inputs = map given c.in_ok-sessions.sessions.items in
    let start = c.args.store.now in
    let between = c.read_image.new.store in
    let both = ran_then does (IsImageRead name system) (AreInputsRead c.args.replays.now [] inputs) start between c.read_sessions.new.store
    (image_read_as does name c.as_str.result.now system start between c.as_str.ensures.value c.in_ok-system.ensures.log) c.in_ok-sessions.ensures.log in
    (both.0, record { sessions = c.in_ok-sessions.ensures.sessions ∙ c.as_slice.ensures.value; calls = both.1 }, both.2)

pub returns-in_err-system-clause-refusal : goal.returns-in_err-system-clause-refusal
returns-in_err-system-clause-refusal g c =
    let p = err_from_is_err_and c.from_residual.result c.from_residual.ensures.1 in
    let files = g.S.Store.files c.args.store.now in
    let config = c.args.config.now in
    rw (p.1, p.2) (system_refused c.args.replays.now files config _ (image_refusal_as files files (string_bytes config.system) c.as_str.result.now _ refl c.as_str.ensures.value c.in_err-system.ensures.refusal))

pub returns-in_err-sessions-clause-refusal : goal.returns-in_err-sessions-clause-refusal
returns-in_err-sessions-clause-refusal g c =
    let p = err_from_is_err_and c.from_residual-in_err-sessions.result c.from_residual-in_err-sessions.ensures.1 in
    let files = g.S.Store.files c.args.store.now in
    let config = c.args.config.now in
    let system = c.in_ok-system.system in
    rw (p.1, p.2) (sessions_refused c.args.replays.now files (g.S.Store.files c.read_image.new.store) config c.as_slice.result.now system _
    (image_as files files (string_bytes config.system) c.as_str.result.now system refl c.as_str.ensures.value c.in_ok-system.ensures.image) c.in_ok-system.ensures.store.same c.as_slice.ensures.value
    c.in_err-sessions.ensures.refusal)

pub returns-in_err-system-clause-refused_log : goal.returns-in_err-system-clause-refused_log
returns-in_err-system-clause-refused_log g c =
    let p = err_from_is_err_and c.from_residual.result c.from_residual.ensures.1 in
    let does = g.S.Store.does in
    let config = c.args.config.now in
    rw (p.1, p.2) (system_stopped does c.args.replays.now config _ c.args.store.now c.read_image.new.store
    (image_stopped_as does (string_bytes config.system) c.as_str.result.now _ c.args.store.now c.read_image.new.store c.as_str.ensures.value c.in_err-system.ensures.refused_log))

pub returns-in_err-sessions-clause-refused_log : goal.returns-in_err-sessions-clause-refused_log
returns-in_err-sessions-clause-refused_log g c =
    let p = err_from_is_err_and c.from_residual-in_err-sessions.result c.from_residual-in_err-sessions.ensures.1 in
    let does = g.S.Store.does in
    let config = c.args.config.now in
    let system = c.in_ok-system.system in
    let start = c.args.store.now in
    let between = c.read_image.new.store in
    rw (p.1, p.2) (sessions_stopped does c.args.replays.now config c.as_slice.result.now system _ start between c.read_sessions.new.store c.as_slice.ensures.value
    (image_read_as does (string_bytes config.system) c.as_str.result.now system start between c.as_str.ensures.value c.in_ok-system.ensures.log) c.in_err-sessions.ensures.refused_log)

pub returns-in_err-sessions-clause-store : goal.returns-in_err-sessions-clause-store
returns-in_err-sessions-clause-store g c =
    let p = err_from_is_err_and c.from_residual-in_err-sessions.result c.from_residual-in_err-sessions.ensures.1 in
    rw (p.1, p.2) (only_read_failed (only_read_then c.in_ok-system.ensures.store c.in_err-sessions.ensures.store))

pub returns-clause-store : goal.returns-clause-store
returns-clause-store g c = only_read_as _ tt (only_read_then c.in_ok-system.ensures.store c.in_ok-sessions.ensures.store)
