use Rattle.std.proofs.Common.{[], ◌∷◌, refl}
use Rattle.std.proofs.lemmas.Result.{err_from_is_err_and}
use Rattle.cpm_script.specs.Cues.{all_said}
use Rattle.cpm_store.proofs.LogLemmas.{ran_then}
use Rattle.cpm_batch.specs.Inputs.{key_needs, saving_need}
use Rattle.cpm_batch.specs.Reads.{IsSaidRead, IsSavingRead}
use Rattle.cpm_batch.specs.Savings.{names_wanted, saving_view}
use Rattle.cpm_batch.specs.Sources.{key_source}
use Rattle.cpm_batch.proofs.ReadLemmas.{only_read_as, only_read_failed, only_read_then}
use Rattle.cpm_batch.proofs.StopLemmas.{behind_need, stopped_front}
use Rattle.cpm_batch.proofs.restored.read_restored.Goals as goal

pub returns-in_err-saved-clause-refused_log : goal.returns-in_err-saved-clause-refused_log
returns-in_err-saved-clause-refused_log g c =
    let p = err_from_is_err_and c.from_residual.result c.from_residual.ensures.1 in
    let keys = key_source c.args.replays.now c.args.session.now in
    rw (p.1, p.2) (stopped_front g.S.Store.does (saving_need c.args.session.now c.args.name.now ∷ []) (key_needs keys) _ c.args.store.now c.read_saving.new.store c.in_err-saved.ensures.refused_log)

pub returns-in_err-cues-clause-refused_log : goal.returns-in_err-cues-clause-refused_log
returns-in_err-cues-clause-refused_log g c =
    let p = err_from_is_err_and c.from_residual-in_err-cues.result c.from_residual-in_err-cues.ensures.1 in
    let keys = key_source c.args.replays.now c.args.session.now in
    let log = c.in_ok-saved.ensures.log in
    rw (p.1, p.2) (behind_need g.S.Store.does (saving_need c.args.session.now c.args.name.now) (key_needs keys) _ c.args.store.now c.read_saving.new.store c.read_cues_of.new.store
    (log.0, (saving_view c.in_ok-saved.saved, log.1), log.2) c.in_err-cues.ensures.refused_log)

pub returns-in_err-cues-clause-store : goal.returns-in_err-cues-clause-store
returns-in_err-cues-clause-store g c =
    let p = err_from_is_err_and c.from_residual-in_err-cues.result c.from_residual-in_err-cues.ensures.1 in
    rw (p.1, p.2) (only_read_failed (only_read_then c.in_ok-saved.ensures.store c.in_err-cues.ensures.store))

pub returns-clause-log : goal.returns-clause-log
returns-clause-log g c =
    let saving = saving_view c.in_ok-saved.saved in
    let keys = key_source c.args.replays.now c.args.session.now in
    let both = ran_then g.S.Store.does (IsSavingRead c.args.name.now (names_wanted c.args.session.now) saving) (IsSaidRead keys (all_said c.in_ok-cues.cues)) c.args.store.now c.read_saving.new.store
    c.read_cues_of.new.store c.in_ok-saved.ensures.log c.in_ok-cues.ensures.log in
    (both.0, record { saving = saving; start = refl; calls = both.1 }, both.2)

pub returns-clause-store : goal.returns-clause-store
returns-clause-store g c = only_read_as _ tt (only_read_then c.in_ok-saved.ensures.store c.in_ok-cues.ensures.store)
