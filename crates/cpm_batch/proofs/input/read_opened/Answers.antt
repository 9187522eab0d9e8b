use Rattle.std.proofs.Common.{refl}
use Rattle.std.proofs.lemmas.Result.{err_from_is_err_and}
use Rattle.cpm_script.specs.Cues.{all_said}
use Rattle.cpm_store.proofs.LogLemmas.{ran_then}
use Rattle.cpm_batch.specs.Inputs.{image_needs, key_needs}
use Rattle.cpm_batch.specs.Reads.{AreImagesRead, IsSaidRead}
use Rattle.cpm_batch.specs.Sources.{key_source}
use Rattle.cpm_batch.proofs.InputLemmas.{images_met, refusal_as, refused_behind, refused_front}
use Rattle.cpm_batch.proofs.ReadLemmas.{only_read_as, only_read_failed, only_read_then}
use Rattle.cpm_batch.proofs.StopLemmas.{behind_images, stopped_front}
use Rattle.cpm_batch.proofs.input.read_opened.Goals as goal

pub returns-in_err-drives-clause-refusal : goal.returns-in_err-drives-clause-refusal
returns-in_err-drives-clause-refusal g c =
    let p = err_from_is_err_and c.from_residual.result c.from_residual.ensures.1 in
    rw (p.1, p.2) (refused_front (g.S.Store.files c.args.store.now) (image_needs c.args.names.now) (key_needs (key_source c.args.replays.now c.args.session.now)) _ c.in_err-drives.ensures.refusal)

pub returns-in_err-cues-clause-refusal : goal.returns-in_err-cues-clause-refusal
returns-in_err-cues-clause-refusal g c =
    let p = err_from_is_err_and c.from_residual-in_err-cues.result c.from_residual-in_err-cues.ensures.1 in
    let files = g.S.Store.files c.args.store.now in
    let needs = key_needs (key_source c.args.replays.now c.args.session.now) in
    rw (p.1, p.2) (refused_behind files (image_needs c.args.names.now) needs _
    (images_met files c.args.names.now c.in_ok-drives.drives.items c.in_ok-drives.ensures.images)
    (refusal_as files (g.S.Store.files c.read_images.new.store) needs needs _ c.in_ok-drives.ensures.store.same refl c.in_err-cues.ensures.refusal))

pub returns-clause-log : goal.returns-clause-log
returns-clause-log g c =
    let drives = c.in_ok-drives.drives.items in
    let keys = key_source c.args.replays.now c.args.session.now in
    let both = ran_then g.S.Store.does (AreImagesRead c.args.names.now drives) (IsSaidRead keys (all_said c.in_ok-cues.cues)) c.args.store.now c.read_images.new.store c.read_cues_of.new.store
    c.in_ok-drives.ensures.log c.in_ok-cues.ensures.log in
    (both.0, record { drives = drives; start = refl; calls = both.1 }, both.2)

pub returns-in_err-drives-clause-refused_log : goal.returns-in_err-drives-clause-refused_log
returns-in_err-drives-clause-refused_log g c =
    let p = err_from_is_err_and c.from_residual.result c.from_residual.ensures.1 in
    rw (p.1, p.2) (stopped_front g.S.Store.does (image_needs c.args.names.now) (key_needs (key_source c.args.replays.now c.args.session.now)) _ c.args.store.now c.read_images.new.store
    c.in_err-drives.ensures.refused_log)

pub returns-in_err-cues-clause-refused_log : goal.returns-in_err-cues-clause-refused_log
returns-in_err-cues-clause-refused_log g c =
    let p = err_from_is_err_and c.from_residual-in_err-cues.result c.from_residual-in_err-cues.ensures.1 in
    rw (p.1, p.2) (behind_images g.S.Store.does c.args.names.now c.in_ok-drives.drives.items (key_needs (key_source c.args.replays.now c.args.session.now)) _ c.args.store.now c.read_images.new.store
    c.read_cues_of.new.store c.in_ok-drives.ensures.log c.in_err-cues.ensures.refused_log)

pub returns-in_err-cues-clause-store : goal.returns-in_err-cues-clause-store
returns-in_err-cues-clause-store g c =
    let p = err_from_is_err_and c.from_residual-in_err-cues.result c.from_residual-in_err-cues.ensures.1 in
    rw (p.1, p.2) (only_read_failed (only_read_then c.in_ok-drives.ensures.store c.in_err-cues.ensures.store))

pub returns-clause-store : goal.returns-clause-store
returns-clause-store g c = only_read_as _ tt (only_read_then c.in_ok-drives.ensures.store c.in_ok-cues.ensures.store)
