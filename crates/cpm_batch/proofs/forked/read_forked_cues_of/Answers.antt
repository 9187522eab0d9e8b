use Rattle.std.proofs.Common.{ap, map}
use Rattle.std.proofs.lemmas.Result.{IfErr-weaker, IfOk-weaker}
use Rattle.cpm_script.specs.Cues.{all_said, cue_text}
use Rattle.cpm_batch.specs.Sources.{key_source}
use Rattle.cpm_batch.proofs.ReadLemmas.{forked_recording_named, forked_script_named, no_forked_script}
use Rattle.cpm_batch.proofs.StopLemmas.{forked_recorded_stopped, forked_said_stopped}
use Rattle.cpm_batch.proofs.forked.read_forked_cues_of.Goals as goal

pub returns-in-Script-clause-log : goal.returns-in-Script-clause-log
returns-in-Script-clause-log g c =
    let keys = key_source c.args.replays.now c.args.session.now in
    IfOk-weaker c.read_forked_script.result _ _
    (λ v log. forked_script_named g.S.Store.does keys c.key_source.result c.in-Script.name c.args.at c.args.before (all_said v) c.args.store.now c.read_forked_script.new.store c.key_source.ensures
    c.in-Script.is log) c.read_forked_script.ensures.log

pub returns-in-Recording-clause-log : goal.returns-in-Recording-clause-log
returns-in-Recording-clause-log g c =
    let keys = key_source c.args.replays.now c.args.session.now in
    IfOk-weaker c.read_replay.result _ _
    (λ v log. forked_recording_named g.S.Store.does keys c.key_source.result c.in-Recording.name c.args.at c.args.before (all_said v) c.args.store.now c.read_replay.new.store c.key_source.ensures
    c.in-Recording.is log) c.read_replay.ensures.log

pub returns-in-Nothing-clause-log : goal.returns-in-Nothing-clause-log
returns-in-Nothing-clause-log g c =
    let keys = key_source c.args.replays.now c.args.session.now in
    no_forked_script g.S.Store.does keys c.key_source.result c.args.at c.args.before (all_said c.new.result) c.args.store.now c.key_source.ensures c.in-Nothing.is (ap (map cue_text) c.new.ensures.items)

pub returns-in-Script-clause-refused_log : goal.returns-in-Script-clause-refused_log
returns-in-Script-clause-refused_log g c =
    let keys = key_source c.args.replays.now c.args.session.now in
    IfErr-weaker c.read_forked_script.result _ _
    (λ e log. forked_said_stopped g.S.Store.does keys c.key_source.result c.in-Script.name c.args.at c.args.before e c.args.store.now c.read_forked_script.new.store c.key_source.ensures
    c.in-Script.is log) c.read_forked_script.ensures.refused_log

pub returns-in-Recording-clause-refused_log : goal.returns-in-Recording-clause-refused_log
returns-in-Recording-clause-refused_log g c =
    let keys = key_source c.args.replays.now c.args.session.now in
    IfErr-weaker c.read_replay.result _ _
    (λ e log. forked_recorded_stopped g.S.Store.does keys c.key_source.result c.in-Recording.name c.args.at c.args.before e c.args.store.now c.read_replay.new.store c.key_source.ensures
    c.in-Recording.is log) c.read_replay.ensures.refused_log
