use Rattle.std.proofs.Common.{ap, map}
use Rattle.std.proofs.lemmas.Result.{IfErr-weaker, IfOk-weaker}
use Rattle.cpm_script.specs.Cues.{all_said, cue_text}
use Rattle.cpm_batch.specs.Sources.{key_source}
use Rattle.cpm_batch.proofs.ReadLemmas.{no_script, recording_named, script_named}
use Rattle.cpm_batch.proofs.StopLemmas.{recorded_stopped, said_stopped}
use Rattle.cpm_batch.proofs.input.read_cues_of.Goals as goal

pub returns-in-Script-clause-log : goal.returns-in-Script-clause-log
returns-in-Script-clause-log g c =
    let keys = key_source c.args.replays.now c.args.session.now in
    IfOk-weaker c.read_script.result _ _
    (λ v log. script_named g.S.Store.does keys c.key_source.result c.in-Script.name (all_said v) c.args.store.now c.read_script.new.store c.key_source.ensures c.in-Script.is log)
    c.read_script.ensures.log

pub returns-in-Recording-clause-log : goal.returns-in-Recording-clause-log
returns-in-Recording-clause-log g c =
    let keys = key_source c.args.replays.now c.args.session.now in
    IfOk-weaker c.read_replay.result _ _
    (λ v log. recording_named g.S.Store.does keys c.key_source.result c.in-Recording.name (all_said v) c.args.store.now c.read_replay.new.store c.key_source.ensures c.in-Recording.is log)
    c.read_replay.ensures.log

pub returns-in-Nothing-clause-log : goal.returns-in-Nothing-clause-log
returns-in-Nothing-clause-log g c =
    let keys = key_source c.args.replays.now c.args.session.now in
    no_script g.S.Store.does keys c.key_source.result (all_said c.new.result) c.args.store.now c.key_source.ensures c.in-Nothing.is (ap (map cue_text) c.new.ensures.items)

pub returns-in-Script-clause-refused_log : goal.returns-in-Script-clause-refused_log
returns-in-Script-clause-refused_log g c =
    let keys = key_source c.args.replays.now c.args.session.now in
    IfErr-weaker c.read_script.result _ _
    (λ e log. said_stopped g.S.Store.does keys c.key_source.result c.in-Script.name e c.args.store.now c.read_script.new.store c.key_source.ensures c.in-Script.is log)
    c.read_script.ensures.refused_log

pub returns-in-Recording-clause-refused_log : goal.returns-in-Recording-clause-refused_log
returns-in-Recording-clause-refused_log g c =
    let keys = key_source c.args.replays.now c.args.session.now in
    IfErr-weaker c.read_replay.result _ _
    (λ e log. recorded_stopped g.S.Store.does keys c.key_source.result c.in-Recording.name e c.args.store.now c.read_replay.new.store c.key_source.ensures c.in-Recording.is log)
    c.read_replay.ensures.refused_log
