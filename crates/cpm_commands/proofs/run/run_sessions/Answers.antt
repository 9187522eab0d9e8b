use Rattle.std.proofs.Common.{None, option_map, refl}
use Rattle.std.proofs.lemmas.Result.{err_from_is_err_and}
use Rattle.cpm_run.specs.Settled.{streams}
use Rattle.cpm_commands.specs.Record.{HasEndedRecord}
use Rattle.cpm_commands.specs.Run.IsRunStopped.{NoConfig, NoReplays, NotEnded, NotRecorded, NotRun}
use Rattle.cpm_commands.proofs.RunLemmas.{all_stopped, both, done, ended_so, played, prepared, unseen}
use Rattle.cpm_commands.proofs.run.run_sessions.Goals as goal

pub returns-in_err-config-clause-refusal : goal.returns-in_err-config-clause-refusal
returns-in_err-config-clause-refusal g c =
    let p = err_from_is_err_and c.from_residual.result c.from_residual.ensures.1 in
    rw (p.1, p.2) (NoConfig c.in_err-config.ensures.refusal (record { unread = refl; unwritten = refl; unrecorded = refl }))

pub returns-in_err-replays-clause-refusal : goal.returns-in_err-replays-clause-refusal
returns-in_err-replays-clause-refusal g c =
    let p = err_from_is_err_and c.from_residual-in_err-replays.result c.from_residual-in_err-replays.ensures.1 in
    rw (p.1, p.2) (NoReplays c.in_ok-config.config c.in_ok-config.ensures.read c.in_err-replays.ensures.refusal (record { unread = refl; unwritten = refl; unrecorded = refl }))

pub returns-in_err-see_to_run-clause-refusal : goal.returns-in_err-see_to_run-clause-refusal
returns-in_err-see_to_run-clause-refusal g c =
    let p = err_from_is_err_and c.from_residual-in_err-see_to_run.result c.from_residual-in_err-see_to_run.ensures.1 in
    rw (p.1, p.2) (unseen (record { does = g.F.Store.does; files = g.F.Store.files }) g.F.CommandFiles.sees_to g.F.CommandFiles.gives_names g.F.CommandFiles.tells_name (option_map (λ c. c.now) c.args.stood) _ _ c.args.task.now c.args.files.now c.read_config.new.files c.see_to_run.new.files
    c.in_ok-config.config c.deref.result.now c.in_ok-replays.replays.items c.deref-2.result.now c.in_ok-scripts.scripts.items _ _ _ _ _ _ _ c.in_ok-config.ensures.read c.in_ok-replays.ensures.replays
    c.in_ok-scripts.ensures c.deref.ensures.value c.deref-2.ensures.value
    c.in_err-see_to_run.ensures.refusal (record { unread = refl; unwritten = refl; unrecorded = refl }))

pub returns-in_err-report-clause-refusal : goal.returns-in_err-report-clause-refusal
returns-in_err-report-clause-refusal g c =
    let p = err_from_is_err_and c.from_residual-in_err-report.result c.from_residual-in_err-report.ensures.1 in
    let replays = c.in_ok-replays.replays.items in
    let scripts = c.in_ok-scripts.scripts.items in
    let config = c.in_ok-config.config in
    let task = c.args.task.now in
    let ready = prepared g.F.Store.does g.F.CommandFiles.sees_to task c.args.files.now c.read_config.new.files c.see_to_run.new.files config c.deref.result.now replays c.deref-2.result.now scripts None
    c.in_ok-config.ensures.read c.in_ok-replays.ensures.replays c.in_ok-scripts.ensures c.deref.ensures.value c.deref-2.ensures.value c.in_ok-see_to_run.ensures.seen in
    let io = streams (g.P.Typist.typing c.args.typist.now) (g.P.Typist.typing c.run_all.new.typist) (g.W.Write.contents c.args.out.now) (g.W.Write.contents c.run_all.new.out)
    (g.R.Write.contents c.args.record.now) (g.R.Write.contents c.run_all.new.record) in
    let e = c.in_err-report.field-0.0 in
    rw (p.1, p.2) (NotRun config replays scripts c.see_to_run.new.files ready
    (all_stopped (record { does = g.F.Store.does; files = g.F.Store.files }) g.F.CommandFiles.tells_name (option_map (λ c. c.now) c.args.stood) task config c.deref-3.result.now replays c.deref-4.result.now scripts io c.see_to_run.new.files c.run_all.new.files e
    c.deref-3.ensures.value c.deref-4.ensures.value c.in_err-report.ensures.refusal))

pub returns-in_err-ended-clause-refusal : goal.returns-in_err-ended-clause-refusal
returns-in_err-ended-clause-refusal g c =
    let p = err_from_is_err_and c.from_residual-in_err-ended.result c.from_residual-in_err-ended.ensures.1 in
    let replays = c.in_ok-replays.replays.items in
    let scripts = c.in_ok-scripts.scripts.items in
    let config = c.in_ok-config.config in
    let task = c.args.task.now in
    let ready = prepared g.F.Store.does g.F.CommandFiles.sees_to task c.args.files.now c.read_config.new.files c.see_to_run.new.files config c.deref.result.now replays c.deref-2.result.now scripts None
    c.in_ok-config.ensures.read c.in_ok-replays.ensures.replays c.in_ok-scripts.ensures c.deref.ensures.value c.deref-2.ensures.value c.in_ok-see_to_run.ensures.seen in
    let report = c.in_ok-report.report in
    let shown = g.W.Write.contents c.run_all.new.out in
    let all = played (record { does = g.F.Store.does; files = g.F.Store.files }) g.F.CommandFiles.tells_name (option_map (λ c. c.now) c.args.stood) task config c.deref-3.result.now replays c.deref-4.result.now scripts report (g.P.Typist.typing c.args.typist.now) (g.P.Typist.typing c.run_all.new.typist) (g.W.Write.contents c.args.out.now) shown
    (g.R.Write.contents c.args.record.now) (g.R.Write.contents c.run_all.new.record) (g.R.Write.contents c.end_record-recorded.new.record) c.see_to_run.new.files c.run_all.new.files c.deref-3.ensures.value
    c.deref-4.ensures.value c.end_record-recorded.ensures.same c.in_ok-report.ensures.ran in
    let ended = ended_so c.end_record-recorded.result (HasEndedRecord g.R.KeyRecord.ends g.R.Write.contents (g.R.Write.contents c.end_record-recorded.new.record) c.end_record-recorded.new.record) c.end_record-recorded.ensures.ended c.end_record-recorded.ensures.refused in
    rw (p.1, p.2) (NotEnded config replays scripts c.see_to_run.new.files c.run_all.new.files report shown ended.0 ready all c.in_err-ended.ensures.refusal c.end_run-ended.ensures.told ended.1)

pub returns-clause-ran : goal.returns-clause-ran
returns-clause-ran g c =
    let replays = c.in_ok-replays.replays.items in
    let scripts = c.in_ok-scripts.scripts.items in
    let config = c.in_ok-config.config in
    let task = c.args.task.now in
    let ready = prepared g.F.Store.does g.F.CommandFiles.sees_to task c.args.files.now c.read_config.new.files c.see_to_run.new.files config c.deref.result.now replays c.deref-2.result.now scripts None
    c.in_ok-config.ensures.read c.in_ok-replays.ensures.replays c.in_ok-scripts.ensures c.deref.ensures.value c.deref-2.ensures.value c.in_ok-see_to_run.ensures.seen in
    let report = c.in_ok-report.report in
    let shown = g.W.Write.contents c.run_all.new.out in
    let all = played (record { does = g.F.Store.does; files = g.F.Store.files }) g.F.CommandFiles.tells_name (option_map (λ c. c.now) c.args.stood) task config c.deref-3.result.now replays c.deref-4.result.now scripts report (g.P.Typist.typing c.args.typist.now) (g.P.Typist.typing c.run_all.new.typist) (g.W.Write.contents c.args.out.now) shown
    (g.R.Write.contents c.args.record.now) (g.R.Write.contents c.run_all.new.record) (g.R.Write.contents c.end_record-recorded.new.record) c.see_to_run.new.files c.run_all.new.files c.deref-3.ensures.value
    c.deref-4.ensures.value c.end_record-recorded.ensures.same c.in_ok-report.ensures.ran in
    done c.end_record-recorded.result _ _ (λ ended. record {
      config = config;
      replays = replays;
      scripts = scripts;
      seen = c.see_to_run.new.files;
      ran = c.run_all.new.files;
      report = report;
      shown = shown;
      prepared = ready;
      played = all;
      named = c.in_ok-ended.ensures.ended.0;
      printed_so = c.in_ok-ended.ensures.ended.1;
      tells = c.end_run-ended.ensures.told;
      recorded = ended;
    }) c.end_record-recorded.ensures.ended

pub returns-clause-refusal : goal.returns-clause-refusal
returns-clause-refusal g c =
    let replays = c.in_ok-replays.replays.items in
    let scripts = c.in_ok-scripts.scripts.items in
    let config = c.in_ok-config.config in
    let task = c.args.task.now in
    let ready = prepared g.F.Store.does g.F.CommandFiles.sees_to task c.args.files.now c.read_config.new.files c.see_to_run.new.files config c.deref.result.now replays c.deref-2.result.now scripts None
    c.in_ok-config.ensures.read c.in_ok-replays.ensures.replays c.in_ok-scripts.ensures c.deref.ensures.value c.deref-2.ensures.value c.in_ok-see_to_run.ensures.seen in
    let report = c.in_ok-report.report in
    let shown = g.W.Write.contents c.run_all.new.out in
    let all = played (record { does = g.F.Store.does; files = g.F.Store.files }) g.F.CommandFiles.tells_name (option_map (λ c. c.now) c.args.stood) task config c.deref-3.result.now replays c.deref-4.result.now scripts report (g.P.Typist.typing c.args.typist.now) (g.P.Typist.typing c.run_all.new.typist) (g.W.Write.contents c.args.out.now) shown
    (g.R.Write.contents c.args.record.now) (g.R.Write.contents c.run_all.new.record) (g.R.Write.contents c.end_record-recorded.new.record) c.see_to_run.new.files c.run_all.new.files c.deref-3.ensures.value
    c.deref-4.ensures.value c.end_record-recorded.ensures.same c.in_ok-report.ensures.ran in
    both c.end_record-recorded.result _ _ _ (λ e ended unrecorded. NotRecorded config replays scripts c.see_to_run.new.files c.run_all.new.files report shown ready all
    c.in_ok-ended.ensures.ended.0 c.in_ok-ended.ensures.ended.1 c.end_run-ended.ensures.told ended unrecorded) c.end_record-recorded.ensures.refused c.end_record-recorded.ensures.refusal
