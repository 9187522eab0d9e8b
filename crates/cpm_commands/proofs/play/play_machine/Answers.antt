use Rattle.std.proofs.Common.{◌∙◌, Bool, List, None, Some, ap, map, refl, rules, subst, ℕ}
use Rattle.std.specs.Prelude.{is_some}
use Rattle.std.proofs.lemmas.Result.{err_from_is_err_and}
use Rattle.cpm_host.specs.Program.{HasSaved, IsPlayedBy, IsProgramPlayRefusal, machine_of, program_given, system_disk}
use Rattle.cpm_play.specs.Output.{output_state}
use Rattle.cpm_run.specs.Settled.{play_streams}
use Rattle.cpm_script.specs.declared.cue.Cue.{Cue}
use Rattle.cpm_commands.specs.Drives.{AreAllLeftOutTold, ArePlacesFound, HasToldLeftOut}
use Rattle.cpm_commands.specs.OutFolder.{folder_starts_of}
use Rattle.cpm_commands.specs.Plan.{Plan}
use Rattle.cpm_commands.specs.Play.{IsPlayPrepared, IsPlayRead, IsStartRead, IsStartRefused, ReadActs, plan_of_play, source_of, steps_asked}
use Rattle.cpm_commands.specs.Play.IsPlayStopped.{NoKeys, NoRoom, NoStart, NotPlayed, NotSeen}
use Rattle.cpm_commands.specs.declared.drives.DrivePlace.{DrivePlace}
use Rattle.cpm_commands.proofs.play.play_machine.Goals as goal

pub returns-in_err-see_to-clause-refusal : goal.returns-in_err-see_to-clause-refusal
returns-in_err-see_to-clause-refusal g c =
    let p = err_from_is_err_and c.from_residual-in_err-see_to.result c.from_residual-in_err-see_to.ensures.1 in
    let task = c.args.task.now in
    let old = c.args.files.now in
    let places = c.in_ok-places.places.items in
    let e = c.in_err-see_to.field-0.0 in
    let found = subst (λ ns. ArePlacesFound g.F.CommandFiles.tells_folder g.F.CommandFiles.lists old (map (λ n. n.now) ns) places) c.deref.ensures.value c.in_ok-places.ensures.found in
    let seen = subst (λ (ps : List DrivePlace). g.F.CommandFiles.sees_to old (plan_of_play task ps) (Some e) c.see_to.new.self) c.as_slice.ensures.value
    (subst (λ (p : Plan). g.F.CommandFiles.sees_to old p (Some e) c.see_to.new.self) c.in_ok-plan.ensures c.in_err-see_to.ensures.refused) in
    rw (p.1, p.2) (NotSeen places found seen (record { unread = refl; unwritten = refl; unrecorded = refl }))

pub returns-in_err-start-clause-refusal : goal.returns-in_err-start-clause-refusal
returns-in_err-start-clause-refusal g c =
    let p = err_from_is_err_and c.from_residual-in_err-start.result c.from_residual-in_err-start.ensures.1 in
    let task = c.args.task.now in
    let old = c.args.files.now in
    let places = c.in_ok-places.places.items in
    let found = subst (λ ns. ArePlacesFound g.F.CommandFiles.tells_folder g.F.CommandFiles.lists old (map (λ n. n.now) ns) places) c.deref.ensures.value c.in_ok-places.ensures.found in
    let seen = subst (λ (ps : List DrivePlace). g.F.CommandFiles.sees_to old (plan_of_play task ps) None c.see_to.new.self) c.as_slice.ensures.value
    (subst (λ (p : Plan). g.F.CommandFiles.sees_to old p None c.see_to.new.self) c.in_ok-plan.ensures c.in_ok-see_to.ensures.seen) in
    let told = subst (λ (ps : List DrivePlace). AreAllLeftOutTold g.T.Messages.tells ps c.args.watcher.now c.tell_left_out.new.messages) c.as_slice-2.ensures.value c.tell_left_out.ensures in
    let acts : ReadActs _ = record {
      does = g.F.Store.does;
      sees_to = g.F.CommandFiles.sees_to;
      tells_folder = g.F.CommandFiles.tells_folder;
      lists = g.F.CommandFiles.lists;
      unlists = g.F.CommandFiles.unlists;
      told_left_out = λ ps. HasToldLeftOut g.T.Messages.tells c.args.watcher.now ps;
    } in
    let prepared : IsPlayPrepared acts task places old c.see_to.new.self = record { found = found; sees = seen; told = (c.tell_left_out.new.messages, told) } in
    let refused = subst (λ (ps : List DrivePlace). IsStartRefused g.F.Store.does task ps c.see_to.new.self c.read_start.new.files c.in_err-start.field-0.0) c.as_slice-3.ensures.value
    c.in_err-start.ensures.refusal in
    rw (p.1, p.2) (NoStart places c.see_to.new.self prepared refused (record { unread = refl; unwritten = refl; unrecorded = refl }))

pub returns-in_err-cues-clause-refusal : goal.returns-in_err-cues-clause-refusal
returns-in_err-cues-clause-refusal g c =
    let p = err_from_is_err_and c.from_residual-in_err-cues.result c.from_residual-in_err-cues.ensures.1 in
    let task = c.args.task.now in
    let old = c.args.files.now in
    let places = c.in_ok-places.places.items in
    let found = subst (λ ns. ArePlacesFound g.F.CommandFiles.tells_folder g.F.CommandFiles.lists old (map (λ n. n.now) ns) places) c.deref.ensures.value c.in_ok-places.ensures.found in
    let seen = subst (λ (ps : List DrivePlace). g.F.CommandFiles.sees_to old (plan_of_play task ps) None c.see_to.new.self) c.as_slice.ensures.value
    (subst (λ (p : Plan). g.F.CommandFiles.sees_to old p None c.see_to.new.self) c.in_ok-plan.ensures c.in_ok-see_to.ensures.seen) in
    let told = subst (λ (ps : List DrivePlace). AreAllLeftOutTold g.T.Messages.tells ps c.args.watcher.now c.tell_left_out.new.messages) c.as_slice-2.ensures.value c.tell_left_out.ensures in
    let acts : ReadActs _ = record {
      does = g.F.Store.does;
      sees_to = g.F.CommandFiles.sees_to;
      tells_folder = g.F.CommandFiles.tells_folder;
      lists = g.F.CommandFiles.lists;
      unlists = g.F.CommandFiles.unlists;
      told_left_out = λ ps. HasToldLeftOut g.T.Messages.tells c.args.watcher.now ps;
    } in
    let prepared : IsPlayPrepared acts task places old c.see_to.new.self = record { found = found; sees = seen; told = (c.tell_left_out.new.messages, told) } in
    let given = program_given c.in_ok-start.start in
    let started = subst (λ (ps : List DrivePlace). IsStartRead g.F.Store.does task ps c.in_ok-tail.tail c.see_to.new.self c.read_start.new.files given) c.as_slice-3.ensures.value
    c.in_ok-start.ensures.read in
    rw (p.1, p.2) (NoKeys places c.see_to.new.self c.read_start.new.files c.in_ok-tail.tail given prepared started c.in_err-cues.ensures.refusal
    (record { unread = refl; unwritten = refl; unrecorded = refl }))

pub returns-in_err-starts-clause-refusal : goal.returns-in_err-starts-clause-refusal
returns-in_err-starts-clause-refusal g c =
    let p = err_from_is_err_and c.from_residual-in_err-starts.result c.from_residual-in_err-starts.ensures.1 in
    let task = c.args.task.now in
    let old = c.args.files.now in
    let places = c.in_ok-places.places.items in
    let found = subst (λ ns. ArePlacesFound g.F.CommandFiles.tells_folder g.F.CommandFiles.lists old (map (λ n. n.now) ns) places) c.deref.ensures.value c.in_ok-places.ensures.found in
    let seen = subst (λ (ps : List DrivePlace). g.F.CommandFiles.sees_to old (plan_of_play task ps) None c.see_to.new.self) c.as_slice.ensures.value
    (subst (λ (p : Plan). g.F.CommandFiles.sees_to old p None c.see_to.new.self) c.in_ok-plan.ensures c.in_ok-see_to.ensures.seen) in
    let told = subst (λ (ps : List DrivePlace). AreAllLeftOutTold g.T.Messages.tells ps c.args.watcher.now c.tell_left_out.new.messages) c.as_slice-2.ensures.value c.tell_left_out.ensures in
    let acts : ReadActs _ = record {
      does = g.F.Store.does;
      sees_to = g.F.CommandFiles.sees_to;
      tells_folder = g.F.CommandFiles.tells_folder;
      lists = g.F.CommandFiles.lists;
      unlists = g.F.CommandFiles.unlists;
      told_left_out = λ ps. HasToldLeftOut g.T.Messages.tells c.args.watcher.now ps;
    } in
    let prepared : IsPlayPrepared acts task places old c.see_to.new.self = record { found = found; sees = seen; told = (c.tell_left_out.new.messages, told) } in
    let given = program_given c.in_ok-start.start in
    let started = subst (λ (ps : List DrivePlace). IsStartRead g.F.Store.does task ps c.in_ok-tail.tail c.see_to.new.self c.read_start.new.files given) c.as_slice-3.ensures.value
    c.in_ok-start.ensures.read in
    let said = c.in_ok-cues.cues.items in
    let reads : IsPlayRead acts task places old c.read_keys.new.files given said = record {
      seen = c.see_to.new.self;
      started = c.read_start.new.files;
      tail = c.in_ok-tail.tail;
      tail_of = c.in_ok-tail.ensures.tail;
      prepared = prepared;
      start = started;
      keys = c.in_ok-cues.ensures.read;
    } in
    rw (p.1, p.2) (NoRoom places given said reads (search rules) (record { unread = refl; unwritten = refl; unrecorded = refl }))

pub returns-in_err-play-clause-refusal : goal.returns-in_err-play-clause-refusal
returns-in_err-play-clause-refusal g c =
    let p = err_from_is_err_and c.from_residual-in_err-play.result c.from_residual-in_err-play.ensures.1 in
    let task = c.args.task.now in
    let old = c.args.files.now in
    let places = c.in_ok-places.places.items in
    let found = subst (λ ns. ArePlacesFound g.F.CommandFiles.tells_folder g.F.CommandFiles.lists old (map (λ n. n.now) ns) places) c.deref.ensures.value c.in_ok-places.ensures.found in
    let seen = subst (λ (ps : List DrivePlace). g.F.CommandFiles.sees_to old (plan_of_play task ps) None c.see_to.new.self) c.as_slice.ensures.value
    (subst (λ (p : Plan). g.F.CommandFiles.sees_to old p None c.see_to.new.self) c.in_ok-plan.ensures c.in_ok-see_to.ensures.seen) in
    let told = subst (λ (ps : List DrivePlace). AreAllLeftOutTold g.T.Messages.tells ps c.args.watcher.now c.tell_left_out.new.messages) c.as_slice-2.ensures.value c.tell_left_out.ensures in
    let acts : ReadActs _ = record {
      does = g.F.Store.does;
      sees_to = g.F.CommandFiles.sees_to;
      tells_folder = g.F.CommandFiles.tells_folder;
      lists = g.F.CommandFiles.lists;
      unlists = g.F.CommandFiles.unlists;
      told_left_out = λ ps. HasToldLeftOut g.T.Messages.tells c.args.watcher.now ps;
    } in
    let prepared : IsPlayPrepared acts task places old c.see_to.new.self = record { found = found; sees = seen; told = (c.tell_left_out.new.messages, told) } in
    let given = program_given c.in_ok-start.start in
    let started = subst (λ (ps : List DrivePlace). IsStartRead g.F.Store.does task ps c.in_ok-tail.tail c.see_to.new.self c.read_start.new.files given) c.as_slice-3.ensures.value
    c.in_ok-start.ensures.read in
    let said = c.in_ok-cues.cues.items in
    let reads : IsPlayRead acts task places old c.read_keys.new.files given said = record {
      seen = c.see_to.new.self;
      started = c.read_start.new.files;
      tail = c.in_ok-tail.tail;
      tail_of = c.in_ok-tail.ensures.tail;
      prepared = prepared;
      start = started;
      keys = c.in_ok-cues.ensures.read;
    } in
    let source = c.source_of-source.result in
    let source_is = subst (λ (cs : List Cue). source_of task cs source) c.as_slice-4.ensures.value c.source_of-source.ensures in
    let io = play_streams (g.P.Typist.typing c.args.typist.now) (g.P.Typist.typing c.run_program.new.typist)
    (output_state (g.W.Write.contents c.args.out.now) (g.L.Write.contents c.args.list.now)) (output_state (g.W.Write.contents c.run_program.new.out) (g.L.Write.contents c.run_program.new.list))
    (g.R.Write.contents c.args.record.now) (g.R.Write.contents c.run_program.new.record) in
    rw (p.1, p.2) (NotPlayed places given said source reads source_is
    (subst (λ (n : ℕ). IsProgramPlayRefusal (is_some task.save) source given n io c.in_err-play.field-0.0) (c.steps_asked.ensures ∙ ap (steps_asked task) c.as_slice-6.ensures.value)
    (subst (λ (b : Bool). IsProgramPlayRefusal b source given c.steps_asked.result io c.in_err-play.field-0.0) c.in_ok-start.ensures.saves c.in_err-play.ensures.refusal)))

pub returns-clause-played : goal.returns-clause-played
returns-clause-played g c =
    let task = c.args.task.now in
    let old = c.args.files.now in
    let places = c.in_ok-places.places.items in
    let found = subst (λ ns. ArePlacesFound g.F.CommandFiles.tells_folder g.F.CommandFiles.lists old (map (λ n. n.now) ns) places) c.deref.ensures.value c.in_ok-places.ensures.found in
    let seen = subst (λ (ps : List DrivePlace). g.F.CommandFiles.sees_to old (plan_of_play task ps) None c.see_to.new.self) c.as_slice.ensures.value
    (subst (λ (p : Plan). g.F.CommandFiles.sees_to old p None c.see_to.new.self) c.in_ok-plan.ensures c.in_ok-see_to.ensures.seen) in
    let told = subst (λ (ps : List DrivePlace). AreAllLeftOutTold g.T.Messages.tells ps c.args.watcher.now c.tell_left_out.new.messages) c.as_slice-2.ensures.value c.tell_left_out.ensures in
    let acts : ReadActs _ = record {
      does = g.F.Store.does;
      sees_to = g.F.CommandFiles.sees_to;
      tells_folder = g.F.CommandFiles.tells_folder;
      lists = g.F.CommandFiles.lists;
      unlists = g.F.CommandFiles.unlists;
      told_left_out = λ ps. HasToldLeftOut g.T.Messages.tells c.args.watcher.now ps;
    } in
    let prepared : IsPlayPrepared acts task places old c.see_to.new.self = record { found = found; sees = seen; told = (c.tell_left_out.new.messages, told) } in
    let given = program_given c.in_ok-start.start in
    let started = subst (λ (ps : List DrivePlace). IsStartRead g.F.Store.does task ps c.in_ok-tail.tail c.see_to.new.self c.read_start.new.files given) c.as_slice-3.ensures.value
    c.in_ok-start.ensures.read in
    let said = c.in_ok-cues.cues.items in
    let reads : IsPlayRead acts task places old c.read_keys.new.files given said = record {
      seen = c.see_to.new.self;
      started = c.read_start.new.files;
      tail = c.in_ok-tail.tail;
      tail_of = c.in_ok-tail.ensures.tail;
      prepared = prepared;
      start = started;
      keys = c.in_ok-cues.ensures.read;
    } in
    let source = c.source_of-source.result in
    let source_is = subst (λ (cs : List Cue). source_of task cs source) c.as_slice-4.ensures.value c.source_of-source.ensures in
    let io = play_streams (g.P.Typist.typing c.args.typist.now) (g.P.Typist.typing c.run_program.new.typist)
    (output_state (g.W.Write.contents c.args.out.now) (g.L.Write.contents c.args.list.now)) (output_state (g.W.Write.contents c.run_program.new.out) (g.L.Write.contents c.run_program.new.list))
    (g.R.Write.contents c.args.record.now) (g.R.Write.contents c.run_program.new.record) in
    record {
      played = record {
        places = places;
        g = given;
        said = said;
        reads = reads;
        source = source;
        source_is = source_is;
        played = subst (λ (n : ℕ). IsPlayedBy source (system_disk given) (machine_of given) n c.in_ok-play.play io) (c.steps_asked.ensures ∙ ap (steps_asked task) c.as_slice-6.ensures.value)
            c.in_ok-play.ensures.played;
        saves = subst (λ (b : Bool). HasSaved b (system_disk given) (machine_of given) c.in_ok-play.play) c.in_ok-start.ensures.saves c.in_ok-play.ensures.saved;
      };
      starts = c.in_ok-starts.ensures ∙ (λ i. folder_starts_of (map (λ n. n.now) (c.deref-2.ensures.value i)) (c.as_slice-5.ensures.value i));
    }
