use Rattle.std.proofs.Common.{◌∙◌, Bool, List, ap, inr, map, refl, rules, subst, sym, ℕ}
use Rattle.std.specs.Prelude.{Option, [], is_some}
use Rattle.std.proofs.lemmas.Result.{err_from_is_err_and}
use Rattle.cpm_disk_commands.specs.declared.damage.NamedFile.{NamedFile}
use Rattle.cpm_geom.specs.Disk.{Disk}
use Rattle.cpm_play.specs.Output.{output_state}
use Rattle.cpm_run.specs.Settled.{play_streams}
use Rattle.cpm_store.specs.Files.{StoreName}
use Rattle.cpm_commands.specs.Drives.{AreToldBy, HasToldLeftOut}
use Rattle.cpm_commands.specs.Left.{IsPlayLeft, IsPlayUnleft, WriteActs}
use Rattle.cpm_commands.specs.ListText.{kept_if}
use Rattle.cpm_commands.specs.Messages.{IsEndTold}
use Rattle.cpm_commands.specs.OutFolder.{IsUnwrittenTold, folder_view, unwritten_view}
use Rattle.cpm_commands.specs.Play.{HasPlayedWith, IsPlayStopped, ReadActs, texts_left}
use Rattle.cpm_commands.specs.Play.IsPlayStopped.{NotBegun}
use Rattle.cpm_commands.specs.Play.IsPlayRefused.{KeptBack, NotLeft, NotPlayed, NotRecorded}
use Rattle.cpm_commands.proofs.play.do_play_task.Goals as goal

pub returns-in_err-room-clause-refusal : goal.returns-in_err-room-clause-refusal
returns-in_err-room-clause-refusal g c =
    let p = err_from_is_err_and c.from_residual.result c.from_residual.ensures.1 in
    rw (p.1, p.2) (NotPlayed (kept_if (is_some c.args.task.now.list) []) (NotBegun (inr (search rules)) refl (record { unread = refl; unwritten = refl; unrecorded = refl })))

pub returns-in_err-play-clause-refusal : goal.returns-in_err-play-clause-refusal
returns-in_err-play-clause-refusal g c =
    let p = err_from_is_err_and c.from_residual-in_err-play.result c.from_residual-in_err-play.ensures.1 in
    let text = c.play_machine.new.list in
    let printed = kept_if text.is_kept text.bytes.items in
    let begun = c.new-list.ensures ∙ ap (λ (b : Bool). kept_if b []) c.is_some.ensures in
    let now = λ (b : Option (List ℕ)). play_streams (g.P.Typist.typing c.args.typist.now) (g.P.Typist.typing c.play_machine.new.typist)
    (output_state (g.W.Write.contents c.args.out.now) b) (output_state (g.W.Write.contents c.play_machine.new.out) printed) (g.R.Write.contents c.args.record.now)
    (g.R.Write.contents c.play_machine.new.record) in
    let acts : ReadActs _ = record {
      does = g.F.Store.does;
      sees_to = g.F.CommandFiles.sees_to;
      tells_folder = g.F.CommandFiles.tells_folder;
      lists = g.F.CommandFiles.lists;
      unlists = g.F.CommandFiles.unlists;
      told_left_out = λ places. HasToldLeftOut g.T.Messages.tells c.args.watcher.now places;
    } in
    let stopped = subst (λ (b : Option (List ℕ)). IsPlayStopped acts c.args.task.now (now b) c.args.files.now c.play_machine.new.files c.in_err-play.field-0.0)
    begun c.in_err-play.ensures.refusal in
    rw (p.1, p.2) (NotPlayed printed stopped)

pub returns-in_err-end_record-clause-refusal : goal.returns-in_err-end_record-clause-refusal
returns-in_err-end_record-clause-refusal g c =
    let p = err_from_is_err_and c.from_residual-in_err-end_record.result c.from_residual-in_err-end_record.ensures.1 in
    let text = c.play_machine.new.list in
    let printed = kept_if text.is_kept text.bytes.items in
    let begun = c.new-list.ensures ∙ ap (λ (b : Bool). kept_if b []) c.is_some.ensures in
    let now = λ (b r : Option (List ℕ)). play_streams (g.P.Typist.typing c.args.typist.now) (g.P.Typist.typing c.play_machine.new.typist)
    (output_state (g.W.Write.contents c.args.out.now) b) (output_state (g.W.Write.contents c.play_machine.new.out) printed) (g.R.Write.contents c.args.record.now) r in
    let machine = c.in_ok-play.field-0 in
    let acts : ReadActs _ = record {
      does = g.F.Store.does;
      sees_to = g.F.CommandFiles.sees_to;
      tells_folder = g.F.CommandFiles.tells_folder;
      lists = g.F.CommandFiles.lists;
      unlists = g.F.CommandFiles.unlists;
      told_left_out = λ places. HasToldLeftOut g.T.Messages.tells c.args.watcher.now places;
    } in
    let got = subst (λ (b : Option (List ℕ)). HasPlayedWith acts c.args.task.now (now b (g.R.Write.contents c.play_machine.new.record)) c.args.files.now c.play_machine.new.files machine)
    begun c.in_ok-play.ensures.played in
    let with_it = subst (λ (r : Option (List ℕ)). HasPlayedWith acts c.args.task.now (now (kept_if (is_some c.args.task.now.list) []) r) c.args.files.now c.play_machine.new.files machine)
    (sym c.in_err-end_record.ensures.same) got in
    rw (p.1, p.2) (NotRecorded c.in_ok-play.field-0.play printed with_it.played c.in_err-end_record.ensures.refused c.in_err-end_record.ensures.refusal)

pub returns-then-is_kept_back-clause-refusal : goal.returns-then-is_kept_back-clause-refusal
returns-then-is_kept_back-clause-refusal g c =
    let text = c.play_machine.new.list in
    let printed = kept_if text.is_kept text.bytes.items in
    let begun = c.new-list.ensures ∙ ap (λ (b : Bool). kept_if b []) c.is_some.ensures in
    let now = λ (b r : Option (List ℕ)). play_streams (g.P.Typist.typing c.args.typist.now) (g.P.Typist.typing c.play_machine.new.typist)
    (output_state (g.W.Write.contents c.args.out.now) b) (output_state (g.W.Write.contents c.play_machine.new.out) printed) (g.R.Write.contents c.args.record.now) r in
    let machine = c.in_ok-play.field-0 in
    let acts : ReadActs _ = record {
      does = g.F.Store.does;
      sees_to = g.F.CommandFiles.sees_to;
      tells_folder = g.F.CommandFiles.tells_folder;
      lists = g.F.CommandFiles.lists;
      unlists = g.F.CommandFiles.unlists;
      told_left_out = λ places. HasToldLeftOut g.T.Messages.tells c.args.watcher.now places;
    } in
    let got = subst (λ (b : Option (List ℕ)). HasPlayedWith acts c.args.task.now (now b (g.R.Write.contents c.play_machine.new.record)) c.args.files.now c.play_machine.new.files machine)
    begun c.in_ok-play.ensures.played in
    let with_it = subst (λ (r : Option (List ℕ)). HasPlayedWith acts c.args.task.now (now (kept_if (is_some c.args.task.now.list) []) r) c.args.files.now c.play_machine.new.files machine)
    (sym c.in_ok-end_record.ensures.same) got in
    KeptBack c.in_ok-play.field-0.play printed with_it.played c.in_ok-end_record.ensures.ended (sym c.is_kept_back.ensures ∙ c.if-is_kept_back.true) refl

pub returns-in_err-unwritten-clause-refusal : goal.returns-in_err-unwritten-clause-refusal
returns-in_err-unwritten-clause-refusal g c =
    let p = err_from_is_err_and c.from_residual-in_err-unwritten.result c.from_residual-in_err-unwritten.ensures.1 in
    let text = c.play_machine.new.list in
    let printed = kept_if text.is_kept text.bytes.items in
    let begun = c.new-list.ensures ∙ ap (λ (b : Bool). kept_if b []) c.is_some.ensures in
    let now = λ (b r : Option (List ℕ)). play_streams (g.P.Typist.typing c.args.typist.now) (g.P.Typist.typing c.play_machine.new.typist)
    (output_state (g.W.Write.contents c.args.out.now) b) (output_state (g.W.Write.contents c.play_machine.new.out) printed) (g.R.Write.contents c.args.record.now) r in
    let machine = c.in_ok-play.field-0 in
    let acts : ReadActs _ = record {
      does = g.F.Store.does;
      sees_to = g.F.CommandFiles.sees_to;
      tells_folder = g.F.CommandFiles.tells_folder;
      lists = g.F.CommandFiles.lists;
      unlists = g.F.CommandFiles.unlists;
      told_left_out = λ places. HasToldLeftOut g.T.Messages.tells c.args.watcher.now places;
    } in
    let got = subst (λ (b : Option (List ℕ)). HasPlayedWith acts c.args.task.now (now b (g.R.Write.contents c.play_machine.new.record)) c.args.files.now c.play_machine.new.files machine)
    begun c.in_ok-play.ensures.played in
    let with_it = subst (λ (r : Option (List ℕ)). HasPlayedWith acts c.args.task.now (now (kept_if (is_some c.args.task.now.list) []) r) c.args.files.now c.play_machine.new.files machine)
    (sym c.in_ok-end_record.ensures.same) got in
    let whole = sym c.is_kept_back.ensures ∙ c.if-is_kept_back.false in
    let starts = ap (map folder_view) c.as_slice.ensures.value ∙ with_it.starts in
    let writes : WriteActs _ = record { does = g.F.Store.does; sees_to = g.F.CommandFiles.sees_to; gives_names = g.F.CommandFiles.gives_names; lists = g.F.CommandFiles.lists; unlists = g.F.CommandFiles.unlists } in
    let unleft = subst (λ (ss : List (StoreName × Option Disk)). IsPlayUnleft writes c.args.task.now ss (texts_left printed c.in_ok-play.field-0.play) c.in_ok-play.field-0.play.drives c.play_machine.new.files c.write_left.new.files
    c.in_err-unwritten.field-0.0) starts
    (subst (λ (xs : Option (List ℕ)). IsPlayUnleft writes c.args.task.now (map folder_view c.as_slice.result.now) (texts_left xs c.in_ok-play.field-0.play) c.in_ok-play.field-0.play.drives
    c.play_machine.new.files c.write_left.new.files c.in_err-unwritten.field-0.0) c.into_kept.ensures c.in_err-unwritten.ensures.refusal) in
    rw (p.1, p.2) (NotLeft c.in_ok-play.field-0.play printed c.play_machine.new.files with_it.played c.in_ok-end_record.ensures.ended whole unleft)

pub returns-clause-ran : goal.returns-clause-ran
returns-clause-ran g c =
    let text = c.play_machine.new.list in
    let printed = kept_if text.is_kept text.bytes.items in
    let begun = c.new-list.ensures ∙ ap (λ (b : Bool). kept_if b []) c.is_some.ensures in
    let now = λ (b r : Option (List ℕ)). play_streams (g.P.Typist.typing c.args.typist.now) (g.P.Typist.typing c.play_machine.new.typist)
    (output_state (g.W.Write.contents c.args.out.now) b) (output_state (g.W.Write.contents c.play_machine.new.out) printed) (g.R.Write.contents c.args.record.now) r in
    let machine = c.in_ok-play.field-0 in
    let acts : ReadActs _ = record {
      does = g.F.Store.does;
      sees_to = g.F.CommandFiles.sees_to;
      tells_folder = g.F.CommandFiles.tells_folder;
      lists = g.F.CommandFiles.lists;
      unlists = g.F.CommandFiles.unlists;
      told_left_out = λ places. HasToldLeftOut g.T.Messages.tells c.args.watcher.now places;
    } in
    let got = subst (λ (b : Option (List ℕ)). HasPlayedWith acts c.args.task.now (now b (g.R.Write.contents c.play_machine.new.record)) c.args.files.now c.play_machine.new.files machine)
    begun c.in_ok-play.ensures.played in
    let with_it = subst (λ (r : Option (List ℕ)). HasPlayedWith acts c.args.task.now (now (kept_if (is_some c.args.task.now.list) []) r) c.args.files.now c.play_machine.new.files machine)
    (sym c.in_ok-end_record.ensures.same) got in
    let whole = sym c.is_kept_back.ensures ∙ c.if-is_kept_back.false in
    let starts = ap (map folder_view) c.as_slice.ensures.value ∙ with_it.starts in
    let writes : WriteActs _ = record { does = g.F.Store.does; sees_to = g.F.CommandFiles.sees_to; gives_names = g.F.CommandFiles.gives_names; lists = g.F.CommandFiles.lists; unlists = g.F.CommandFiles.unlists } in
    let unwritten = map unwritten_view c.in_ok-unwritten.unwritten.items in
    let left = subst (λ (ss : List (StoreName × Option Disk)). IsPlayLeft writes c.args.task.now ss (texts_left printed c.in_ok-play.field-0.play) c.in_ok-play.field-0.play.drives c.play_machine.new.files c.write_left.new.files
    unwritten) starts
    (subst (λ (xs : Option (List ℕ)). IsPlayLeft writes c.args.task.now (map folder_view c.as_slice.result.now) (texts_left xs c.in_ok-play.field-0.play) c.in_ok-play.field-0.play.drives
    c.play_machine.new.files c.write_left.new.files unwritten) c.into_kept.ensures c.in_ok-unwritten.ensures.left) in
    record {
      read = c.play_machine.new.files;
      play = c.in_ok-play.field-0.play;
      printed = printed;
      dropped = c.has_dropped-dropped.result;
      unwritten = unwritten;
      played = with_it.played;
      drops = c.has_dropped-dropped.ensures;
      recorded = c.in_ok-end_record.ensures.ended;
      whole = whole;
      left = left;
      tells = record {
        before = c.play_machine.new.watcher;
        between = c.tell_unwritten.new.messages;
        unwritten_told = subst (λ (us : List (List ℕ × NamedFile)). AreToldBy (IsUnwrittenTold g.T.Messages.tells) us c.play_machine.new.watcher c.tell_unwritten.new.messages)
            (ap (map unwritten_view) c.as_slice-2.ensures.value) c.tell_unwritten.ensures;
        told = subst (λ (w : Bool). IsEndTold g.T.Messages.tells g.T.Messages.is_read c.args.task.now c.in_ok-play.field-0.play.ending w c.in_ok-play.field-0.play.end
            c.has_dropped-dropped.result c.tell_unwritten.new.messages c.tell_end.new.messages) c.is_idle.ensures c.tell_end.ensures;
      };
      gives = c.status_of.ensures;
    }
