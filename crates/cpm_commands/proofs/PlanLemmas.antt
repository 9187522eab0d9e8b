-- What is read and written was planned.
use Rattle.std.specs.Prelude.{⊤, Vec, slice_get, slice_index_or}
use Rattle.std.specs.List.{concat, flat_map, zip}
use Rattle.std.proofs.Common.{◌≡◌, ◌∙◌, ◌&&◌, ◌==◌, ℕ, zero, suc, Bool, true, false, if◌then◌else◌, List, [], ◌∷◌, ◌++◌, ap, ap₂, arith, drop, get_or, length, map, refl, string_bytes, subst, sym}
use Rattle.std.proofs.Common.{Option, is_some, Some, None, option_map, String, Global, All}
use Rattle.std.proofs.lemmas.List.Elements.{All-append, All-cons, All-contains_itself, All-head, All-map, All-nil, All-tail}
use Rattle.cpm_batch.specs.Inputs.{SessionInput, known_of, own_count}
use Rattle.cpm_batch.specs.Sources.{NoSource, RecordingFile, ScriptFile, SourceOfKeys, key_file, key_source}
use Rattle.cpm_batch.specs.declared.source.Replay.{Replay}
use Rattle.cpm_batch.specs.Outputs.{SessionOutput, files_of, files_of_all, image_at, image_outputs, named_bytes, named_image, named_images, named_saving}
use Rattle.cpm_batch.specs.Reads.{AreImagesRead, AreInputsRead, AreRead, IsForkedSaidRead, IsInputReadOf, IsSaidRead}
use Rattle.cpm_checkpoint.specs.declared.checkpoint.Checkpoint.{Checkpoint}
use Rattle.cpm_command_line.specs.declared.task.RunTask.{RunTask}
use Rattle.cpm_config.specs.Files.{OutputName, all_named, all_named_if_any, named_if_any}
use Rattle.cpm_config.specs.Rules.{texts_of_strings}
use Rattle.cpm_config.specs.declared.config.Config.{Config}
use Rattle.cpm_config.specs.declared.config.Origin.{Origin}
use Rattle.cpm_config.specs.declared.config.Origin.TheVariants.{Opened, Forked, Restored}
use Rattle.cpm_config.specs.declared.config.SessionConfig.{SessionConfig}
use Rattle.cpm_config.specs.declared.field.Field.{Field}
use Rattle.cpm_config.specs.declared.field.Field.TheVariants.{List as ListKey, Out, Save}
use Rattle.cpm_command_line.specs.declared.task.PlayTask.{PlayTask}
use Rattle.cpm_disk_commands.specs.declared.damage.NamedFile.{NamedFile}
use Rattle.cpm_geom.specs.Disk.{Disk}
use Rattle.cpm_host.specs.declared.error.HostError.{HostError}
use Rattle.cpm_machine.specs.MachineState.{MachineState}
use Rattle.cpm_machine.specs.Saving.{Saving}
use Rattle.cpm_run.proofs.RunLemmas.{settled_sessions}
use Rattle.cpm_run.proofs.RestLemmas.{same-sessions}
use Rattle.cpm_run.specs.Rest.{RunStanding, SessionStanding, output_behind, outputs_behind, rest_of, stands_all, standing_at}
use Rattle.cpm_run.specs.Run.{StoreActs, files_from, files_left, left_of, outputs_by, own_keys, record_of, record_outputs, run_of, session_output}
use Rattle.cpm_run.specs.Settled.{SettledSession, Streams, streams}
use Rattle.cpm_run.specs.declared.options.RecordFile.{RecordFile}
use Rattle.cpm_run.specs.declared.report.Report.{Report}
use Rattle.cpm_script.specs.Cues.{CueText}
use Rattle.cpm_script.specs.Recording.{recorded}
use Rattle.cpm_script.specs.declared.cue.Cue.{Cue}
use Rattle.cpm_store.proofs.LogLemmas.{ran_more, ran_one}
use Rattle.cpm_store.specs.Files.{StoreName}
use Rattle.cpm_store.specs.Log.{StoreAccess, Gave, LogLeadsBy, Wrote, writes_of}
use Rattle.cpm_store.specs.Writes.{NamedBytes}
use Rattle.cpm_commands.specs.Drives.{AreDrivesRead, AreReadBy, IsFileRead, IsPlaceRead, files_given, inputs_of_place, inputs_of_places}
use Rattle.cpm_commands.specs.Left.{IsLeftFor, Texts, drive_outputs, has_no_folder, list_of_play, named_text, outputs_with, outs_of, plan_of_left, record_of_play, save_of_play}
use Rattle.cpm_commands.specs.Play.{AreCuesRead, AreKeysReadBy, AreRecordedRead, IsProgramRead, IsSavedRead, IsSystemRead, ReadActs, plan_of_play, task_starts, texts_left, write_acts}
use Rattle.cpm_commands.specs.Laws.{FollowsPlans, IsAsPlanned, IsPlanned, ProgramsFollowPlans, RunsFollowPlans}
use Rattle.cpm_commands.specs.Plan.{Plan, PlannedName, all_planned, planned_if_any}
use Rattle.cpm_play.specs.declared.live.PlayEnd.{PlayEnd}
use Rattle.cpm_run.specs.declared.ending.Ending.{Ending}
use Rattle.cpm_run.specs.declared.report.SessionReport.{SessionReport}
use Rattle.cpm_commands.specs.Run.{HasRunAll, beginning_named, plan_by, planned_file, record_mark, record_marks, role_of, session_inputs, session_outputs}
use Rattle.cpm_commands.specs.declared.drives.DrivePlace.{DrivePlace}
use Rattle.cpm_commands.specs.declared.drives.DrivePlace.TheVariants as from
use Rattle.cpm_commands.specs.declared.drives.PlacedFile.{PlacedFile}
use Rattle.cpm_disk_commands.specs.declared.folder.HostFile.{HostFile}
use Rattle.cpm_commands.specs.declared.plan.FileRole.{FileRole}
use Rattle.cpm_commands.specs.declared.plan.FileRole.TheVariants.{Folder, Image, Plain, Saving as SavingFile, Script}

-- ---- whose files are left

whose-behind : (s : Option SessionStanding) (o : SessionOutput) → (output_behind s o).session ≡ o.session
whose-behind None o = refl
whose-behind (Some s) o = refl

whose-all_behind : (ss : RunStanding) (os : List SessionOutput) → map (λ (o : SessionOutput). o.session) (outputs_behind ss os) ≡ map (λ (o : SessionOutput). o.session) os
whose-all_behind ss [] = refl
whose-all_behind ss (o ∷ os) = ap₂ (λ (x : SessionConfig) (xs : List SessionConfig). x ∷ xs) (whose-behind (standing_at ss 0) o) (whose-all_behind (drop 1 ss) os)

whose-left : (system : Disk) (f left : SettledSession → MachineState) (ss : List SettledSession)
    → map (λ (o : SessionOutput). o.session) (map (λ (s : SettledSession). session_output system s.session (f s) (left s)) ss) ≡ map (λ (s : SettledSession). s.session) ss
whose-left system f left [] = refl
whose-left system f left (s ∷ ss) = ap (λ (xs : List SessionConfig). s.session ∷ xs) (whose-left system f left ss)

whose_from : (system : Disk) (ss : List SettledSession) (from : Option RunStanding)
    → map (λ (o : SessionOutput). o.session) (files_from system ss from) ≡ map (λ (s : SettledSession). s.session) ss
whose_from system ss None = whose-left system (run_of system ss) (left_of system ss) ss
whose_from system ss (Some s) =
    let rest = rest_of ss s in
    whose-all_behind (stands_all s ss s) (files_left system rest) ∙ whose-left system (run_of system rest) (left_of system rest) rest ∙ same-sessions s ss s

-- ---- names that are such

module _ (P : StoreName → Type 0) where
  abbrev pub AreSuch : List PlannedName → Type 0
  AreSuch [] = ⊤
  AreSuch (p ∷ ps) = P p.name × AreSuch ps

  pub such_left : (xs ys : List PlannedName) → AreSuch (xs ++ ys) → AreSuch xs
  such_left [] ys h = tt
  such_left (x ∷ xs) ys h = (h.0, such_left xs ys h.1)

  pub such_right : (xs ys : List PlannedName) → AreSuch (xs ++ ys) → AreSuch ys
  such_right [] ys h = h
  such_right (x ∷ xs) ys h = such_right xs ys h.1

  pub such_both : (xs ys : List PlannedName) → AreSuch xs → AreSuch ys → AreSuch (xs ++ ys)
  such_both [] ys h k = k
  such_both (x ∷ xs) ys h k = (h.0, such_both xs ys h.1 k)

  pub such_names : (ps : List PlannedName) → All P (map (λ p. p.name) ps) → AreSuch ps
  such_names [] h = tt
  such_names (p ∷ ps) h = (All-head P p.name (map (λ q. q.name) ps) h, such_names ps (All-tail P p.name (map (λ q. q.name) ps) h))

  -- ---- files that are written

  abbrev pub AreSuchFiles : List NamedBytes → Type 0
  AreSuchFiles qs = All (λ q. P q.0) qs

  files_joined : (xs ys : List NamedBytes) → AreSuchFiles xs → AreSuchFiles ys → AreSuchFiles (xs ++ ys)
  files_joined xs ys = All-append (λ q. P q.0) xs ys

  no_files : AreSuchFiles []
  no_files = All-nil (λ (q : NamedBytes). P q.0)

  file_more : (name : StoreName) (bytes : List ℕ) (qs : List NamedBytes) → P name → AreSuchFiles qs → AreSuchFiles ((name, bytes) ∷ qs)
  file_more name bytes qs such h = All-cons (λ q. P q.0) (name, bytes) qs such h

  bytes_such : (role : FileRole) (name : Option StoreName) (bytes : List ℕ) → AreSuch (planned_if_any role name) → AreSuchFiles (named_bytes name bytes)
  bytes_such role None bytes such = no_files
  bytes_such role (Some name) bytes such = file_more name bytes [] such.0 no_files

  image_such : (role : FileRole) (name : Option StoreName) (d : Option Disk) → AreSuch (planned_if_any role name) → AreSuchFiles (named_image name d)
  image_such role name None such = no_files
  image_such role name (Some d) such = bytes_such role name (concat d.sectors) such

  name_such : (role : FileRole) (names : List (String Global)) (place : ℕ) → AreSuch (all_planned role (map string_bytes names))
      → AreSuch (planned_if_any role (option_map string_bytes (slice_get names place)))
  name_such role [] place such = tt
  name_such role (name ∷ names) zero such = (such.0, tt)
  name_such role (name ∷ names) (suc place) such = name_such role names place such.1

  image_at_such : (role : FileRole) (names : List (String Global)) (drives : List (Option Disk)) (place : ℕ) → AreSuch (all_planned role (map string_bytes names))
      → AreSuchFiles (image_at names drives place)
  unfolding image_at
  image_at_such role names drives place such =
      image_such role (option_map string_bytes (slice_get names place)) (slice_index_or drives place None) (name_such role names place such)

  -- the files of a session, by the list that names them
  abbrev AreSuchNamed : List OutputName → Type 0
  AreSuchNamed fs = AreSuch (map planned_file fs)

  named_apart : (fs gs : List OutputName) → AreSuchNamed (fs ++ gs) → AreSuchNamed fs × AreSuchNamed gs
  named_apart [] gs such = (tt, such)
  named_apart (f ∷ fs) gs such = let rest = named_apart fs gs such.1 in ((such.0, rest.0), rest.1)

  name_planned : (key : Field) (name : Option StoreName) → AreSuchNamed (named_if_any key name) → AreSuch (planned_if_any (role_of key) name)
  name_planned key None such = tt
  name_planned key (Some name) such = (such.0, tt)

  names_planned : (key : Field) (names : List StoreName) → AreSuchNamed (all_named key names) → AreSuch (all_planned (role_of key) names)
  names_planned key [] such = tt
  names_planned key (name ∷ names) such = (such.0, names_planned key names such.1)

  images_such : (names : Option (Vec (String Global) Global)) (drives : List (Option Disk)) → AreSuchNamed (all_named_if_any Out (option_map texts_of_strings names))
      → AreSuchFiles (named_images names drives)
  unfolding image_outputs
  images_such None drives such = no_files
  images_such (Some names) drives such =
      let at = λ (place : ℕ). image_at_such Image names.items drives place (names_planned Out (map string_bytes names.items) such) in
      files_joined (image_at names.items drives 0) _ (at 0) (files_joined (image_at names.items drives 1) _ (at 1) (files_joined (image_at names.items drives 2) _ (at 2) (at 3)))

  saving_such : (role : FileRole) (name : Option StoreName) (saved : Option (List ℕ)) → AreSuch (planned_if_any role name) → AreSuchFiles (named_saving name saved)
  saving_such role name None such = no_files
  saving_such role name (Some bytes) such = bytes_such role name bytes such

  files_such : (o : SessionOutput) → AreSuch (session_outputs o.session) → AreSuchFiles (files_of o)
  files_such o such =
      let s = o.session in
      let list_name = option_map string_bytes s.list in
      let save_name = option_map string_bytes s.save in
      let imaged = all_named_if_any Out (option_map texts_of_strings s.out) in
      let saved = named_if_any Save save_name in
      let listed = named_apart (named_if_any ListKey list_name) (imaged ++ saved) such.1 in
      let behind = named_apart imaged saved listed.1 in
      file_more (string_bytes s.console) o.console _ such.0
      (files_joined (named_bytes list_name o.list) (named_images s.out o.drives ++ named_saving save_name o.saved)
      (bytes_such Plain list_name o.list (name_planned ListKey list_name listed.0))
      (files_joined (named_images s.out o.drives) (named_saving save_name o.saved) (images_such s.out o.drives behind.0)
      (saving_such SavingFile save_name o.saved (name_planned Save save_name behind.1))))

  -- those that sessions leave, by whose they are
  outputs_such : (os : List SessionOutput) → AreSuch (flat_map session_outputs (map (λ (o : SessionOutput). o.session) os)) → AreSuchFiles (files_of_all os)
  outputs_such [] such = no_files
  outputs_such (o ∷ os) such =
      let rest = flat_map session_outputs (map (λ (x : SessionOutput). x.session) os) in
      files_joined (files_of o) _ (files_such o (such_left (session_outputs o.session) rest such)) (outputs_such os (such_right (session_outputs o.session) rest such))

  pub from_such : (system : Disk) (ss : List SettledSession) (from : Option RunStanding) → AreSuch (flat_map session_outputs (map (λ (s : SettledSession). s.session) ss))
      → AreSuchFiles (files_of_all (files_from system ss from))
  from_such system ss from such =
      outputs_such (files_from system ss from) (subst (λ (cs : List SessionConfig). AreSuch (flat_map session_outputs cs)) (sym (whose_from system ss from)) such)

  -- the records of their keys
  unless : (b : Bool) (q : NamedBytes) → P q.0 → AreSuchFiles (if b then [] else q ∷ [])
  unless true q such = no_files
  unless false q such = file_more q.0 q.1 [] such no_files

  pub records_such : (kept : Bool) (typed : Option StoreName) (rs : List RecordFile) (ss : List SettledSession) (sessions : List SessionConfig) (scripts : List (String Global))
      → map record_mark rs ≡ record_marks kept typed (zip sessions scripts) → AreSuch (all_planned Script (map string_bytes scripts)) → AreSuchFiles (record_outputs rs ss)
  records_such kept typed [] ss sessions scripts is such = no_files
  records_such kept typed (r ∷ rs) [] sessions scripts is such = no_files
  records_such kept typed (r ∷ rs) (s ∷ ss) [] scripts is such = absurd (omega (arith, ap length is))
  records_such kept typed (r ∷ rs) (s ∷ ss) (c ∷ sessions) [] is such = absurd (omega (arith, ap length is))
  records_such kept typed (r ∷ rs) (s ∷ ss) (c ∷ sessions) (t ∷ scripts) is such =
      let own = own_keys s in
      let name : r.name.now ≡ string_bytes t = ap (λ (ms : List (StoreName × Bool)). (get_or ms 0 ([], false)).0) is in
      files_joined (record_of r own) (record_outputs rs ss) (unless (r.needs_key && (length own == 0)) (r.name.now, recorded own) (subst P (sym name) such.0))
      (records_such kept typed rs ss sessions scripts (ap (drop 1) is) such.1)

  -- those of drives
  pub drives_such : (role : FileRole) (names : List StoreName) (drives : List (Option Disk)) → AreSuch (all_planned role names) → AreSuchFiles (drive_outputs names drives)
  drives_such role [] drives such = no_files
  drives_such role (name ∷ names) [] such = no_files
  drives_such role (name ∷ names) (d ∷ drives) such =
      files_joined (named_image (Some name) d) (drive_outputs names drives) (image_such role (Some name) d (such.0, tt)) (drives_such role names drives such.1)

  -- what was printed, or the machine
  pub text_such : (role : FileRole) (name : Option StoreName) (text : Option (List ℕ)) → AreSuch (planned_if_any role name) → AreSuchFiles (named_text name text)
  text_such role name None such = no_files
  text_such role name (Some bytes) such = bytes_such role name bytes such

-- what is planned is among what is planned
such_itself : (ps : List PlannedName) → AreSuch (IsPlanned ps) ps
such_itself ps = such_names (IsPlanned ps) ps (All-contains_itself (map (λ p. p.name) ps))

-- ---- what is read

module _ (plan : Plan) where
  abbrev AreInputs : List PlannedName → Type 0
  AreInputs ps = AreSuch (IsPlanned plan.inputs) ps

  joined : (log first rest : List StoreAccess) → log ≡ first ++ rest → All (IsAsPlanned plan) first → All (IsAsPlanned plan) rest → All (IsAsPlanned plan) log
  joined log first rest order f r = subst (All (IsAsPlanned plan)) (sym order) (All-append (IsAsPlanned plan) first rest f r)

  none_read : (log : List StoreAccess) → log ≡ [] → All (IsAsPlanned plan) log
  none_read log none = subst (All (IsAsPlanned plan)) (sym none) (All-nil (IsAsPlanned plan))

  one_read : (name : StoreName) (bytes : List ℕ) (log : List StoreAccess) → log ≡ Gave name bytes ∷ [] → IsPlanned plan.inputs name → All (IsAsPlanned plan) log
  one_read name bytes log calls such = subst (All (IsAsPlanned plan)) (sym calls) (All-cons (IsAsPlanned plan) (Gave name bytes) [] such (All-nil (IsAsPlanned plan)))

  images_read : (role : FileRole) (names : List (String Global)) (ds : List Disk) (log : List StoreAccess) → AreImagesRead names ds log
      → AreInputs (all_planned role (map string_bytes names)) → All (IsAsPlanned plan) log
  images_read role [] [] log h such = none_read log h
  images_read role [] (d ∷ ds) log h such = absurd h
  images_read role (name ∷ names) [] log h such = absurd h
  images_read role (name ∷ names) (d ∷ ds) log h such =
      joined log h.first h.rest h.order (one_read (string_bytes name) h.begins.bytes h.first h.begins.calls such.0) (images_read role names ds h.rest h.goes_on such.1)

  said_read : (role : FileRole) (keys : SourceOfKeys) (cues : List CueText) (log : List StoreAccess) → IsSaidRead keys cues log → AreInputs (planned_if_any role (key_file keys)) → All (IsAsPlanned plan) log
  said_read role NoSource cues log h such = none_read log h.1
  said_read role (ScriptFile name) cues log h such = one_read name h.text log h.calls such.0
  said_read role (RecordingFile name) cues log h such = one_read name h.text log h.calls such.0

  forked_read : (role : FileRole) (keys : SourceOfKeys) (at before : ℕ) (cues : List CueText) (log : List StoreAccess) → IsForkedSaidRead keys at before cues log
      → AreInputs (planned_if_any role (key_file keys)) → All (IsAsPlanned plan) log
  forked_read role NoSource at before cues log h such = none_read log h.1
  forked_read role (ScriptFile name) at before cues log h such = one_read name h.text log h.calls such.0
  forked_read role (RecordingFile name) at before cues log h such = one_read name h.text log h.calls such.0

  input_read : (replays : List Replay) (before : List SessionInput) (o : Origin) (i : SessionInput) (log : List StoreAccess) → IsInputReadOf replays before o i log
      → AreInputs (beginning_named o ++ planned_if_any Plain (key_file (key_source replays i.session))) → All (IsAsPlanned plan) log
  input_read replays before (Opened cpu quota drives) i log h such =
      let P = IsPlanned plan.inputs in
      let named = all_planned Image (map string_bytes drives.items) in
      let source = key_source replays i.session in
      let keys = planned_if_any Plain (key_file source) in
      joined log h.calls.first h.calls.rest h.calls.order (images_read Image drives.items h.drives h.calls.first h.calls.begins (such_left P named keys such))
      (said_read Plain source i.said h.calls.rest h.calls.goes_on (such_right P named keys such))
  input_read replays before (Forked parent at) i log h such =
      let own = own_count h.parent at in
      forked_read Plain (key_source replays i.session) own (known_of replays own h.parent) i.said log h.calls such
  input_read replays before (Restored saving) i log h such =
      joined log h.calls.first h.calls.rest h.calls.order (one_read (string_bytes saving) h.calls.begins.bytes h.calls.first h.calls.begins.calls such.0)
      (said_read Plain (key_source replays i.session) i.said h.calls.rest h.calls.goes_on such.1)

  inputs_read : (replays : List Replay) (before is : List SessionInput) (log : List StoreAccess) → AreInputsRead replays before is log
      → AreInputs (flat_map (session_inputs replays) (map (λ i. i.session) is)) → All (IsAsPlanned plan) log
  inputs_read replays before [] log h such = none_read log h
  inputs_read replays before (i ∷ is) log h such =
      let P = IsPlanned plan.inputs in
      let rest = flat_map (session_inputs replays) (map (λ (x : SessionInput). x.session) is) in
      joined log h.first h.rest h.order (input_read replays before i.session.origin i h.first h.begins (such_left P (session_inputs replays i.session) rest such))
      (inputs_read replays (before ++ i ∷ []) is h.rest h.goes_on (such_right P (session_inputs replays i.session) rest such))

  pub all_read : (config : Config) (replays : List Replay) (system : Disk) (is : List SessionInput) (log : List StoreAccess) → AreRead config replays system is log
      → IsPlanned plan.inputs (string_bytes config.system) → AreInputs (flat_map (session_inputs replays) config.sessions.items) → All (IsAsPlanned plan) log
  all_read config replays system is log h drive such =
      joined log h.calls.first h.calls.rest h.calls.order (one_read (string_bytes config.system) h.calls.begins.bytes h.calls.first h.calls.begins.calls drive)
      (inputs_read replays [] is h.calls.rest h.calls.goes_on (subst (λ (ss : List SessionConfig). AreInputs (flat_map (session_inputs replays) ss)) (sym h.sessions) such))

  -- ---- and what is written

  pub all_written : (qs : List NamedBytes) (log : List StoreAccess) → log ≡ writes_of qs → AreSuchFiles (IsPlanned plan.outputs) qs → All (IsAsPlanned plan) log
  all_written qs log calls such = subst (All (IsAsPlanned plan)) (sym calls) (All-map (IsAsPlanned plan) (λ q. Wrote q.0 q.1) qs such)

-- ---- a run

run_calls : {F : Type 0} (store : StoreActs F) (tells_name : F → StoreName → Bool → Type 0) (stood : Option Checkpoint) (task : RunTask) (config : Config) (replays : List Replay) (scripts : List (String Global)) (report : Report) (io : Streams) (old new : F)
    → HasRunAll store tells_name stood task config replays scripts report io old new → LogLeadsBy store.does (All (IsAsPlanned (plan_by task config replays scripts))) old new
run_calls store tells_name stood task config replays scripts report io old new h =
    let plan = plan_by task config replays scripts in
    let I = IsPlanned plan.inputs in
    let O = IsPlanned plan.outputs in
    let typed = option_map (λ n. n.now) task.keyboard in
    let parts = h.ran.parts in
    let reading = h.ran.read.calls in
    let writing = h.ran.wrote.calls in
    let ins = such_itself plan.inputs in
    let outs = such_itself plan.outputs in
    let reads = subst (λ (rs : List Replay). AreRead config rs parts.system parts.inputs reading.0) h.asked.played_back reading.1 in
    let read = all_read plan config replays parts.system parts.inputs reading.0 reads ins.1.0 ins.1.1 in
    let sessions = settled_sessions parts.system h.options.stops_idle parts.typed config.sessions.items [] parts.inputs parts.settled h.ran.played.keys ∙ reading.1.sessions in
    let all = flat_map session_outputs config.sessions.items in
    let recorded_to = planned_if_any Plain (option_map (λ n. n.now) task.record) in
    let named = all_planned Script (map string_bytes scripts) in
    let outputs = subst (λ (ss : List SessionConfig). AreSuch O (flat_map session_outputs ss)) (sym sessions)
    (such_left O all (recorded_to ++ named) outs) in
    let files = from_such O parts.system parts.settled parts.from outputs in
    let records = records_such O (is_some h.asked.kept) typed h.options.records.now parts.settled config.sessions.items scripts h.asked.records
    (such_right O recorded_to named (such_right O all (recorded_to ++ named) outs)) in
    let written = all_written plan (outputs_by h.options parts) writing.0 writing.1 (files_joined O (files_of_all (files_from parts.system parts.settled parts.from)) _ files records) in
    (reading.0 ++ writing.0, joined plan (reading.0 ++ writing.0) reading.0 writing.0 refl read written, ran_more store.does reading.0 writing.0 old h.ran.between new reading.2 writing.2)

pub runs_follow : {F : Type 0} (store : StoreActs F) (sees_to : F → Plan → Option HostError → F → Type 0) (gives_names : F → Option HostError → F → Type 0)
    (tells_name : F → StoreName → Bool → Type 0) (stood : Option Checkpoint) (ended : Option HostError → Type 0) (told : List SessionReport → Type 0)
    → RunsFollowPlans store sees_to gives_names tells_name stood ended told
runs_follow store sees_to gives_names tells_name stood ended told task old new unread left before printed unrecorded record_now h = (
  h.config,
  h.replays,
  h.scripts,
  h.prepared.known,
  h.prepared.read,
  h.prepared.played_back,
  h.prepared.named,
  record {
    seen = h.seen;
    ended = h.ran;
    sees = h.prepared.sees;
    calls = run_calls store tells_name stood task h.config h.replays h.scripts h.report (streams unread left before h.shown unrecorded record_now) h.seen h.ran h.played;
    named = h.named;
  },
)

-- ---- a program

module _ {F : Type 0} (does : F → StoreAccess → F → Type 0) (plan : Plan) where
  abbrev IsLed : F → F → Type 0
  IsLed old new = LogLeadsBy does (All (IsAsPlanned plan)) old new

  led_on : (s m t : F) → IsLed s m → IsLed m t → IsLed s t
  led_on s m t h g = (h.0 ++ g.0, All-append (IsAsPlanned plan) h.0 g.0 h.1 g.1, ran_more does h.0 g.0 s m t h.2 g.2)

  led_by : (name : StoreName) (bytes : List ℕ) (s t : F) → IsPlanned plan.inputs name → does s (Gave name bytes) t → IsLed s t
  led_by name bytes s t such read =
      (Gave name bytes ∷ [], All-cons (IsAsPlanned plan) (Gave name bytes) [] such (All-nil (IsAsPlanned plan)), ran_one does (Gave name bytes) s t read)

  none_led : (s t : F) → t ≡ s → IsLed s t
  none_led s t same = ([], All-nil (IsAsPlanned plan), sym same)

  files_led : (files : List PlacedFile) (hosts : List HostFile) (s t : F) → AreReadBy (IsFileRead does) files s t hosts → AreInputs plan (files_given files) → IsLed s t
  files_led [] [] s t h such = none_led s t h
  files_led [] (x ∷ xs) s t h such = absurd h
  files_led (f ∷ fs) [] s t h such = absurd h
  files_led (f ∷ fs) (x ∷ xs) s t h such =
      led_on s h.0 t (led_by (string_bytes f.path) x.bytes.items s h.0 such.0 h.1.0) (files_led fs xs h.0 t h.2 such.1)

  place_led : (place : DrivePlace) (d : Disk) (s t : F) → IsPlaceRead does place s t d → AreInputs plan (inputs_of_place place) → IsLed s t
  place_led (from.Image name) d s t h such = led_by name.now h.0 s t such.0 h.1
  place_led (from.Folder f) d s t h such = files_led f.files.items h.0 s t h.1 such

  drives_led : (places : List DrivePlace) (ds : List Disk) (s t : F) → AreDrivesRead does places s t ds → AreInputs plan (inputs_of_places places) → IsLed s t
  drives_led [] [] s t h such = none_led s t h
  drives_led [] (d ∷ ds) s t h such = absurd h
  drives_led (p ∷ ps) [] s t h such = absurd h
  drives_led (p ∷ ps) (d ∷ ds) s t h such =
      let I = IsPlanned plan.inputs in
      led_on s h.0 t (place_led p d s h.0 h.1 (such_left I (inputs_of_place p) (inputs_of_places ps) such))
      (drives_led ps ds h.0 t h.2 (such_right I (inputs_of_place p) (inputs_of_places ps) such))

  program_led : (name : Option StoreName) (program : Option (List ℕ)) (s t : F) → IsProgramRead does name s t program → AreInputs plan (planned_if_any Plain name) → IsLed s t
  program_led None None s t h such = none_led s t h
  program_led None (Some p) s t h such = absurd h
  program_led (Some name) None s t h such = absurd h
  program_led (Some name) (Some p) s t h such = led_by name p s t such.0 h

  saved_led : (name : Option StoreName) (x : Option Saving) (s t : F) → IsSavedRead does name s t x → AreInputs plan (planned_if_any SavingFile name) → IsLed s t
  saved_led None None s t h such = none_led s t h
  saved_led None (Some x) s t h such = absurd h
  saved_led (Some name) None s t h such = absurd h
  saved_led (Some name) (Some x) s t h such = led_by name h.0 s t such.0 h.1

  system_led : (name : Option StoreName) (d : Option Disk) (s t : F) → IsSystemRead does name s t d → AreInputs plan (planned_if_any Image name) → IsLed s t
  system_led None None s t h such = none_led s t h
  system_led None (Some d) s t h such = absurd h
  system_led (Some name) None s t h such = absurd h
  system_led (Some name) (Some d) s t h such = led_by name h.0 s t such.0 h.1

  cues_led : (name : Option StoreName) (said : List Cue) (s t : F) → AreCuesRead does name s t said → AreInputs plan (planned_if_any Plain name) → IsLed s t
  cues_led None said s t h such = ([], All-nil (IsAsPlanned plan), sym h.1)
  cues_led (Some name) said s t h such = led_by name h.0 s t such.0 h.1

  recorded_led : (name : Option StoreName) (said : List Cue) (s t : F) → AreRecordedRead does name s t said → AreInputs plan (planned_if_any Plain name) → IsLed s t
  recorded_led None said s t h such = ([], All-nil (IsAsPlanned plan), sym h.1)
  recorded_led (Some name) said s t h such = led_by name h.0 s t such.0 h.1

  keys_led : (keys replay : Option StoreName) (said : List Cue) (s t : F) → AreKeysReadBy does keys replay s t said
      → AreInputs plan (planned_if_any Plain keys ++ planned_if_any Plain replay) → IsLed s t
  keys_led None replay said s t h such = recorded_led replay said s t h such
  keys_led (Some name) replay said s t h such = cues_led (Some name) said s t h (such.0, tt)

planned_files : (P : StoreName → Type 0) (role : FileRole) (qs : List NamedBytes) → AreSuch P (all_planned role (map (λ q. q.0) qs)) → AreSuchFiles P qs
planned_files P role [] such = no_files P
planned_files P role (q ∷ qs) such = file_more P q.0 q.1 qs such.0 (planned_files P role qs such.1)

-- what is written was planned
module _ {F : Type 0} (acts : ReadActs F) (gives_names : F → Option HostError → F → Type 0) (task : PlayTask) (places : List DrivePlace)
    (starts : List (StoreName × Option Disk)) (texts : Texts) (drives : List (Option Disk)) (old seen read new : F) (unwritten : List (List ℕ × NamedFile)) where
  abbrev played_plan : Plan
  played_plan = plan_of_play task places

  abbrev alone : List NamedBytes
  alone = outputs_with task texts drives []

  alone_led : (log : List StoreAccess) → log ≡ writes_of alone → All (IsAsPlanned played_plan) log
  alone_led log calls =
      let O = IsPlanned played_plan.outputs in
      let images = all_planned Image (outs_of task) in
      let folders = all_planned Folder (map (λ n. n.now) task.out_folders.items) in
      let recorded = planned_if_any Plain (record_of_play task) in
      let listed = planned_if_any Plain (list_of_play task) in
      let saved = planned_if_any SavingFile (save_of_play task) in
      let all = such_itself played_plan.outputs in
      let named = such_left O (images ++ folders ++ recorded ++ listed) saved all in
      let both = such_left O (images ++ folders) recorded (such_left O (images ++ folders ++ recorded) listed named) in
      let printed_to = named_text (list_of_play task) texts.printed in
      let saved_to = named_text (save_of_play task) texts.saved in
      all_written played_plan alone log calls
      (files_joined O (printed_to ++ saved_to) (drive_outputs (outs_of task) drives)
      (files_joined O printed_to saved_to
      (text_such O Plain (list_of_play task) texts.printed (such_right O (images ++ folders ++ recorded) listed named))
      (text_such O SavingFile (save_of_play task) texts.saved (such_right O (images ++ folders ++ recorded ++ listed) saved all)))
      (drives_such O Image (outs_of task) drives (such_left O images folders both)))

  left_led : (outputs : List NamedBytes) (log : List StoreAccess) → log ≡ writes_of outputs → All (IsAsPlanned (plan_of_left outputs (record_of_play task))) log
  left_led outputs log calls =
      let second = plan_of_left outputs (record_of_play task) in
      let O = IsPlanned second.outputs in
      all_written second outputs log calls
      (planned_files O Plain outputs (such_left O (all_planned Plain (map (λ q. q.0) outputs)) (planned_if_any Plain (record_of_play task)) (such_itself second.outputs)))

  follows : (has_none : Bool) → acts.sees_to old played_plan None seen → IsLed acts.does played_plan seen read
      → IsLeftFor has_none (write_acts acts gives_names) task starts texts drives read new unwritten → FollowsPlans has_none acts gives_names task played_plan old new
  follows true sees reads left = record {
    seen = seen;
    ended = left.0.written;
    sees = sees;
    calls = led_on acts.does played_plan seen read left.0.written reads (left.0.calls.0, alone_led left.0.calls.0 left.0.calls.1, left.0.calls.2);
    named = left.0.named;
  }
  follows false sees reads left =
      let w = left.written in
      record {
        seen = seen;
        read = read;
        texts = texts;
        drives = drives;
        left = left.left;
        sees = sees;
        calls = reads;
        follows = record {
          seen = w.seen;
          ended = w.written.written;
          sees = w.sees;
          calls = (w.written.calls.0, left_led (outputs_with task texts drives left.left) w.written.calls.0 w.written.calls.1, w.written.calls.2);
          named = w.written.named;
        };
      }

pub programs_follow : {F : Type 0} (acts : ReadActs F) (gives_names : F → Option HostError → F → Type 0) (ended : Option HostError → Type 0)
    (told : List (List ℕ × NamedFile) → Ending → (waits : Bool) → Option PlayEnd → (dropped : Bool) → Type 0) → ProgramsFollowPlans acts gives_names ended told
programs_follow {F} acts gives_names ended told task io old new status h =
    let p = h.played in
    let r = p.reads in
    let plan = plan_of_play task p.places in
    let I = IsPlanned plan.inputs in
    let going = planned_if_any SavingFile (option_map (λ n. n.now) task.from) in
    let file = planned_if_any Plain (option_map (λ n. n.now) task.file) in
    let places = inputs_of_places p.places in
    let system = planned_if_any Image (option_map (λ n. n.now) task.system) in
    let keys = option_map (λ n. n.now) task.keys in
    let replay = option_map (λ n. n.now) task.replay in
    let script = planned_if_any Plain keys in
    let recording = planned_if_any Plain replay in
    let ins = such_itself plan.inputs in
    let scripted = such_left I (going ++ file ++ places ++ system ++ script) recording ins in
    let started = such_left I (going ++ file ++ places ++ system) script scripted in
    let placed = such_left I (going ++ file ++ places) system started in
    let first = such_left I (going ++ file) places placed in
    let saved = saved_led acts.does plan (option_map (λ n. n.now) task.from) p.g.saved r.seen r.start.given r.start.saved (such_left I going file first) in
    let program = program_led acts.does plan (option_map (λ n. n.now) task.file) p.g.program r.start.given r.start.begun r.start.read
    (such_right I going file first) in
    let disks = drives_led acts.does plan p.places p.g.drives r.start.begun r.start.between r.start.drives (such_right I (going ++ file) places placed) in
    let drive = system_led acts.does plan (option_map (λ n. n.now) task.system) p.g.system r.start.between r.started r.start.system
    (such_right I (going ++ file ++ places) system started) in
    let said = keys_led acts.does plan keys replay p.said r.started h.read r.keys
    (such_both I script recording (such_right I (going ++ file ++ places ++ system) script scripted)
    (such_right I (going ++ file ++ places ++ system ++ script) recording ins)) in
    let loaded = led_on acts.does plan r.seen r.start.given r.start.begun saved program in
    let begun = led_on acts.does plan r.seen r.start.begun r.started loaded (led_on acts.does plan r.start.begun r.start.between r.started disks drive) in
    let reads = led_on acts.does plan r.seen r.started h.read begun said in (
      p.places,
      r.prepared.found,
      follows acts gives_names task p.places (task_starts task p.g) (texts_left h.printed h.play) h.play.drives old r.seen h.read new
          h.unwritten (has_no_folder task) r.prepared.sees reads h.left,
    )
