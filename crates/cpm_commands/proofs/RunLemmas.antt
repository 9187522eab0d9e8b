-- What a run of sessions has come to.
use Rattle.std.proofs.Common.{◌≡◌, inl, inr, ℕ, Bool, List, None, Some, subst, sym, String, Global}
use Rattle.std.specs.Prelude.{Option, IfErr, OnOk, Result, Ok, Err}
use Rattle.cpm_checkpoint.specs.declared.checkpoint.Checkpoint.{Checkpoint}
use Rattle.cpm_command_line.specs.declared.task.RunTask.{RunTask}
use Rattle.cpm_config.specs.declared.config.Config.{Config}
use Rattle.cpm_host.specs.declared.error.HostError.{HostError}
use Rattle.cpm_play.specs.Typist.{TypingState}
use Rattle.cpm_run.specs.Run.{StoreActs}
use Rattle.cpm_run.specs.Settled.{AreUntouched, Streams, streams}
use Rattle.cpm_run.specs.declared.report.Report.{Report}
use Rattle.cpm_run.specs.declared.report.SessionReport.{SessionReport}
use Rattle.cpm_store.specs.Files.{StoreName}
use Rattle.cpm_store.specs.Log.{StoreAccess}
use Rattle.cpm_commands.specs.Plan.{Plan}
use Rattle.cpm_batch.specs.declared.source.Replay.{Replay}
use Rattle.cpm_commands.specs.Run.{ArePlayedBack, AreScripts, HasRunAll, IsConfigRead, IsRunAllStopped, IsRunPrepared, IsRunStopped, IsRunUnseen, plan_by}
use Rattle.cpm_commands.specs.Run.IsRunStopped.{NotBegun, NotSeen}

-- the files were seen to by the names as they are lent
pub prepared : {F : Type 0} (does : F → StoreAccess → F → Type 0) (sees_to : F → Plan → Option HostError → F → Type 0) (task : RunTask) (old known new : F) (config : Config)
    (lent_back replays : List Replay) (lent scripts : List (String Global)) (fault : Option HostError) → IsConfigRead does task.config.now old known config → ArePlayedBack task config replays
    → AreScripts task config scripts → lent_back ≡ replays → lent ≡ scripts → sees_to known (plan_by task config lent_back lent) fault new
    → IsRunPrepared does sees_to task old new config replays scripts fault
prepared does sees_to task old known new config lent_back replays lent scripts fault read back named back_is lent_is sees = record {
  known = known;
  read = read;
  played_back = back;
  named = named;
  sees = subst (λ (rs : List Replay). sees_to known (plan_by task config rs scripts) fault new) back_is
      (subst (λ (ss : List (String Global)). sees_to known (plan_by task config lent_back ss) fault new) lent_is sees);
}

-- they were not, or memory was refused before
pub unseen : {F : Type 0} (store : StoreActs F) (sees_to : F → Plan → Option HostError → F → Type 0) (gives_names : F → Option HostError → F → Type 0) (tells_name : F → StoreName → Bool → Type 0) (stood : Option Checkpoint)
    (ended : Option HostError → Type 0) (told : List SessionReport → Type 0) (task : RunTask)
    (old known new : F) (config : Config) (lent_back replays : List Replay) (lent scripts : List (String Global)) (unread left : TypingState) (before printed unrecorded record_now : Option (List ℕ)) (e : HostError)
    → IsConfigRead store.does task.config.now old known config → ArePlayedBack task config replays → AreScripts task config scripts → lent_back ≡ replays → lent ≡ scripts
    → IsRunUnseen sees_to task config lent_back lent known new e → AreUntouched (streams unread left before printed unrecorded record_now)
    → IsRunStopped store sees_to gives_names tells_name stood ended told task old new unread left before printed unrecorded record_now e
unseen store sees_to gives_names tells_name stood ended told task old known new config lent_back replays lent scripts unread left before printed unrecorded record_now e read back named back_is lent_is (inl h) untouched =
    NotBegun config (subst (λ x. IsConfigRead store.does task.config.now old x config) (sym h.1) read) h.0 untouched
unseen store sees_to gives_names tells_name stood ended told task old known new config lent_back replays lent scripts unread left before printed unrecorded record_now e read back named back_is lent_is (inr h) untouched =
    NotSeen config replays scripts (prepared store.does sees_to task old known new config lent_back replays lent scripts (Some e) read back named back_is lent_is h) untouched

-- the record of what is typed is as it was played
pub played : {F : Type 0} (store : StoreActs F) (tells_name : F → StoreName → Bool → Type 0) (stood : Option Checkpoint) (task : RunTask) (config : Config) (lent_back replays : List Replay) (lent scripts : List (String Global))
    (report : Report) (unread left : TypingState) (before shown unrecorded recorded record_now : Option (List ℕ)) (seen ran : F) → lent_back ≡ replays → lent ≡ scripts → record_now ≡ recorded
    → HasRunAll store tells_name stood task config lent_back lent report (streams unread left before shown unrecorded recorded) seen ran
    → HasRunAll store tells_name stood task config replays scripts report (streams unread left before shown unrecorded record_now) seen ran
played store tells_name stood task config lent_back replays lent scripts report unread left before shown unrecorded recorded record_now seen ran back_is lent_is record_is all =
    subst (λ (r : Option (List ℕ)). HasRunAll store tells_name stood task config replays scripts report (streams unread left before shown unrecorded r) seen ran) (sym record_is)
    (subst (λ (rs : List Replay). HasRunAll store tells_name stood task config rs scripts report (streams unread left before shown unrecorded recorded) seen ran) back_is
    (subst (λ (ss : List (String Global)). HasRunAll store tells_name stood task config lent_back ss report (streams unread left before shown unrecorded recorded) seen ran) lent_is all))

-- it was refused by the names as they are lent
pub all_stopped : {F : Type 0} (store : StoreActs F) (tells_name : F → StoreName → Bool → Type 0) (stood : Option Checkpoint) (task : RunTask) (config : Config) (lent_back replays : List Replay) (lent scripts : List (String Global))
    (io : Streams) (seen new : F) (e : HostError) → lent_back ≡ replays → lent ≡ scripts → IsRunAllStopped store tells_name stood task config lent_back lent io seen new e
    → IsRunAllStopped store tells_name stood task config replays scripts io seen new e
all_stopped store tells_name stood task config lent_back replays lent scripts io seen new e back_is lent_is h =
    subst (λ (rs : List Replay). IsRunAllStopped store tells_name stood task config rs scripts io seen new e) back_is
    (subst (λ (ss : List (String Global)). IsRunAllStopped store tells_name stood task config lent_back ss io seen new e) lent_is h)

-- where it went well, where it was refused, and what came of it either way
pub done : {T E : Type 0} (r : Result T E) (P Q : Type 0) → (P → Q) → OnOk r P → OnOk r Q
done (Ok x) P Q f p = f p
done (Err e) P Q f p = tt

pub both : {T E : Type 0} (r : Result T E) (P Q S : E → Type 0) → ((e : E) → P e → Q e → S e) → IfErr r P → IfErr r Q → IfErr r S
both (Ok x) P Q S f p q = tt
both (Err e) P Q S f p q = f e p q

pub ended_so : {T E : Type 0} (r : Result T E) (P : Option E → Type 0) → OnOk r (P None) → IfErr r (λ e. P (Some e)) → (fault : Option E) × P fault
ended_so (Ok x) P well refused = (None, well)
ended_so (Err e) P well refused = (Some e, refused)
