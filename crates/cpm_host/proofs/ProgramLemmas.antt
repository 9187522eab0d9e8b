-- What a program was played by, and what it is not refused for.
use Rattle.std.proofs.Common.{◌≡◌, ◌≤◌, ◌⊎◌, ⊎_elim, inl, inr, ℕ, Bool, true, false, List, [], ◌∷◌, length, map, Option, None, Some, Result, IfErr, IfOk, Vec, refl, sym, ap, ◌∙◌, subst}
use Rattle.std.specs.Io.KnownBytes.{Appends}
use Rattle.std.specs.declared.alloc.Global.{Global}
use Rattle.std.proofs.lemmas.Result.{IfErr-weaker, IfOk-weaker}
use Rattle.cpm_geom.specs.Disk.{Disk}
use Rattle.cpm_drives.specs.Disks.{images_of}
use Rattle.cpm_machine.specs.MachineState.{MachineState}
use Rattle.cpm_machine.specs.Serve.{look_of}
use Rattle.cpm_machine.specs.Step.{is_running}
use Rattle.cpm_play.specs.Cued.{HasEndedCued, IsCued, key_count}
use Rattle.cpm_play.specs.Live.{AreGiven}
use Rattle.cpm_play.specs.Playing.{EndsAs, alone_by, waits_at}
use Rattle.cpm_play.specs.declared.live.LivePlay.{LivePlay}
use Rattle.cpm_play.specs.declared.live.TypedPlay.{TypedPlay}
use Rattle.cpm_script.specs.Recording.{recorded}
use Rattle.cpm_run.proofs.EndingLemmas.{ending_same}
use Rattle.cpm_play.specs.Output.{OutputState}
use Rattle.cpm_play.specs.Sitting.{IsTypedPlay, sitting}
use Rattle.cpm_play.specs.Typist.{TypingState}
use Rattle.cpm_play.specs.declared.cued.CuedKeys.{CuedKeys}
use Rattle.cpm_play.specs.declared.live.LiveError.{LiveError}
use Rattle.cpm_play.specs.declared.live.LiveError.TheVariants.{Unreadable, Unwritable, Unprinted, Unrecorded, OutOfMemory}
use Rattle.cpm_run.specs.Settled.{Streams, play_streams}
use Rattle.cpm_script.specs.Cues.{cue_text}
use Rattle.cpm_script.specs.Laws.{KeysAreAscii}
use Rattle.cpm_script.specs.Recording.{AreTyped}
use Rattle.cpm_script.specs.declared.cue.Cue.{Cue}
use Rattle.cpm_script.specs.declared.cue.Cue.TheVariants.{Key as Timed}
use Rattle.cpm_script.specs.declared.script.Key.{Key}
use Rattle.cpm_host.specs.Program.{GivesKeysAgain, IsCutBy, IsCutCued, IsPlayedBy, IsPlayedCued, IsPlayedLive, IsProgramFit, IsProgramPlayRefusal, IsUnsaved, ProgramInput, machine_of, play_of, system_disk}
use Rattle.cpm_host.specs.Refusals.{host_error_of_live}
use Rattle.cpm_host.specs.declared.error.HostError.{HostError}
use Rattle.cpm_host.specs.declared.error.HostError.TheVariants.{ProgramTooLong}
use Rattle.cpm_host.specs.declared.error.HostError.TheVariants as out
use Rattle.cpm_host.specs.declared.program.ProgramPlay.{ProgramPlay}
use Rattle.cpm_host.specs.declared.program.Source.{Source}
use Rattle.cpm_host.specs.declared.program.Source.TheVariants.{Cues, Typed}

-- one that was cut short is not refused for its length
pub not_long : (error : LiveError) (count : ℕ) → ProgramTooLong count ≡ host_error_of_live error → ⊥
not_long (Unreadable e) count is = cc
not_long (Unwritable e) count is = cc
not_long (Unprinted e) count is = cc
not_long (Unrecorded e) count is = cc
not_long OutOfMemory count is = cc

-- nor one for which memory was refused
pub not_out : (count : ℕ) → ProgramTooLong count ≡ out.OutOfMemory → ⊥
not_out count is = cc

-- one that was played by a script, whoever types
pub played_by_cues : (source : Source) (c : CuedKeys) (system disk : Disk) (start machine : MachineState) (steps : ℕ) (r : Result ProgramPlay HostError)
    (typing : TypingState) (before written : OutputState) (unrecorded record_now : Option (List ℕ)) → source ≡ Cues c → disk ≡ system → machine ≡ start →
    IfOk r (λ t. (any : TypingState) → IsPlayedCued disk machine steps c t (play_streams any any before written unrecorded record_now)) →
    IfOk r (λ t. IsPlayedBy source system start steps t (play_streams typing typing before written unrecorded record_now))
played_by_cues source c system disk start machine steps r typing before written unrecorded record_now cued blank begins played =
    let io = play_streams typing typing before written unrecorded record_now in
    let P : Disk → Type 0 = λ d. IfOk r (λ t. IsPlayedBy (Cues c) d machine steps t io) in
    let Q : MachineState → Type 0 = λ s. IfOk r (λ t. IsPlayedBy (Cues c) system s steps t io) in
    let R : Source → Type 0 = λ x. IfOk r (λ t. IsPlayedBy x system start steps t io) in
    subst R (sym cued) (subst Q begins (subst P blank (IfOk-weaker r _ _ (λ t h. h typing) played)))

-- why one that is played by this source is not: it was cut short, or it was played, and can't be saved
abbrev pub IsUndone : (is_saved : Bool) → Source → Disk → MachineState → (steps : ℕ) → Streams → HostError → Type 0
IsUndone is_saved source disk machine steps io e = IsCutBy source disk machine steps io e ⊎ IsUnsaved is_saved (λ t. IsPlayedBy source disk machine steps t io) e

pub refused_in : (source : Source) (g : ProgramInput) (is_saved : Bool) (disk : Disk) (machine : MachineState) (steps : ℕ) (r : Result ProgramPlay HostError) (io : Streams) →
    disk ≡ system_disk g → machine ≡ machine_of g → IsProgramFit g → IfErr r (IsUndone is_saved source disk machine steps io) → IfErr r (IsProgramPlayRefusal is_saved source g steps io)
refused_in source g is_saved disk machine steps r io blank begins fit refused =
    let of_disk : IfErr r (IsUndone is_saved source (system_disk g) machine steps io) = subst (λ d. IfErr r (IsUndone is_saved source d machine steps io)) blank refused in
    let of_machine : IfErr r (IsUndone is_saved source (system_disk g) (machine_of g) steps io) = subst (λ s. IfErr r (IsUndone is_saved source (system_disk g) s steps io)) begins of_disk in
    IfErr-weaker r (IsUndone is_saved source (system_disk g) (machine_of g) steps io) (IsProgramPlayRefusal is_saved source g steps io)
    (λ e h. ⊎_elim (λ cut. inr (inl (record { fit = fit; cut = cut }))) (λ u. inr (inr (record { fit = fit; unsaved = u }))) h) of_machine

-- one by a script, whoever types
pub undone_by_cues : (source : Source) (c : CuedKeys) (is_saved : Bool) (disk : Disk) (machine : MachineState) (steps : ℕ) (r : Result ProgramPlay HostError)
    (typing : TypingState) (before written : OutputState) (unrecorded record_now : Option (List ℕ)) → source ≡ Cues c →
    IfErr r (λ e. (any : TypingState) → IsCutCued disk machine steps c (play_streams any any before written unrecorded record_now) e
    ⊎ IsUnsaved is_saved (λ t. IsPlayedCued disk machine steps c t (play_streams any any before written unrecorded record_now)) e) →
    IfErr r (IsUndone is_saved source disk machine steps (play_streams typing typing before written unrecorded record_now))
undone_by_cues source c is_saved disk machine steps r typing before written unrecorded record_now cued refused =
    let io = play_streams typing typing before written unrecorded record_now in
    subst (λ x. IfErr r (IsUndone is_saved x disk machine steps io)) (sym cued) (IfErr-weaker r _ (IsUndone is_saved (Cues c) disk machine steps io) (λ e h. h typing) refused)

-- one as it is typed at
pub undone_by_typing : (source : Source) (cues : _) (is_saved : Bool) (disk : Disk) (machine : MachineState) (steps : ℕ) (r : Result ProgramPlay HostError) (io : Streams) → source ≡ Typed cues →
    IfErr r (IsUndone is_saved (Typed cues) disk machine steps io) → IfErr r (IsUndone is_saved source disk machine steps io)
undone_by_typing source cues is_saved disk machine steps r io typed refused = subst (λ x. IfErr r (IsUndone is_saved x disk machine steps io)) (sym typed) refused

-- keys that may have been typed are below 80h
pub typed-fit : (low : ℕ) (keys : List Key) → AreTyped low keys → KeysAreAscii (map cue_text (map Timed keys))
typed-fit low [] typed = tt
typed-fit low (k ∷ keys) typed = (typed.2, typed-fit k.count keys typed.3)

-- ---- what was played, by what its parts ensure

-- a session that ended in a state ended so in one that is as far
ended_as : (system : Disk) (start : MachineState) (steps waits_from : ℕ) (stops : Bool) (keys : List Key) (done : ℕ) (now other : MachineState) → now.ended ≡ other.ended →
    HasEndedCued system start steps waits_from stops keys done now → HasEndedCued system start steps waits_from stops keys done other
ended_as system start steps waits_from false keys done now other same (inl e) = inl e
ended_as system start steps waits_from false keys done now other same (inr r) = inr (ap is_running (sym same) ∙ r)
ended_as system start steps waits_from true keys done now other same (inl r) = inl (ap is_running (sym same) ∙ r)
ended_as system start steps waits_from true keys done now other same (inr x) = inr x

-- by a script
pub record IsPlayedOut (system : Disk) (start now : MachineState) (steps : ℕ) (c : CuedKeys) (live : LivePlay) (before written : OutputState) (unrecorded record_now : Option (List ℕ)) : Type 0 where
  pub within : live.steps ≤ steps
  pub keys : IsCued system start steps c.waits_from c.cues.now live.keys.items
  pub given : AreGiven (key_count c.cues.now) live.steps live.keys.items
  pub text : Appends before.console written.console (alone_by system live.keys.items live.steps start).session.console.screen
  pub list : Appends before.list written.list (alone_by system live.keys.items live.steps start).session.console.printer
  pub ending : EndsAs (alone_by system live.keys.items live.steps start) now
  pub lines : Appends unrecorded record_now (recorded live.keys.items)
  pub ends : HasEndedCued system start steps c.waits_from c.stops_idle live.keys.items live.steps now
  pub waits : (look_of now).waiting ≡ waits_at system start live.keys.items live.steps
  pub replays : GivesKeysAgain live.keys.items

pub played_cued : (system : Disk) (start now : MachineState) (steps : ℕ) (c : CuedKeys) (live : LivePlay) (before written : OutputState) (unrecorded record_now : Option (List ℕ)) (saved : Option (Vec ℕ Global)) (typing : TypingState) →
    IsPlayedOut system start now steps c live before written unrecorded record_now → IsPlayedCued system start steps c (play_of now live None saved) (play_streams typing typing before written unrecorded record_now)
played_cued system start now steps c live before written unrecorded record_now saved typing k =
    let other = alone_by system live.keys.items live.steps start in
    record {
      rehearsed = record {
        within = k.within;
        keys = k.keys;
        given = k.given;
        ending = ending_same other now k.ending;
        drives = ap images_of k.ending.disks;
        ends = ended_as system start steps c.waits_from c.stops_idle live.keys.items live.steps now other k.ending.ended k.ends;
        waits = k.waits;
        untyped = refl;
        replays = k.replays;
      };
      text = k.text;
      list = k.list;
      lines = k.lines;
      unread = refl;
    }

-- by a script and then as it was typed at
pub record IsTypedOut (system : Disk) (start now : MachineState) (steps : ℕ) (cues : List Cue) (play : TypedPlay) (typing typing_now : TypingState) (before written : OutputState) (unrecorded record_now : Option (List ℕ)) : Type 0 where
  pub within : play.live.steps ≤ steps
  pub given : AreGiven (length play.live.keys.items) play.live.steps play.live.keys.items
  pub played : IsTypedPlay (sitting typing.is_patient system start steps cues) typing typing_now play.live.keys.items play.live.steps play.end
  pub text : Appends before.console written.console (alone_by system play.live.keys.items play.live.steps start).session.console.screen
  pub list : Appends before.list written.list (alone_by system play.live.keys.items play.live.steps start).session.console.printer
  pub ending : EndsAs (alone_by system play.live.keys.items play.live.steps start) now
  pub lines : Appends unrecorded record_now (recorded play.live.keys.items)
  pub waits : (look_of now).waiting ≡ waits_at system start play.live.keys.items play.live.steps
  pub replays : GivesKeysAgain play.live.keys.items

pub played_typed : (system : Disk) (start now : MachineState) (steps : ℕ) (cues : List Cue) (play : TypedPlay) (typing typing_now : TypingState) (before written : OutputState) (unrecorded record_now : Option (List ℕ)) (saved : Option (Vec ℕ Global)) →
    IsTypedOut system start now steps cues play typing typing_now before written unrecorded record_now →
    IsPlayedLive system start steps cues (play_of now play.live (Some play.end) saved) (play_streams typing typing_now before written unrecorded record_now)
played_typed system start now steps cues play typing typing_now before written unrecorded record_now saved k =
    let other = alone_by system play.live.keys.items play.live.steps start in
    record {
      within = k.within;
      given = k.given;
      end = play.end;
      told = refl;
      played = k.played;
      text = k.text;
      list = k.list;
      ending = ending_same other now k.ending;
      drives = ap images_of k.ending.disks;
      waits = k.waits;
      lines = k.lines;
      replays = k.replays;
    }
