-- Laws of sessions that go on from a saving. (own)
use Rattle.std.specs.Prelude.{◌≡◌, ℕ, ◌+◌, List, ◌++◌, map, slice_get, Some, Ok}
use Rattle.cpm_batch.specs.Inputs.{Restores}
use Rattle.cpm_batch.specs.Outputs.{SessionOutput}
use Rattle.cpm_drives.specs.Disks.{images_of}
use Rattle.cpm_geom.specs.Disk.{Disk}
use Rattle.cpm_machine.specs.Calls.{state_behind}
use Rattle.cpm_machine.specs.MachineState.{MachineState}
use Rattle.cpm_machine.specs.Saving.{Saving, restored, saving_with}
use Rattle.cpm_machine.specs.SystemDigest.{system_digest}
use Rattle.cpm_play.specs.Live.{AreBy}
use Rattle.cpm_play.specs.Playing.{EndsAs, IsInOrder, alone_by, coming_keys, state_left, without_list, without_text}
use Rattle.cpm_play.specs.Players.{HaveBecome}
use Rattle.cpm_play.specs.declared.player.Player.{Player}
use Rattle.cpm_run.specs.Ending.{ending_of}
use Rattle.cpm_run.specs.Kept.{standing_of}
use Rattle.cpm_run.specs.Pressable.{ArePressable, HaveFewKeys}
use Rattle.cpm_run.specs.Playing.{HavePlayers}
use Rattle.cpm_run.specs.Run.{IsRestorable, files_left, left_of, reports_behind, reports_of, run_of, start_of}
use Rattle.cpm_run.specs.Settled.{SettledSession}
use Rattle.cpm_run.specs.Rest.{RunStanding, outputs_behind, rest_of, stands_all}
use Rattle.cpm_run.specs.Standing.{IsTrueStanding, join_standings}
use Rattle.cpm_script.specs.declared.script.Key.{Key}
use Rattle.cpm_slots.specs.Host.{Host}

-- the same keys, so many steps later
abbrev pub later_keys : ℕ → List Key → List Key
later_keys n keys = map (λ k. record { count = n + k.count; byte = k.byte }) keys

-- One machine has shown what two others have, the first one's before the second one's, on both devices. It has come to the second one's end, count,
-- registers, memory and drives, and but for its output its whole state is that one's.
pub record IsBothInOne (first second whole : MachineState) : Type 0 where
  pub screen : whole.session.console.screen ≡ first.session.console.screen ++ second.session.console.screen
  pub printer : whole.session.console.printer ≡ first.session.console.printer ++ second.session.console.printer
  pub ending : EndsAs second whole
  pub state : without_list (without_text whole) ≡ without_list (without_text second)

-- A session that was saved after so many steps, with all of its output taken, and goes on from that, is the machine alone: by the keys that came before the
-- saving and those that come after it, so many steps later. (None of the first has a count past the saving.)
abbrev pub GoesOnAlone : Type 0
GoesOnAlone = (system : Disk) (early later : List Key) (n m : ℕ) (start : MachineState) → AreBy n early →
    IsBothInOne (alone_by system early n start) (alone_by system later m (state_left system early n start))
    (alone_by system (early ++ later_keys n later) (n + m) start)

-- And so it is with one that was saved while some of its output still waited: with what was taken before put back in front, it is the machine alone.
abbrev pub GoesOnBehind : Type 0
GoesOnBehind = (system : Disk) (early later : List Key) (n m : ℕ) (console list : List ℕ) (start saved : MachineState) → AreBy n early →
    state_behind console list saved ≡ alone_by system early n start →
    state_behind console list (alone_by system later m saved) ≡ alone_by system (early ++ later_keys n later) (n + m) start

-- ---- runs

-- two sessions have left files, the second of which ended so, as one machine that shows what both show, and comes to the drives and the ending of the second
pub record LeaveAsOne (before after : SessionOutput) (second whole : MachineState) : Type 0 where
  pub console : whole.session.console.screen ≡ before.console ++ after.console
  pub list : whole.session.console.printer ≡ before.list ++ after.list
  pub drives : images_of whole.session.disks ≡ after.drives
  pub ending : ending_of whole ≡ ending_of second

-- the session of a run that left the first files, and that of another run that left the second ones, over the same system drive, have left them as one machine
-- alone, from where the first began, for the steps of both: by the keys that came to the first, and those of the second, which count from the saving
abbrev pub AreOneAlone : Disk → (first second : List SettledSession) → (i j : SettledSession) → (before after : SessionOutput) → Type 0
AreOneAlone system first second i j before after =
    let came = coming_keys system (start_of first i) i.steps i.keys in
    LeaveAsOne before after (run_of system second j) (alone_by system (came ++ later_keys i.steps j.keys) (i.steps + j.steps) (start_of first i))

-- a session stands at this place of a run, and has left these files
pub record HasLeft (system : Disk) (inputs : List SettledSession) (place : ℕ) (i : SettledSession) (left : SessionOutput) : Type 0 where
  pub there : slice_get inputs place ≡ Some i
  pub files : slice_get (files_left system inputs) place ≡ Some left

-- So it is where a session of a run goes on from the saving of what a session of another run came to. (Of each run that succeeds the keys of each session are
-- in order: `HasRun`, orders.)
abbrev pub SavedRunGoesOn : Type 0
SavedRunGoesOn = (system : Disk) (first second : List SettledSession) (place other : ℕ) (i j : SettledSession) (before after : SessionOutput) →
    HasLeft system first place i before → HasLeft system second other j after → IsInOrder 0 i.keys →
    j.start ≡ Restores (saving_with (system_digest system) (left_of system first i)) → AreOneAlone system first second i j before after

-- it goes on from the saving that another session has left in its files
pub record GoesOnFrom (before : SessionOutput) (j : SettledSession) : Type 0 where
  pub bytes : List ℕ
  pub saved : before.saved ≡ Some bytes
  pub saving : Saving
  pub read : restored bytes ≡ Ok saving
  pub start : j.start ≡ Restores saving

-- And so it is where it goes on from what was read of the file that the other session left for its saving.
-- (Of each run that succeeds the keys of each session are in order, and what is restored of its saving is that: `HasRun`, orders and savings. A run that went
-- on from a checkpoint says this of the savings of its rest: they are these, and so are the files, if the checkpoint is true, by `RestIsWhole`.)
abbrev pub SavedFileGoesOn : Type 0
SavedFileGoesOn = (system : Disk) (first second : List SettledSession) (place other : ℕ) (i j : SettledSession) (before after : SessionOutput) →
    HasLeft system first place i before → HasLeft system second other j after → IsInOrder 0 i.keys → IsRestorable system first i →
    GoesOnFrom before j → AreOneAlone system first second i j before after

-- Where a run stands on its way, the rest of it leaves what the whole run leaves, with what was shown before in front.
pub record RestLeavesAll (system : Disk) (inputs : List SettledSession) (standing : RunStanding) : Type 0 where
  pub reports : reports_of system inputs ≡ reports_behind (stands_all standing inputs standing) (reports_of system (rest_of inputs standing))
  pub files : files_left system inputs ≡ outputs_behind (stands_all standing inputs standing) (files_left system (rest_of inputs standing))

abbrev pub RestIsWhole : Type 0
RestIsWhole = (system : Disk) (inputs : List SettledSession) (standing : RunStanding) → IsTrueStanding system inputs standing →
    RestLeavesAll system inputs standing

-- Where the sessions of a run are played in a host, by players that were made for them, and stand between two turns, that is a true standing of the run.
abbrev pub KeptIsTrue : Type 0
KeptIsTrue = (inputs : List SettledSession) (old h : Host) (players now : List Player) → ArePressable old.system inputs → HavePlayers old.slots inputs players →
    HaveBecome old h players now → IsTrueStanding old.system inputs (standing_of h now)

-- The rest of a run from where it truly stands can be pressed as the run can, where none of its sessions has more keys than may be pending, with those that are
-- where it begins.
abbrev pub RestCanBePlayed : Type 0
RestCanBePlayed = (system : Disk) (inputs : List SettledSession) (standing : RunStanding) → ArePressable system inputs →
    IsTrueStanding system inputs standing → HaveFewKeys (rest_of inputs standing) → ArePressable system (rest_of inputs standing)

-- Where the rest of a run stands truly, from where the run had stood, the run stands truly by both.
abbrev pub StandingsJoin : Type 0
StandingsJoin = (system : Disk) (inputs : List SettledSession) (standing rest : RunStanding) → ArePressable system inputs →
    IsTrueStanding system inputs standing → IsTrueStanding system (rest_of inputs standing) rest →
    IsTrueStanding system inputs (join_standings inputs standing rest)
