-- Laws over key scripts. (own)
use Rattle.std.specs.Prelude.{◌≡◌, ℕ, ◌+◌, ◌<◌, ◌≤◌, List, length, map, true, false, IfOk}
use Rattle.cpm_geom.specs.Disk.{Disk}
use Rattle.cpm_script.specs.Cues.{Counted, cue_text}
use Rattle.cpm_script.specs.Script.{script, most_keys}
use Rattle.cpm_script.specs.declared.cue.Cue.{Cue}
use Rattle.cpm_script.specs.declared.cue.Cue.TheVariants.{Key as Timed}
use Rattle.cpm_script.specs.declared.script.Key.{Key}
use Rattle.cpm_machine.specs.MachineState.{MachineState}
use Rattle.cpm_play.specs.Cued.{HasEndedCued, IsCued, runs_at}
use Rattle.cpm_play.specs.Live.{AreBy}
use Rattle.cpm_play.specs.Playing.{EndsAs, HaveRoom, IsInOrder, alone_by}

-- no more keys than may be pending, with those that are at the start, find room where they come: those that are pending then are at most these
abbrev pub FewKeysHaveRoom : Type 0
FewKeysHaveRoom = (system : Disk) (start : MachineState) (keys : List Key) → length start.session.console.keys + length keys ≤ most_keys →
    HaveRoom system start keys

-- the keys of a script are in order and not too many, so that they can be played
abbrev pub ScriptsInOrder : Type 0
ScriptsInOrder = (text : List ℕ) → IfOk (script text) (λ keys. IsInOrder 0 keys × (length keys ≤ most_keys))

-- A script that never waits gives its keys, where all of them come within the steps and find room, and the machine still runs after the steps.
-- (The keys of a script find room by few_keys_have_room.)
abbrev pub PlainCuesGiveTheirKeys : Type 0
PlainCuesGiveTheirKeys = (system : Disk) (start : MachineState) (steps waits_from last : ℕ) (keys given : List Key) →
    IsInOrder 0 keys → HaveRoom system start keys → AreBy last keys → last < steps → runs_at system start keys steps ≡ true →
    IsCued system start steps waits_from (map Timed keys) given → given ≡ keys

-- the same was shown and printed, and the session came to the same end, count, registers, memory and drives
pub record IsSameRun (other now : MachineState) : Type 0 where
  pub screen : now.session.console.screen ≡ other.session.console.screen
  pub printer : now.session.console.printer ≡ other.session.console.printer
  pub ending : EndsAs other now

-- A script that never waits does what its keys do, where they find room, whether all of them come or not: a key that doesn't come has a count past the steps,
-- or the session has ended before it. (The keys of a script find room by few_keys_have_room.)
abbrev pub PlainCuesDoAsTheirKeys : Type 0
PlainCuesDoAsTheirKeys = (system : Disk) (start : MachineState) (steps waits_from done : ℕ) (keys came : List Key) (cues : List Cue) →
    map cue_text cues ≡ map Counted keys → IsInOrder 0 keys → HaveRoom system start keys → IsCued system start steps waits_from cues came → done ≤ steps →
    HasEndedCued system start steps waits_from false came done (alone_by system came done start) →
    IsSameRun (alone_by system keys steps start) (alone_by system came done start)
