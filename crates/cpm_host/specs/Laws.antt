-- A law over programs that are played by a script. (own)
use Rattle.std.specs.Prelude.{◌≡◌, ℕ, List, map, false, Ok}
use Rattle.std.specs.Io.KnownBytes.{Appends}
use Rattle.cpm_drives.specs.Disks.{images_of}
use Rattle.cpm_geom.specs.Disk.{Disk}
use Rattle.cpm_script.specs.Cues.{cue_text, cues}
use Rattle.cpm_script.specs.Script.{script}
use Rattle.cpm_script.specs.declared.script.Key.{Key}
use Rattle.cpm_machine.specs.MachineState.{MachineState}
use Rattle.cpm_play.specs.Playing.{IsFresh, alone_by}
use Rattle.cpm_play.specs.declared.cued.CuedKeys.{CuedKeys}
use Rattle.cpm_host.specs.Program.{IsPlayedCued, console_text, printer_text}
use Rattle.cpm_host.specs.declared.program.ProgramPlay.{ProgramPlay}
use Rattle.cpm_run.specs.Ending.{ending_of}
use Rattle.cpm_run.specs.Settled.{Streams}

-- what a program showed, printed and left is that of the machine run alone by these keys for so many steps
pub record IsRunBy (system : Disk) (start : MachineState) (steps : ℕ) (keys : List Key) (t : ProgramPlay) (io : Streams) : Type 0 where
  pub text : Appends io.before.console io.written.console (console_text (alone_by system keys steps start))
  pub list : Appends io.before.list io.written.list (printer_text (alone_by system keys steps start))
  pub ending : t.ending ≡ ending_of (alone_by system keys steps start)
  pub drives : t.drives ≡ images_of (alone_by system keys steps start).session.disks

-- A machine with no pending key and no byte that waits, which was played by a script that never waits, and doesn't stop where it is idle, did
-- what all keys of that script say, for all its steps.
abbrev pub PlainScriptsRunTheirKeys : Type 0
PlainScriptsRunTheirKeys = (system : Disk) (start : MachineState) (steps : ℕ) (text : List ℕ) (keys : List Key)
    (c : CuedKeys) (t : ProgramPlay) (io : Streams) →
    IsFresh start → script text ≡ Ok keys → cues text ≡ Ok (map cue_text c.cues.now) → c.stops_idle ≡ false → IsPlayedCued system start steps c t io →
    IsRunBy system start steps keys t io
