-- How much a step can change.
use Rattle.std.specs.Prelude.{◌≡◌, ◌≤◌, ◌+◌, length}
use Rattle.cpm_console.specs.Terminal.{IsWithin, step_output}
use Rattle.cpm_memory.specs.Contents.{Contents, touched_of}
use Rattle.cpm_bdos.specs.Registers.{pair_de}
use Rattle.cpm_bdos.specs.StepResult.{StepResult}
use Rattle.cpm_bdos.specs.declared.session.Session.{Session}

-- a column is a byte, and so is the number of a line's characters; an address is a word
pub record IsFit (s : Session) : Type 0 where
  pub column : s.console.column ≤ 255
  pub start : s.line.start ≤ 255
  pub characters : length s.line.characters ≤ 255
  pub parameter : pair_de s.regs ≤ 65535
  pub buffer : s.buffer ≤ 65535
  pub sector_buffer : s.place.buffer ≤ 65535

-- a step newly writes at most 8 pages and puts at most 4,096 bytes on each device, and how many pages may be written stays
pub record IsBounded (s : Session) (m : Contents) (d : StepResult) : Type 0 where
  pub pages : touched_of d.memory ≤ touched_of m + 8
  pub limit : d.memory.limit ≡ m.limit
  pub output : IsWithin step_output s.console d.session.console
