-- What a person is told of a command, beside what it prints. All of it is own.
use Rattle.std.specs.Prelude.{◌≡◌, ◌&&◌, ℕ, Bool, true, false, is_some, slice_index, List, [], ◌∷◌, ◌++◌, codes, not, string_bytes, MatchOption, Option}
use Rattle.cpm_command_line.specs.declared.task.PlayTask.{PlayTask}
use Rattle.cpm_decode.specs.RowsZ80.{decodedz80}
use Rattle.cpm_flags.specs.declared.regs.Cpu.{Cpu}
use Rattle.cpm_flags.specs.declared.regs.Cpu.TheVariants.{I8080, Z80}
use Rattle.cpm_machine.specs.declared.reply.End.{End}
use Rattle.cpm_machine.specs.declared.reply.End.TheVariants.{Illegal}
use Rattle.cpm_play.specs.declared.live.PlayEnd.{PlayEnd}
use Rattle.cpm_run.specs.Ending.{ending_text, illegal_of, illegal_text}
use Rattle.cpm_run.specs.declared.ending.Ending.{Ending}
use Rattle.cpm_run.specs.declared.report.SessionReport.{SessionReport}
use Rattle.cpm_disk_commands.specs.declared.damage.NamedFile.{NamedFile}
use Rattle.cpm_commands.specs.Drives.{AreToldBy}
use Rattle.cpm_commands.specs.OutFolder.{IsUnwrittenTold}
use Rattle.cpm_commands.specs.Report.{typing_word, waiting_word}

-- ---- of a program

-- the last line: how it ended, whether it was to stop where it waits for a key, and did, and why no more was typed
abbrev pub end_line : Ending → Bool → Option PlayEnd → List ℕ
end_line e waits end = ending_text e ++ waiting_word waits ++ typing_word end

-- it ended at bytes that are no instruction of the 8080 on which it ran, and are one of the Z80
abbrev pub ended_illegal : End → Bool
ended_illegal Illegal = true
ended_illegal end = false

abbrev pub is_8080 : Cpu → Bool
is_8080 I8080 = true
is_8080 Z80 = false

abbrev pub is_instruction_z80 : List ℕ → Bool
is_instruction_z80 bytes = is_some (decodedz80 (slice_index bytes 0) (slice_index bytes 1) (slice_index bytes 2) (slice_index bytes 3))

abbrev pub needs_z80 : Cpu → Ending → Bool
needs_z80 cpu e = is_8080 cpu && ended_illegal e.ended && is_instruction_z80 e.at_pc

-- a person is told then what may help
abbrev pub z80_hint : List ℕ
z80_hint = codes "hint: the Z80 has this instruction; try --z80"

-- a person is told where what was printed was dropped
abbrev pub list_hint : List ℕ
list_hint = codes "hint: what was sent to the printer was dropped; --list FILE keeps it"

abbrev pub IsToldIf : {M : Type 0} → (M → List ℕ → M → Type 0) → Bool → List ℕ → M → M → Type 0
IsToldIf {M} tells false line old new = new ≡ old
IsToldIf {M} tells true line old new = tells old line new

-- a person who reads all this is told what may help, and where what was printed was dropped
pub record AreHintsTold {M : Type 0} (tells : M → List ℕ → M → Type 0) (is_read : M → Bool) (task : PlayTask) (e : Ending) (dropped : Bool) (old new : M)
    : Type 0 where
  pub between : M
  pub z80 : IsToldIf tells (is_read old && needs_z80 task.cpu e) z80_hint old between
  pub list : IsToldIf tells (is_read between && dropped) list_hint between new

-- Where it ended at bytes that are no instruction, these are told; and then how it ended, unless that is not to be told; and then the hints.
pub record IsEndTold {M : Type 0} (tells : M → List ℕ → M → Type 0) (is_read : M → Bool) (task : PlayTask) (e : Ending) (waits : Bool) (end : Option PlayEnd)
    (dropped : Bool) (old new : M) : Type 0 where
  pub between : M
  pub behind : M
  pub illegal : MatchOption (illegal_of e.ended e.pc e.at_pc) (between ≡ old) (λ i. tells old (illegal_text i) between)
  pub last : IsToldIf tells (not task.is_quiet) (end_line e waits end) between behind
  pub hints : AreHintsTold tells is_read task e dropped behind new

-- ---- of the sessions of a run

-- of a session that ended at such bytes they are told, with its name
abbrev pub IsIllegalTold : {M : Type 0} → (M → List ℕ → M → Type 0) → SessionReport → M → M → Type 0
IsIllegalTold {M} tells s old new =
    MatchOption (illegal_of s.ending.ended s.ending.pc s.ending.at_pc) (new ≡ old) (λ i. tells old (string_bytes s.name ++ codes " " ++ illegal_text i) new)

-- of each session, in their order
abbrev pub AreIllegalTold : {M : Type 0} → (M → List ℕ → M → Type 0) → List SessionReport → M → M → Type 0
AreIllegalTold {M} tells [] old new = new ≡ old
AreIllegalTold {M} tells (s ∷ ss) old new = (next : M) × IsIllegalTold tells s old next × AreIllegalTold tells ss next new

-- ---- in a command

-- so it was told at last of a program: the files that are not written, and how it ended
pub record HasToldEnd {M : Type 0} (tells : M → List ℕ → M → Type 0) (is_read : M → Bool) (task : PlayTask) (unwritten : List (List ℕ × NamedFile))
    (e : Ending) (waits : Bool) (end : Option PlayEnd) (dropped : Bool) (new : M) : Type 0 where
  pub before : M
  pub between : M
  pub unwritten_told : AreToldBy (IsUnwrittenTold tells) unwritten before between
  pub told : IsEndTold tells is_read task e waits end dropped between new

-- and of sessions
pub record HasToldIllegal {M : Type 0} (tells : M → List ℕ → M → Type 0) (sessions : List SessionReport) (new : M) : Type 0 where
  pub before : M
  pub told : AreIllegalTold tells sessions before new
