-- Whether a machine waits for a key, whatever output waits to be taken.
use Rattle.std.proofs.Common.{◌≡◌, ℕ, ◌==◌, ◌&&◌, not, is_some, Bool, List, refl, ap, if◌then◌else◌}
use Rattle.cpm_memory.specs.Contents.{Contents}
use Rattle.cpm_memory.specs.Layout.{bdos_address, console_input_address}
use Rattle.cpm_bdos.specs.Function.{function_of}
use Rattle.cpm_bdos.specs.Keys.{first_key}
use Rattle.cpm_bdos.specs.Waiting.{function_needs_key, is_waiting, needs_key, part_needs_key}
use Rattle.cpm_bdos.specs.declared.session.CommandPart.{CommandPart}
use Rattle.cpm_bdos.specs.declared.session.CommandPart.TheVariants as part
use Rattle.cpm_bdos.specs.declared.session.Session.{Session}
use Rattle.cpm_bdos.specs.declared.session.Mode.{Mode}
use Rattle.cpm_bdos.specs.declared.session.Mode.TheVariants.{Program, Text, Line, Hold, Fault, Command}
use Rattle.cpm_bdos.specs.declared.function.Function.{Function}
use Rattle.cpm_bdos.specs.declared.function.Function.TheVariants as function
use Rattle.cpm_machine.specs.MachineState.{MachineState}
use Rattle.cpm_machine.specs.Serve.{look_of}
use Rattle.cpm_machine.specs.Step.{is_running}

-- the session with other output that waits
abbrev pub with_output : List ℕ → List ℕ → Session → Session
with_output xs ys s = record s { console = record s.console { screen = xs; printer = ys } }

module _ (xs ys : List ℕ) (s : Session) (m : Contents) where
  function-same : (f : Function) → function_needs_key f (with_output xs ys s) m ≡ function_needs_key f s m
  function-same function.WarmBoot = refl
  function-same function.ReadKey = refl
  function-same function.WriteByte = refl
  function-same function.ReaderInput = refl
  function-same function.PunchOutput = refl
  function-same function.ListOutput = refl
  function-same function.DirectConsole = refl
  function-same function.GetIoByte = refl
  function-same function.SetIoByte = refl
  function-same function.WriteText = refl
  function-same function.ReadLine = refl
  function-same function.ConsoleStatus = refl
  function-same function.Version = refl
  function-same function.ResetDisks = refl
  function-same function.SelectDisk = refl
  function-same (function.File call) = refl
  function-same function.LoginVector = refl
  function-same function.CurrentDisk = refl
  function-same function.SetBuffer = refl
  function-same function.AllocationVector = refl
  function-same function.ProtectDisk = refl
  function-same function.ReadOnlyVector = refl
  function-same function.DiskParameters = refl
  function-same function.UserCode = refl
  function-same function.ResetDrives = refl
  function-same function.Other = refl

  part-same : (part : CommandPart) → part_needs_key part (with_output xs ys s) ≡ part_needs_key part s
  part-same part.Line = refl
  part-same part.Begin = refl
  part-same (part.Directory next column) = refl
  part-same part.Answer = refl
  part-same part.EraseAll = refl
  part-same (part.Save next left) = refl
  part-same part.Close = refl
  part-same part.Show = refl
  part-same (part.Load next) = refl

  needs-same : (mode : Mode) → needs_key mode (with_output xs ys s) m ≡ needs_key mode s m
  needs-same Program = ap (λ (b : Bool). if s.regs.pc == bdos_address then b else s.regs.pc == console_input_address) (function-same (function_of s.regs.c))
  needs-same (Text address) = refl
  needs-same Line = refl
  needs-same (Hold held) = refl
  needs-same Fault = refl
  needs-same (Command part) = part-same part

  waits-same : is_waiting (with_output xs ys s) m ≡ is_waiting s m
  waits-same = ap (λ b. b && not (is_some (first_key s))) (needs-same s.mode)

pub waits-output : (xs ys : List ℕ) (s : MachineState) → (look_of (record s { session = with_output xs ys s.session })).waiting ≡ (look_of s).waiting
unfolding look_of
waits-output xs ys s = ap (λ b. is_running s.ended && b) (waits-same xs ys s.session s.memory)
