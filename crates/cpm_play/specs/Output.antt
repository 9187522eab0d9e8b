-- Where the output of a machine that is played goes: its console and its list device. All of it is own.
use Rattle.std.specs.Prelude.{ℕ, List, Option}
use Rattle.std.specs.Io.KnownBytes.{Appends}
use Rattle.cpm_machine.specs.MachineState.{MachineState}

-- the bytes that both have got so far, as far as they are known
pub record OutputState : Type 0 where
  pub console : Option (List ℕ)
  pub list : Option (List ℕ)

-- of a console that has got the one, and a list device that has got the other
abbrev pub output_state : (console list : Option (List ℕ)) → OutputState
output_state console list = record { console = console; list = list }

-- the one has got the text that waited in this state, and the other the list bytes
pub record GetsOutput (before written : OutputState) (s : MachineState) : Type 0 where
  pub text : Appends before.console written.console s.session.console.screen
  pub list : Appends before.list written.list s.session.console.printer
