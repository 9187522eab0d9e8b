-- What a machine answers, and what it is afterwards.
use Rattle.std.specs.Prelude.{ℕ, zero, suc, length, drop, min, ◌&&◌, ◌==◌, not, nat_lt, Bool, if◌then◌else◌}
use Rattle.cpm_geom.specs.Disk.{Disk}
use Rattle.cpm_memory.specs.Contents.{touched_of}
use Rattle.cpm_console.specs.Terminal.{pressed, most_pending}
use Rattle.cpm_bdos.specs.Waiting.{is_waiting}
use Rattle.cpm_machine.specs.declared.reply.Why.{Why}
use Rattle.cpm_machine.specs.declared.reply.Why.TheVariants.{All, Stopped, Blocked}
use Rattle.cpm_machine.specs.declared.reply.Look.{Look}
use Rattle.cpm_machine.specs.MachineState.{MachineState}
use Rattle.cpm_machine.specs.Step.{is_running, can_step, after}

-- the greatest number up to n below which the test holds everywhere
abbrev pub longest : (ℕ → Bool) → ℕ → ℕ
longest test zero = 0
longest test (suc n) = if longest test n == n && test n then suc n else longest test n

-- a grant of n executes the greatest number of steps, at most n, of which each begins where a step can be made
unfoldable pub executed : Disk → ℕ → MachineState → ℕ
executed system n s = longest (λ k. can_step (after system k s)) n

-- why a grant of n steps ended after k of them, which left this state: the first reason that fits
abbrev pub why : ℕ → ℕ → MachineState → Why
why n k s = if k == n then All else if not (is_running s.ended) then Stopped else Blocked

-- own: 4,096 keys may be pending
abbrev pub takes_key : MachineState → Bool
takes_key s = nat_lt (length s.session.console.keys) most_pending

-- the state after a key was pressed, which the next step can read
abbrev pub keyed : ℕ → MachineState → MachineState
keyed key s = record s { session = record s.session { console = pressed s.session.console key } }

-- what is seen of a state
unfoldable pub look_of : MachineState → Look
look_of s = record {
  regs = s.session.regs;
  count = s.count;
  ended = s.ended;
  pages = touched_of s.memory;
  waiting = is_running s.ended && is_waiting s.session s.memory;
  keys = length s.session.console.keys;
  console = length s.session.console.screen;
  list = length s.session.console.printer;
}

-- the state after up to so many console bytes, or list bytes, were taken
abbrev pub taken : ℕ → MachineState → MachineState
taken room s =
    record s {
      session = record s.session {
        console = record s.session.console { screen = drop (min room (length s.session.console.screen)) s.session.console.screen };
      };
    }

abbrev pub taken_list : ℕ → MachineState → MachineState
taken_list room s =
    record s {
      session = record s.session {
        console = record s.session.console { printer = drop (min room (length s.session.console.printer)) s.session.console.printer };
      };
    }
