-- A grant that stops where the machine begins to wait for a key.
use Rattle.std.specs.Prelude.{ℕ, Bool, ◌&&◌, not}
use Rattle.cpm_geom.specs.Disk.{Disk}
use Rattle.cpm_bdos.specs.Waiting.{is_waiting}
use Rattle.cpm_machine.specs.MachineState.{MachineState}
use Rattle.cpm_machine.specs.Step.{can_step, after}
use Rattle.cpm_machine.specs.Serve.{longest}

-- own: the next step can be made, and is none that waits for a key
abbrev pub can_work : MachineState → Bool
can_work s = can_step s && not (is_waiting s.session s.memory)

-- own: such a grant executes the greatest number of steps, at most n, of which each can be made so
unfoldable pub executed_to_wait : Disk → ℕ → MachineState → ℕ
executed_to_wait system n s = longest (λ k. can_work (after system k s)) n
