-- A grant that stops before the program comes to an address.
use Rattle.std.specs.Prelude.{ℕ, ◌&&◌, ◌||◌, ◌==◌, not, Bool, true, false, if◌then◌else◌}
use Rattle.cpm_geom.specs.Disk.{Disk}
use Rattle.cpm_bdos.specs.declared.session.Session.{Session}
use Rattle.cpm_bdos.specs.declared.session.Mode.{Mode}
use Rattle.cpm_bdos.specs.declared.session.Mode.TheVariants.{Program}
use Rattle.cpm_machine.specs.declared.reply.Granted.{Granted}
use Rattle.cpm_machine.specs.declared.reply.Why.{Why}
use Rattle.cpm_machine.specs.declared.reply.Why.TheVariants.{All, Stopped, Break, Blocked}
use Rattle.cpm_machine.specs.MachineState.{MachineState}
use Rattle.cpm_machine.specs.Step.{is_running, can_step, after}
use Rattle.cpm_machine.specs.Serve.{longest}

-- neither a call nor the command processor has a part to do
abbrev pub is_program : Mode → Bool
is_program Program = true
is_program _ = false

-- own: the next step begins in the program at this address
abbrev pub begins_at : ℕ → Session → Bool
begins_at pc s = is_program s.mode && (s.regs.pc == pc)

-- own: the next step of a grant that executed so many can be made, and doesn't begin at this address unless it is the first
abbrev pub can_go_on : ℕ → ℕ → MachineState → Bool
can_go_on pc k s = can_step s && ((k == 0) || not (begins_at pc s.session))

-- such a grant executes the greatest number of steps, at most n, of which each can be made so
unfoldable pub executed_until : Disk → ℕ → ℕ → MachineState → ℕ
executed_until system pc n s = longest (λ k. can_go_on pc k (after system k s)) n

-- why such a grant of n steps ended after k of them, which left this state: the first reason that fits
abbrev pub why_until : ℕ → ℕ → ℕ → MachineState → Why
why_until pc n k s =
    if k == n then All else if not (is_running s.ended) then Stopped
    else if not (k == 0) && begins_at pc s.session then Break else Blocked

abbrev pub granted_until : Disk → ℕ → ℕ → MachineState → Granted
granted_until system pc n s =
    let k = executed_until system pc n s in record { executed = k; why = why_until pc n k (after system k s) }
