-- What is kept of the sessions of a run on its way, as where they stand. All of it is own.
use Rattle.std.specs.Prelude.{⊤, ◌+◌, ◌<◌, ◌^◌, ℕ, List, map, Option, None, Some, option_map}
use Rattle.cpm_batch.specs.Savings.{saving_view}
use Rattle.cpm_play.specs.declared.player.Player.{Player}
use Rattle.cpm_play.specs.declared.player.Player.TheVariants.{Playing, Waiting}
use Rattle.cpm_play.specs.declared.scripted_slot.ScriptedSlot.{ScriptedSlot}
use Rattle.cpm_machine.specs.MachineState.{MachineState}
use Rattle.cpm_run.specs.Rest.{RunStanding, SessionStanding}
use Rattle.cpm_run.specs.declared.standing.KeptSession.{KeptSession}
use Rattle.cpm_slots.specs.Host.{Host, saving_of, slot_at}

-- the code's value
abbrev pub kept_view : KeptSession → SessionStanding
kept_view k = record { pressed = k.pressed; done = k.done; console = k.console.items; list = k.list.items; saving = saving_view k.saved }

abbrev pub standing_view : List (Option KeptSession) → RunStanding
standing_view kept = map (λ k. option_map kept_view k) kept

-- where a session stands whose slot has this state, from which its output was taken: by its pace and by what it has shown
abbrev pub standing_of_slot : Host → ScriptedSlot → MachineState → SessionStanding
standing_of_slot h slot s = record {
  pressed = slot.pace.pressed;
  done = slot.pace.done;
  console = slot.console.items;
  list = slot.list.items;
  saving = saving_of h s;
}

-- where that of a player stands. One that is still to be forked has no standing of its own
abbrev pub standing_of_player : Host → Player → Option SessionStanding
standing_of_player h (Playing slot) = option_map (standing_of_slot h slot) (slot_at slot.id.0 h.slots)
standing_of_player h (Waiting fork) = None

-- and so those of a run
abbrev pub standing_of : Host → List Player → RunStanding
standing_of h players = map (standing_of_player h) players

-- the numbers of a session's rest go together with those of where it had stood
abbrev pub FitTogether : SessionStanding → SessionStanding → Type 0
FitTogether s rest = (s.pressed + rest.pressed < 2 ^ 64) × (s.done + rest.done < 2 ^ 64)

abbrev pub FitIfAny : Option SessionStanding → Option SessionStanding → Type 0
FitIfAny None rest = ⊤
FitIfAny (Some s) None = ⊤
FitIfAny (Some s) (Some rest) = FitTogether s rest
