-- Where the sessions of a run stand on its way, and what is left of them to play. All of it is own.
use Rattle.std.specs.Prelude.{ℕ, ◌-◌, List, [], ◌∷◌, ◌++◌, map, drop, slice_get, nat_eq, if◌then◌else◌}
use Rattle.std.specs.Prelude.{Option, Some, None, option_and_then, option_map, Result, Ok, Err}
use Rattle.std.specs.Cmp.Lexicographic.{pointwise}
use Rattle.cpm_batch.specs.Inputs.{Forks, Opens, Restores, StartInput}
use Rattle.cpm_batch.specs.Outputs.{SessionOutput}
use Rattle.cpm_checkpoint.specs.CheckpointBytes.{CheckpointValue, SessionValue}
use Rattle.cpm_machine.specs.Saving.{Saving, restored}
use Rattle.cpm_saved.specs.declared.part.SavingDamage.{SavingDamage}
use Rattle.cpm_script.specs.declared.script.Key.{Key}
use Rattle.cpm_run.specs.Settled.{SettledSession}

-- ---- where sessions stand

-- how many of its keys a session has got, and how many of its steps it has executed; what it has shown so far on its console and its list device; and the
-- saving of its machine, whose output was taken
pub record SessionStanding : Type 0 where
  pub pressed : ℕ
  pub done : ℕ
  pub console : List ℕ
  pub list : List ℕ
  pub saving : Saving

-- where the sessions of a run stand, each at its place; none where one has not begun, or is still to be forked
abbrev pub RunStanding : Type 0
RunStanding = List (Option SessionStanding)

abbrev pub standing_at : RunStanding → (place : ℕ) → Option SessionStanding
standing_at all place = option_and_then (λ s. s) (slice_get all place)

-- where a session stands that begins so: as it does itself; or where it is still to be forked, as the one does that it is forked from
abbrev pub stands_by : (all : RunStanding) → (own : Option SessionStanding) → StartInput → Option SessionStanding
stands_by all (Some s) start = Some s
stands_by all None (Opens cpu quota drives) = None
stands_by all None (Forks parent at) = standing_at all parent
stands_by all None (Restores x) = None

-- ---- the rest of a run

-- the keys after so many, whose counts begin at this one
abbrev pub keys_left : (pressed done : ℕ) → List Key → List Key
keys_left pressed done keys = map (λ k. record { count = k.count - done; byte = k.byte }) (drop pressed keys)

-- how the rest of a session begins: from its saving. One that is still to be forked is forked so many steps sooner as the other one has executed
abbrev pub rest_start : (own from : Option SessionStanding) → StartInput → StartInput
rest_start (Some s) from start = Restores s.saving
rest_start None None start = start
rest_start None (Some s) (Opens cpu quota drives) = Opens cpu quota drives
rest_start None (Some s) (Forks parent at) = Forks parent (at - s.done)
rest_start None (Some s) (Restores x) = Restores x

-- what is left to play of a session that stands so, where its rest begins with this; all of one that has not begun
abbrev pub rest_from : Option SessionStanding → StartInput → SettledSession → SettledSession
rest_from None start i = i
rest_from (Some s) start i = record i {
  start = start;
  keys = keys_left s.pressed s.done i.keys;
  before = i.before - s.pressed;
  steps = i.steps - s.done;
}

abbrev pub rest_of_session : (all : RunStanding) → (own : Option SessionStanding) → SettledSession → SettledSession
rest_of_session all own i = let from = stands_by all own i.start in rest_from from (rest_start own from i.start) i

-- of some sessions, the first of which has the first of these standings
abbrev pub rests : (all : RunStanding) → List SettledSession → RunStanding → List SettledSession
rests all [] ss = []
rests all (i ∷ is) ss = rest_of_session all (standing_at ss 0) i ∷ rests all is (drop 1 ss)

-- of a run that stands there
abbrev pub rest_of : List SettledSession → RunStanding → List SettledSession
rest_of inputs standing = rests standing inputs standing

-- what is played of a run: all of it, or where it stood somewhere the rest
abbrev pub rest_if : List SettledSession → Option RunStanding → List SettledSession
rest_if inputs None = inputs
rest_if inputs (Some s) = rest_of inputs s

-- ---- what the whole run leaves

-- where each session stands, or the one that it is still to be forked from
abbrev pub stands_all : (all : RunStanding) → List SettledSession → RunStanding → RunStanding
stands_all all [] ss = []
stands_all all (i ∷ is) ss = stands_by all (standing_at ss 0) i.start ∷ stands_all all is (drop 1 ss)

-- what a session's rest leaves, with what it had shown before in front
abbrev pub output_behind : Option SessionStanding → SessionOutput → SessionOutput
output_behind None o = o
output_behind (Some s) o = record o { console = s.console ++ o.console; list = s.list ++ o.list }

-- of some sessions, the first of which stands as the first of these
abbrev pub outputs_behind : RunStanding → List SessionOutput → List SessionOutput
outputs_behind ss [] = []
outputs_behind ss (o ∷ os) = output_behind (standing_at ss 0) o ∷ outputs_behind (drop 1 ss) os

-- ---- what a checkpoint says

-- where a session stands by this, unless its saving is damaged
abbrev pub standing_with : SessionValue → Result Saving SavingDamage → Option SessionStanding
standing_with v (Err damage) = None
standing_with v (Ok x) = Some (record { pressed = v.pressed; done = v.done; console = v.console; list = v.list; saving = x })

abbrev pub standing_if_begun : Option SessionValue → Option (Option SessionStanding)
standing_if_begun None = Some None
standing_if_begun (Some v) = option_map (λ s. Some s) (standing_with v (restored v.saving))

-- where the sessions stand, unless one of their savings is damaged
abbrev pub standing_read : List (Option SessionValue) → Option RunStanding
standing_read [] = Some []
standing_read (v ∷ vs) = option_and_then (λ s. option_map (λ ss. s ∷ ss) (standing_read vs)) (standing_if_begun v)

-- where the sessions of a run with this beginning stand, as a checkpoint says that is given: none, where it is of another run, or damaged
abbrev pub standing_given : (beginning : List ℕ) → Option CheckpointValue → Option RunStanding
standing_given beginning None = None
standing_given beginning (Some c) = if pointwise nat_eq c.beginning beginning then standing_read c.sessions else None
