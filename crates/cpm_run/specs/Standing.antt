-- Where a run stands truly on its way. All of it is own.
use Rattle.std.specs.Prelude.{⊤, ◌≡◌, ◌≤◌, ◌+◌, ℕ, List, [], ◌∷◌, ◌++◌, length, take, drop, slice_get, Option, Some, None, IfSome}
use Rattle.cpm_batch.specs.Inputs.{Forks, Opens, Restores, StartInput}
use Rattle.cpm_geom.specs.Disk.{Disk}
use Rattle.cpm_machine.specs.MachineState.{MachineState}
use Rattle.cpm_machine.specs.Saving.{saving_with}
use Rattle.cpm_machine.specs.SystemDigest.{system_digest}
use Rattle.cpm_play.specs.Live.{AreBy}
use Rattle.cpm_play.specs.Pacing.{HaveComeAfter}
use Rattle.cpm_play.specs.Players.{AllBefore}
use Rattle.cpm_play.specs.Playing.{IsInOrder, alone_by, state_left}
use Rattle.cpm_script.specs.declared.script.Key.{Key}
use Rattle.cpm_run.specs.Rest.{RunStanding, SessionStanding, standing_at, stands_by}
use Rattle.cpm_run.specs.Run.{start_of}
use Rattle.cpm_run.specs.Settled.{SettledSession}

-- ---- a standing that is true

-- A session stands there by these keys and no others, each of which came; it has shown what the machine has shown that is run alone by them from where the
-- session begins, and that machine is saved. Its other keys come there or later.
pub record StandsThere (system : Disk) (start : MachineState) (i : SettledSession) (s : SessionStanding) : Type 0 where
  pub within : s.done ≤ i.steps
  pub few : s.pressed ≤ length i.keys
  pub early : AreBy s.done (take s.pressed i.keys)
  pub come : HaveComeAfter system start i.steps [] (take s.pressed i.keys)
  pub later : IsInOrder s.done (drop s.pressed i.keys)
  pub console : s.console ≡ (alone_by system (take s.pressed i.keys) s.done start).session.console.screen
  pub list : s.list ≡ (alone_by system (take s.pressed i.keys) s.done start).session.console.printer
  pub saving : s.saving ≡ saving_with (system_digest system) (state_left system (take s.pressed i.keys) s.done start)

-- one that is still to be forked is not behind its fork, and all of these keys that it has got come before that
abbrev pub IsBeforeFork : (own from : Option SessionStanding) → List Key → StartInput → Type 0
IsBeforeFork (Some s) from keys start = ⊤
IsBeforeFork None None keys start = ⊤
IsBeforeFork None (Some s) keys (Opens cpu quota drives) = ⊤
IsBeforeFork None (Some s) keys (Forks parent at) = (s.done ≤ at) × AllBefore at (take s.pressed keys)
IsBeforeFork None (Some s) keys (Restores x) = ⊤

-- so stands the session that has this standing of its own
pub record IsTrueOf (system : Disk) (inputs : List SettledSession) (all : RunStanding) (own : Option SessionStanding) (i : SettledSession) : Type 0 where
  pub there : IfSome (stands_by all own i.start) (StandsThere system (start_of inputs i) i)
  pub ahead : IsBeforeFork own (stands_by all own i.start) i.keys i.start

-- and so each of the run
pub record IsTrueStanding (system : Disk) (inputs : List SettledSession) (standing : RunStanding) : Type 0 where
  pub long : length standing ≡ length inputs
  pub each : (place : ℕ) → IfSome (slice_get inputs place) (IsTrueOf system inputs standing (standing_at standing place))

-- ---- the rest of a run on its way

-- where a session stands whose rest, from where it had stood, stands so
abbrev pub joined : SessionStanding → SessionStanding → SessionStanding
joined s rest = record {
  pressed = s.pressed + rest.pressed;
  done = s.done + rest.done;
  console = s.console ++ rest.console;
  list = s.list ++ rest.list;
  saving = rest.saving;
}

-- it stands as it did where its rest has not begun, and as its rest where it had not begun itself
abbrev pub joined_if : (from own rest : Option SessionStanding) → Option SessionStanding
joined_if from own None = own
joined_if None own (Some rest) = Some rest
joined_if (Some s) own (Some rest) = Some (joined s rest)

-- so it is with some sessions, the first of which had the first of some standings, and whose rest has the first of others
abbrev pub join_all : (all : RunStanding) → List SettledSession → RunStanding → RunStanding → RunStanding
join_all all [] ss rests = []
join_all all (i ∷ is) ss rests =
    joined_if (stands_by all (standing_at ss 0) i.start) (standing_at ss 0) (standing_at rests 0) ∷ join_all all is (drop 1 ss) (drop 1 rests)

-- where a run stands, whose rest stands so
abbrev pub join_standings : List SettledSession → RunStanding → RunStanding → RunStanding
join_standings inputs standing rest = join_all standing inputs standing rest
