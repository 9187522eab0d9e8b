-- What is kept of a run while it is played, as the bytes of a checkpoint. All of it is own.
use Rattle.std.specs.Prelude.{◌≡◌, ℕ, List, map, Option, None, Some, option_map, Ok}
use Rattle.cpm_checkpoint.specs.CheckpointBytes.{CheckpointValue}
use Rattle.cpm_checkpoint.specs.CheckpointReading.{checkpoint_read}
use Rattle.cpm_geom.specs.Disk.{Disk}
use Rattle.cpm_run.specs.Kept.{standing_view}
use Rattle.cpm_run.specs.Rest.{RunStanding, rest_of, standing_read}
use Rattle.cpm_run.specs.Settled.{SettledSession, settled_view}
use Rattle.cpm_run.specs.Standing.{IsTrueStanding, join_standings}
use Rattle.cpm_run.specs.declared.keeper.RunBefore.{RunBefore}

-- these bytes are read as a checkpoint that has this digest, and says that the sessions of a run stand so
pub record IsCheckpointFor (beginning : List ℕ) (standing : RunStanding) (bytes : List ℕ) : Type 0 where
  pub checkpoint : CheckpointValue
  pub read : checkpoint_read bytes ≡ Ok checkpoint
  pub digest : checkpoint.beginning ≡ beginning
  pub sessions : standing_read checkpoint.sessions ≡ Some standing

-- a run whose rest is played: all of its sessions, and where they stood
pub record StoodBefore : Type 0 where
  pub sessions : List SettledSession
  pub standing : RunStanding

-- the code's value
abbrev pub before_view : Option RunBefore → Option StoodBefore
before_view before = option_map (λ b. record { sessions = map settled_view b.inputs.now; standing = standing_view b.kept.now }) before

-- What is kept of a run that is played: where its sessions stand. Where its rest is played, that is joined to where they stood, if both are true.
abbrev pub IsKeptOf : Option StoodBefore → (now kept : RunStanding) → Type 0
IsKeptOf None now kept = kept ≡ now
IsKeptOf (Some b) now kept = (system : Disk) → IsTrueStanding system b.sessions b.standing → IsTrueStanding system (rest_of b.sessions b.standing) now
    → kept ≡ join_standings b.sessions b.standing now
