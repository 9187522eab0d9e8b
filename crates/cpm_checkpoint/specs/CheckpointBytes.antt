-- What a checkpoint says, and its bytes. All of it is own.
use Rattle.std.specs.Prelude.{◌≡◌, ◌<◌, ◌≤◌, ◌^◌, ⊤, ℕ, List, [], ◌∷◌, ◌++◌, length, map, Option, Some, None, option_map}
use Rattle.std.specs.List.{All, AllByRecursion, flat_map}
use Rattle.std.specs.Int.{to_le_bytes, w64}
use Rattle.cpm_checkpoint.specs.declared.checkpoint.Checkpoint.{Checkpoint}
use Rattle.cpm_checkpoint.specs.declared.checkpoint.CheckpointSession.{CheckpointSession}

-- where a session stands: how many of its keys were pressed, the steps that are done, what was taken of its console and its list
-- device, and the saving of its machine
pub record SessionValue : Type 0 where
  pub pressed : ℕ
  pub done : ℕ
  pub console : List ℕ
  pub list : List ℕ
  pub saving : List ℕ

-- the digest of what the run began with, and each of its sessions that has begun
pub record CheckpointValue : Type 0 where
  pub beginning : List ℕ
  pub sessions : List (Option SessionValue)

-- ---- values of the code

abbrev pub session_value : CheckpointSession → SessionValue
session_value s =
    record { pressed = s.pressed; done = s.done; console = s.console.items; list = s.list.items; saving = s.saving.items }

abbrev pub session_values : List (Option CheckpointSession) → List (Option SessionValue)
session_values sessions = map (option_map session_value) sessions

abbrev pub checkpoint_value : Checkpoint → CheckpointValue
checkpoint_value c = record { beginning = c.beginning; sessions = session_values c.sessions.items }

-- ---- bytes

-- `cpmrun`, the byte that ends a text, and 0
abbrev pub checkpoint_magic : List ℕ
checkpoint_magic = 0x63 ∷ 0x70 ∷ 0x6D ∷ 0x72 ∷ 0x75 ∷ 0x6E ∷ 0x1A ∷ 0x00 ∷ []

-- the number of this format
abbrev pub checkpoint_version : List ℕ
checkpoint_version = 1 ∷ []

-- eight bytes, the lowest first
abbrev pub long : ℕ → List ℕ
long n = to_le_bytes w64 n

-- how many bytes come, and then these
abbrev pub run : List ℕ → List ℕ
run bytes = long (length bytes) ++ bytes

-- the order of a session
abbrev pub session_bytes : SessionValue → List ℕ
session_bytes s = long s.pressed ++ (long s.done ++ (run s.console ++ (run s.list ++ run s.saving)))

-- 0 for a session that has not begun; 1 and where it stands
abbrev pub marked_bytes : Option SessionValue → List ℕ
marked_bytes None = 0 ∷ []
marked_bytes (Some s) = 1 ∷ session_bytes s

-- the order of a checkpoint
unfoldable pub checkpoint_bytes : CheckpointValue → List ℕ
checkpoint_bytes c = checkpoint_magic ++ (checkpoint_version ++ (c.beginning ++ length c.sessions ∷ flat_map marked_bytes c.sessions))

-- ---- which values have bytes

-- so many sessions a checkpoint may have
abbrev pub most_sessions : ℕ
most_sessions = 64

abbrev pub AreByteValues : List ℕ → Type 0
AreByteValues bytes = All (λ b. b < 256) bytes

abbrev pub IsByteRun : List ℕ → Type 0
IsByteRun bytes = (length bytes < 2 ^ 64) × AreByteValues bytes

-- numbers of 64 bits, and bytes
pub record IsSession (s : SessionValue) : Type 0 where
  pub pressed : s.pressed < 2 ^ 64
  pub done : s.done < 2 ^ 64
  pub console : IsByteRun s.console
  pub list : IsByteRun s.list
  pub saving : IsByteRun s.saving

abbrev pub IsSessionIfAny : Option SessionValue → Type 0
IsSessionIfAny None = ⊤
IsSessionIfAny (Some s) = IsSession s

-- a digest of 32 bytes, and 64 sessions at most
pub record IsCheckpoint (c : CheckpointValue) : Type 0 where
  pub beginning : (length c.beginning ≡ 32) × AreByteValues c.beginning
  pub count : length c.sessions ≤ most_sessions
  pub sessions : AllByRecursion IsSessionIfAny c.sessions
