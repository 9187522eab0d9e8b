-- Whether all sessions of a run can be opened and forked, by what a host has left for them. All of it is own.
use Rattle.std.specs.Prelude.{◌≡◌, ◌≢◌, ◌<◌, ◌+◌, ◌⊎◌, ℕ, true, false, ◌||◌, nat_lt, List, length, slice_get, Option, Some, None, if◌then◌else◌}
use Rattle.cpm_batch.specs.Inputs.{Forks, Opens, Restores, StartInput}
use Rattle.cpm_config.specs.declared.config.Config.{Config}
use Rattle.cpm_geom.specs.Disk.{Disk}
use Rattle.cpm_machine.specs.Opening.{drives_fault}
use Rattle.cpm_machine.specs.Saving.{Saving}
use Rattle.cpm_machine.specs.SystemDigest.{system_digest}
use Rattle.cpm_machine.specs.declared.opening.OpenError.{OpenError}
use Rattle.cpm_machine.specs.declared.opening.OpenError.TheVariants.{BadQuota, NoFrames, NoSlot}
use Rattle.cpm_slots.specs.Host.{Host, are_same, quotas_of}
use Rattle.cpm_run.specs.Run.{AllAccepted, HasForkRoom, IsFirstRefused, IsFirstShort, IsNamedRefusal, pages_of_starts}
use Rattle.cpm_run.specs.Settled.{opening_at}
use Rattle.cpm_run.specs.declared.error.RunError.{RunError}
use Rattle.cpm_run.specs.declared.error.RunError.TheVariants as refusal
use Rattle.cpm_run.specs.declared.error.StartFault.{StartFault}
use Rattle.cpm_run.specs.declared.error.StartFault.TheVariants.{Elsewhere, Unopened}
use Rattle.cpm_run.specs.declared.openings.Room.{Room}

-- ---- one session

-- the fault of an opening with so many pages and so many drives
abbrev pub opening_fault_of : (quota drives : ℕ) → Option OpenError
opening_fault_of quota drives = if nat_lt quota 16 || nat_lt 256 quota then Some BadQuota else drives_fault drives

-- so much is left after a session that may write so many pages
pub record IsRoomAfter (room : Room) (quota : ℕ) (next : Room) : Type 0 where
  pub slots : room.slots ≡ next.slots + 1
  pub frames : room.frames ≡ next.frames + quota

-- there is no slot for it; or there is one, but there are too few frames
abbrev pub IsRoomFault : Room → (quota : ℕ) → OpenError → Type 0
IsRoomFault room quota NoSlot = room.slots ≡ 0
IsRoomFault room quota NoFrames = (0 < room.slots) × (room.frames < quota)
IsRoomFault room quota _ = ⊥

-- a saving is of a machine with this system drive, or it isn't
abbrev pub IsSavedOver : Disk → Saving → Type 0
IsSavedOver system x = are_same x.system_digest (system_digest system) ≡ true

abbrev pub IsSavedElsewhere : Disk → Saving → Type 0
IsSavedElsewhere system x = are_same x.system_digest (system_digest system) ≡ false

-- a session that begins so is opened, or goes on, with this system drive where so much is left
abbrev pub IsOpenedIn : Disk → Room → StartInput → Room → Type 0
IsOpenedIn system room (Opens cpu quota drives) next = (opening_fault_of quota (length drives) ≡ None) × IsRoomAfter room quota next
IsOpenedIn system room (Forks parent at) next = next ≡ room
IsOpenedIn system room (Restores x) next = IsSavedOver system x × IsRoomAfter room x.state.quota next

abbrev pub IsNotOpenedBy : Room → (quota drives : ℕ) → StartFault → Type 0
IsNotOpenedBy room quota drives (Unopened e) =
    (opening_fault_of quota drives ≡ Some e) ⊎ ((opening_fault_of quota drives ≡ None) × IsRoomFault room quota e)
IsNotOpenedBy room quota drives Elsewhere = ⊥

abbrev pub IsNotRestoredBy : Disk → Room → Saving → StartFault → Type 0
IsNotRestoredBy system room x (Unopened e) = IsSavedOver system x × IsRoomFault room x.state.quota e
IsNotRestoredBy system room x Elsewhere = IsSavedElsewhere system x

abbrev pub IsNotOpenedIn : Disk → Room → StartInput → StartFault → Type 0
IsNotOpenedIn system room (Opens cpu quota drives) e = IsNotOpenedBy room quota (length drives) e
IsNotOpenedIn system room (Forks parent at) e = ⊥
IsNotOpenedIn system room (Restores x) e = IsNotRestoredBy system room x e

-- the pages that a session may write that begins so, if it isn't forked
abbrev pub quota_read : Option StartInput → ℕ
quota_read start = (opening_at start).quota

-- a session is forked there, one of these
abbrev pub IsForkedIn : List StartInput → Room → StartInput → Room → Type 0
IsForkedIn starts room (Opens cpu quota drives) next = next ≡ room
IsForkedIn starts room (Forks parent at) next = IsRoomAfter room (quota_read (slice_get starts parent)) next
IsForkedIn starts room (Restores x) next = next ≡ room

abbrev pub IsNotForkedIn : List StartInput → Room → StartInput → OpenError → Type 0
IsNotForkedIn starts room (Opens cpu quota drives) e = ⊥
IsNotForkedIn starts room (Forks parent at) e = IsRoomFault room (quota_read (slice_get starts parent)) e
IsNotForkedIn starts room (Restores x) e = ⊥

-- ---- all sessions

-- so much a host has left after so many forks, which may write so many pages
pub record IsRoomLeft (h : Host) (forks pages : ℕ) (room : Room) : Type 0 where
  pub slots : length h.slots + forks + room.slots ≡ 64
  pub frames : quotas_of h.slots + pages + room.frames ≡ h.frames
  pub numbers : h.openings ≡ length h.slots

-- All that aren't forked are accepted from this host on. With so much left, all sessions are accepted if there is room for the forks, and else the first is
-- refused for which there is none.
pub record HasOpenedAll (starts : List StartInput) (first : Host) (room : Room) : Type 0 where
  pub host : Host
  pub left : IsRoomLeft host 0 0 room
  pub accepts : HasForkRoom starts host → AllAccepted starts first starts
  pub refuses : (fault : OpenError) (place : ℕ) → IsFirstShort starts host fault place → IsFirstRefused starts first 0 starts (Unopened fault) place

-- how a run is refused for a session that can't be opened or forked, or go on
abbrev pub IsJudgedSo : Config → Host → List StartInput → RunError → Type 0
IsJudgedSo config h starts (refusal.SessionRefused name fault) =
    (fault ≢ NoFrames) × IsNamedRefusal config.sessions.items h starts (Unopened fault) name.bytes
IsJudgedSo config h starts (refusal.FramesExceeded name quotas frames) =
    (quotas ≡ pages_of_starts starts) × (frames ≡ config.frames) × IsNamedRefusal config.sessions.items h starts (Unopened NoFrames) name.bytes
IsJudgedSo config h starts (refusal.SavedElsewhere name) = IsNamedRefusal config.sessions.items h starts Elsewhere name.bytes
IsJudgedSo config h starts _ = ⊥
