-- What a journal has been through, over any number of services. All of it is own: docs/JOURNAL.md.
use Rattle.std.specs.Prelude.{◌≡◌, ◌≤◌, ◌-◌, ℕ, List, [], length, take, Option, Some}
use Rattle.cpm_geom.specs.Disk.{Disk}
use Rattle.cpm_slots.specs.Host.{Host, IsHost, new_host}
use Rattle.cpm_serve.specs.Compact.{IsCompact, IsHeadWritten}
use Rattle.cpm_serve.specs.Folder.{FolderAccess}
use Rattle.cpm_serve.specs.KeptFolder.{IsKeptAccess}
use Rattle.cpm_serve.specs.Laws.{IsFold}
use Rattle.cpm_serve.specs.Lines.{AreLinesServed}
use Rattle.cpm_serve.specs.Resumed.{AreLinesBegun, IsResumed, IsServedInPart}
use Rattle.cpm_serve.specs.declared.kept.KeptFolder.{KeptFolder}

-- a text without so many bytes at its end
abbrev pub without_torn : ℕ → List ℕ → List ℕ
without_torn torn text = take (length text - torn) text

-- A service goes on with a journal, or with one that is just begun. A new host over the same system drive and with as many frames is made again of it, and
-- what is torn is dropped. Then lines are served whose replies are sent, and others, the last perhaps not to its end. It ends, or is cut off at any byte behind
-- what is kept of the lines that were replied to.
pub record IsService {F J : Type 0} (does : F → FolderAccess → F → Type 0) (contents : J → Option (List ℕ)) (system : Disk) (frames : ℕ)
    (text left : List ℕ) : Type 0 where
  pub resumed : Host
  pub torn : ℕ
  pub again : IsResumed text (new_host system frames) resumed torn
  pub from : KeptFolder F J
  pub begins : contents from.journal ≡ Some (without_torn torn text)
  -- the lines that were replied to
  pub told : List (List ℕ)
  pub texts : List (List ℕ)
  pub mid : Host
  pub between : KeptFolder F J
  pub served : AreLinesServed (IsKeptAccess does contents) told resumed mid from between texts
  pub kept : List ℕ
  pub keeps : contents between.journal ≡ Some kept
  -- and others
  pub others : List (List ℕ)
  pub new : Host
  pub to : KeptFolder F J
  pub begun : AreLinesBegun (IsKeptAccess does contents) others mid new between to
  pub whole : List ℕ
  pub ends : contents to.journal ≡ Some whole
  pub count : ℕ
  pub behind : length kept ≤ count
  pub cut : left ≡ take count whole

-- A journal is written anew, as one of savings, of the host that is made again of it. It has less than 2^64 openings behind it, as every host.
pub record IsAnew (system : Disk) (frames : ℕ) (text left : List ℕ) : Type 0 where
  pub resumed : Host
  pub torn : ℕ
  pub again : IsResumed text (new_host system frames) resumed torn
  pub is : IsHost resumed
  pub last : resumed.openings ≤ 18446744073709551615
  pub made : IsCompact resumed (Some []) (Some left)

-- What led to the text of a journal: it was begun, with the head of a new host; services went on with it; and it was written anew between them.
pub data History {F J : Type 0} (does : F → FolderAccess → F → Type 0) (contents : J → Option (List ℕ)) (system : Disk) (frames : ℕ) : List ℕ → Type 0 where
  Begun : (text : List ℕ) → IsHeadWritten (new_host system frames) (Some []) (Some text) → History does contents system frames text
  GoneOn : (text left : List ℕ) → History does contents system frames text → IsService does contents system frames text left →
      History does contents system frames left
  Anew : (text left : List ℕ) → History does contents system frames text → IsAnew system frames text left → History does contents system frames left

-- The host at which it arrives: the new one; the one after all lines that a service replied to, and the first of what its others ask, where it began with the
-- host at which what was before arrives; and the same one where the journal is written anew.
abbrev pub ArrivesAt : {F J : Type 0} (does : F → FolderAccess → F → Type 0) (contents : J → Option (List ℕ)) (system : Disk) (frames : ℕ) (text : List ℕ) →
    History does contents system frames text → Host → Type 0
ArrivesAt does contents system frames now (Begun text head) host = host ≡ new_host system frames
ArrivesAt does contents system frames now (GoneOn text left before s) host =
    ArrivesAt does contents system frames text before s.resumed
    × IsFold (IsKeptAccess does contents) s.told s.resumed s.mid s.from s.between s.texts
    × IsServedInPart (IsKeptAccess does contents) s.others s.mid host s.new s.between s.to
ArrivesAt does contents system frames now (Anew text left before a) host = ArrivesAt does contents system frames text before a.resumed × (host ≡ a.resumed)

-- The text is a journal of the host at which its history arrives, and of no other.
pub record IsJournalOf {F J : Type 0} (does : F → FolderAccess → F → Type 0) (contents : J → Option (List ℕ)) (system : Disk) (frames : ℕ) (text : List ℕ)
    (history : History does contents system frames text) : Type 0 where
  pub host : Host
  pub arrives : ArrivesAt does contents system frames text history host
  pub torn : ℕ
  pub resumed : IsResumed text (new_host system frames) host torn
  pub only : (other : Host) (count : ℕ) → IsResumed text (new_host system frames) other count → (other ≡ host) × (count ≡ torn)

-- Whatever a journal has been through, it is done again as the host after all that was replied to, and the first of what was not: no session is lost, however
-- often the service was cut off.
abbrev pub GenerationsRemake : {F J : Type 0} → (F → FolderAccess → F → Type 0) → (J → Option (List ℕ)) → Type 0
GenerationsRemake does contents =
    (system : Disk) (frames : ℕ) (text : List ℕ) (history : History does contents system frames text) → IsJournalOf does contents system frames text history
