-- The digest of what a run begins with, by which a checkpoint says of which run it is. All of it is own.
use Rattle.std.specs.Prelude.{ℕ, List, [], ◌∷◌, ◌++◌, length, string_bytes}
use Rattle.std.specs.Int.{to_le_bytes, w64}
use Rattle.std.specs.List.{concat}
use Rattle.sha2.specs.Hashers.{Holds256}
use Rattle.sha2.specs.Sha256.{sha256}
use Rattle.sha2.specs.declared.Sha256.{Sha256}
use Rattle.cpm_batch.specs.Inputs.{Forks, Opens, Restores, StartInput}
use Rattle.cpm_flags.specs.declared.regs.Cpu.{Cpu}
use Rattle.cpm_flags.specs.declared.regs.Cpu.TheVariants.{I8080, Z80}
use Rattle.cpm_geom.specs.Disk.{Disk}
use Rattle.cpm_machine.specs.Saving.{bytes_of_saving}
use Rattle.cpm_script.specs.declared.script.Key.{Key}
use Rattle.cpm_run.specs.Settled.{SettledSession}

-- ---- a message, and what stands behind it

-- a number of 64 bits, the lowest byte first
abbrev pub number_behind : (message : List ℕ) → ℕ → List ℕ
number_behind message n = message ++ to_le_bytes w64 n

-- how many bytes come, and then these
abbrev pub counted_behind : (message : List ℕ) → List ℕ → List ℕ
counted_behind message bytes = number_behind message (length bytes) ++ bytes

-- one thing after another
abbrev pub each_behind : {A : Type 0} → (List ℕ → A → List ℕ) → (message : List ℕ) → List A → List ℕ
each_behind {A} behind message [] = message
each_behind {A} behind message (x ∷ xs) = each_behind behind (behind message x) xs

-- a key: its count, and its byte
abbrev pub key_behind : (message : List ℕ) → Key → List ℕ
key_behind message k = number_behind message k.count ++ k.byte ∷ []

-- how many keys come, and then these
abbrev pub keys_behind : (message : List ℕ) → List Key → List ℕ
keys_behind message keys = each_behind key_behind (number_behind message (length keys)) keys

-- how many bytes the image of a drive has, and then these
abbrev pub drive_behind : (message : List ℕ) → Disk → List ℕ
drive_behind message drive = counted_behind message (concat drive.sectors)

-- how many drives come, and then these
abbrev pub drives_behind : (message : List ℕ) → List Disk → List ℕ
drives_behind message drives = each_behind drive_behind (number_behind message (length drives)) drives

-- how a session begins, by a number: it is opened on an 8080, or on a Z80; it is forked; it goes on from a saving
abbrev pub opening_number : Cpu → ℕ
opening_number I8080 = 0
opening_number Z80 = 1

abbrev pub start_behind : (message : List ℕ) → StartInput → List ℕ
start_behind message (Opens cpu quota drives) = drives_behind (number_behind (number_behind message (opening_number cpu)) quota) drives
start_behind message (Forks parent at) = number_behind (number_behind (number_behind message 2) parent) at
start_behind message (Restores x) = counted_behind (number_behind message 3) (bytes_of_saving x)

-- a session: its name, how it begins, its keys and its steps
abbrev pub input_behind : (message : List ℕ) → SettledSession → List ℕ
input_behind message i = number_behind (keys_behind (start_behind (counted_behind message (string_bytes i.session.name)) i.start) i.keys) i.steps

-- SHA-256 of the image of the system drive and of all sessions
unfoldable pub run_beginning : Disk → List SettledSession → List ℕ
run_beginning system inputs = sha256 (each_behind input_behind (counted_behind [] (concat system.sectors)) inputs)

-- ---- what the code's hasher is told

-- a hasher of a message has become one of the message with more
abbrev pub IsHasherTold : (old new : Sha256) → (more : List ℕ → List ℕ) → Type 0
IsHasherTold old new more = (message : List ℕ) → Holds256 old message → Holds256 new (more message)
