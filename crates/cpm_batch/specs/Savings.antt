-- Savings that sessions go on from. All of it is own.
use Rattle.std.specs.Prelude.{⊤, ◌≡◌, ◌≢◌, ℕ, List, length, count_by, is_some, chars, Option, Some, Err, IfSome, option_map, slice_index_or, string_bytes}
use Rattle.cpm_shown.specs.Shown.{shown_of}
use Rattle.cpm_config.specs.declared.config.SessionConfig.{SessionConfig}
use Rattle.cpm_drives.specs.Disks.{images_of}
use Rattle.cpm_machine.specs.MachineState.{MachineState}
use Rattle.cpm_machine.specs.Saving.{Saving, restored, saving_with}
use Rattle.cpm_store.specs.Files.{StoreName}
use Rattle.cpm_batch.specs.declared.error.ReadError.{ReadError}
use Rattle.cpm_batch.specs.declared.error.ReadError.TheVariants as error
use Rattle.cpm_batch.specs.declared.saved.SavedMachine.{SavedMachine}

-- the code's value
abbrev pub saving_view : SavedMachine → Saving
saving_view s = saving_with s.digest s.machine

-- how many drives a machine has, besides the system drive
unfoldable pub drive_count : MachineState → ℕ
drive_count s = count_by is_some (images_of s.session.disks)

-- how many files a session names for the images of its drives, where it names any
abbrev pub names_wanted : SessionConfig → Option ℕ
names_wanted s = option_map (λ names. length names.items) s.out

-- as many are named as a machine has drives, where any are
abbrev pub AreAllNamed : (names : Option ℕ) → MachineState → Type 0
AreAllNamed names s = IfSome names (λ count. count ≡ drive_count s)

-- it has this many drives, and another number of files is named for them
pub record IsMisnamed (names : Option ℕ) (s : MachineState) (drives count : ℕ) : Type 0 where
  pub has : drives ≡ drive_count s
  pub wanted : names ≡ Some count
  pub differ : count ≢ drives

-- how a session is refused for that, by its name
abbrev pub IsMisnamedTold : SessionConfig → MachineState → ReadError → Type 0
IsMisnamedTold session s (error.SavedDrives shown drives count) =
    (shown.bytes ≡ shown_of (chars (string_bytes session.name))) × IsMisnamed (names_wanted session) s drives count
IsMisnamedTold session s error.OutOfMemory = ⊤
IsMisnamedTold session s _ = ⊥

-- the number of the format that stands in the bytes of a saving, as their byte 8; 0 where there is none
abbrev pub version_in : (bytes : List ℕ) → ℕ
version_in bytes = slice_index_or bytes 8 0

-- how the bytes of a file are refused: they are no saving, for their first part that can't be read; with the name of the file as it is shown, and the number
-- of the format that stands there
abbrev pub IsUnreadSaving : StoreName → (bytes : List ℕ) → ReadError → Type 0
IsUnreadSaving name bytes (error.Saving refusal) =
    (refusal.name.bytes ≡ shown_of (chars name)) × (restored bytes ≡ Err refusal.damage) × (refusal.version ≡ version_in bytes)
IsUnreadSaving name bytes error.OutOfMemory = ⊤
IsUnreadSaving name bytes _ = ⊥
