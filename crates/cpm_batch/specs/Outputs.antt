-- What is written after the sessions of a configuration were run. All of it is own.
use Rattle.std.specs.Prelude.{ℕ, List, [], ◌∷◌, ◌++◌, Option, Some, None, Vec, String, string_bytes, option_map, slice_get, slice_index_or}
use Rattle.std.specs.List.{concat}
use Rattle.std.specs.declared.alloc.Global.{Global}
use Rattle.cpm_config.specs.declared.config.SessionConfig.{SessionConfig}
use Rattle.cpm_geom.specs.Disk.{Disk}
use Rattle.cpm_store.specs.Files.{StoreName}
use Rattle.cpm_store.specs.Writes.{NamedBytes}
use Rattle.cpm_batch.specs.declared.output.SessionFiles.{SessionFiles}

-- a session, and what it left
pub record SessionOutput : Type 0 where
  pub session : SessionConfig
  -- the bytes of its console, and of its list device
  pub console : List ℕ
  pub list : List ℕ
  -- its drives A to D, as far as it had them
  pub drives : List (Option Disk)
  -- the bytes of its saving, where it is saved
  pub saved : Option (List ℕ)

abbrev pub left_by : SessionFiles → SessionOutput
left_by f =
    record {
      session = f.session.now;
      console = f.console.items;
      list = f.list.items;
      drives = f.drives;
      saved = option_map (λ v. v.items) f.saved;
    }

-- bytes for a file, where one is named
abbrev pub named_bytes : Option StoreName → List ℕ → List NamedBytes
named_bytes None bytes = []
named_bytes (Some name) bytes = (name, bytes) ∷ []

-- the image of a drive, where there are both, a name and a drive
abbrev pub named_image : Option StoreName → Option Disk → List NamedBytes
named_image name None = []
named_image name (Some d) = named_bytes name (concat d.sectors)

-- the image of the drive at a place, for the name at that place
unfoldable pub image_at : List (String Global) → List (Option Disk) → ℕ → List NamedBytes
image_at names drives place = named_image (option_map string_bytes (slice_get names place)) (slice_index_or drives place None)

-- the images of the drives A to D, as far as they are named
unfoldable pub image_outputs : List (String Global) → List (Option Disk) → List NamedBytes
image_outputs names drives = image_at names drives 0 ++ (image_at names drives 1 ++ (image_at names drives 2 ++ image_at names drives 3))

abbrev pub named_images : Option (Vec (String Global) Global) → List (Option Disk) → List NamedBytes
named_images None drives = []
named_images (Some names) drives = image_outputs names.items drives

-- a saving, where there are both, a name and a saving
abbrev pub named_saving : Option StoreName → Option (List ℕ) → List NamedBytes
named_saving name None = []
named_saving name (Some bytes) = named_bytes name bytes

-- of a session: the console's text, the list device's where it is named, the images where they are, and the saving where it is
abbrev pub files_of : SessionOutput → List NamedBytes
files_of o =
    (string_bytes o.session.console, o.console)
    ∷ (named_bytes (option_map string_bytes o.session.list) o.list
    ++ (named_images o.session.out o.drives ++ named_saving (option_map string_bytes o.session.save) o.saved))

-- of all sessions, in their order
abbrev pub files_of_all : List SessionOutput → List NamedBytes
files_of_all [] = []
files_of_all (o ∷ os) = files_of o ++ files_of_all os
