-- What the command `asm` does. All of it is own.
use Rattle.std.specs.Prelude.{◌≡◌, ℕ, Bool, true, false, is_some, List, [], ◌∷◌, Option, Some, None, Ok}
use Rattle.cpm_asm.specs.Passes.{both_passes}
use Rattle.cpm_asm.specs.Placing.{places}
use Rattle.cpm_batch.specs.Outputs.{named_bytes}
use Rattle.cpm_host.specs.Asm.{IsAsmRefusal}
use Rattle.cpm_host.specs.AsmListing.{source_listing}
use Rattle.cpm_host.specs.declared.error.HostError.{HostError}
use Rattle.cpm_host.specs.declared.error.HostError.TheVariants.{OutOfMemory}
use Rattle.cpm_store.specs.Files.{StoreName}
use Rattle.cpm_store.specs.Log.{StoreAccess, Gave, Missed}
use Rattle.cpm_store.specs.Writes.{NamedBytes}
use Rattle.cpm_commands.specs.Files.{AreUnwritten, AreWritten, IsUnread}
use Rattle.cpm_commands.specs.Plan.{Plan, planned, planned_if_any}
use Rattle.cpm_commands.specs.declared.plan.FileRole.TheVariants.{Plain}
use Rattle.cpm_commands.specs.declared.plan.OutputNaming.TheVariants.{Replaces}

-- the source, and the files of the program and of its listing, if that is asked for
abbrev pub plan_of_asm : StoreName → StoreName → Option StoreName → Plan
plan_of_asm source out list = record {
  inputs = planned source Plain ∷ [];
  outputs = planned out Plain ∷ planned_if_any Plain list;
  naming = Replaces;
}

-- the program of a source, and its listing if that is asked for
abbrev pub IsProgramOf : Bool → List ℕ → (image listing : List ℕ) → Type 0
IsProgramOf true source image listing = (both_passes source ≡ Ok image) × (listing ≡ source_listing source image (places source))
IsProgramOf false source image listing = (both_passes source ≡ Ok image) × (listing ≡ [])

abbrev pub IsSourceRefused : List ℕ → HostError → Type 0
IsSourceRefused source e = IsAsmRefusal source e

-- what is written: the program, and then its listing if a file is named for it
abbrev pub asm_outputs : StoreName → Option StoreName → (image listing : List ℕ) → List NamedBytes
asm_outputs out list image listing = (out, image) ∷ named_bytes list listing

-- the files were seen to, the source was read, its program and its listing were written, and they got their names
pub record HasAssembled {F : Type 0} (does : F → StoreAccess → F → Type 0) (sees_to : F → Plan → Option HostError → F → Type 0)
    (gives_names : F → Option HostError → F → Type 0) (source out : StoreName) (list : Option StoreName) (old new : F) : Type 0 where
  pub seen : F
  pub read : F
  pub text : List ℕ
  pub image : List ℕ
  pub listing : List ℕ
  pub sees : sees_to old (plan_of_asm source out list) None seen
  pub gave : does seen (Gave source text) read
  pub assembled : IsProgramOf (is_some list) text image listing
  pub written : AreWritten does gives_names (asm_outputs out list image listing) read new

-- how far it came that was refused
pub data IsAsmRefused {F : Type 0} (does : F → StoreAccess → F → Type 0) (sees_to : F → Plan → Option HostError → F → Type 0)
    (gives_names : F → Option HostError → F → Type 0) (source out : StoreName) (list : Option StoreName) (old new : F) (e : HostError) : Type 0 where
  -- memory was refused before anything
  NotBegun : e ≡ OutOfMemory → new ≡ old → IsAsmRefused does sees_to gives_names source out list old new e
  -- the files can't be what they are to be
  NotSeen : sees_to old (plan_of_asm source out list) (Some e) new → IsAsmRefused does sees_to gives_names source out list old new e
  -- the source can't be read
  Unread : (seen : F) → sees_to old (plan_of_asm source out list) None seen → IsUnread source e → does seen (Missed source) new
      → IsAsmRefused does sees_to gives_names source out list old new e
  -- it has a fault, or memory was refused, and nothing was written
  Refused : (seen : F) (text : List ℕ) → sees_to old (plan_of_asm source out list) None seen → does seen (Gave source text) new
      → IsSourceRefused text e → IsAsmRefused does sees_to gives_names source out list old new e
  -- a file can't be written, or can't have its name
  Unwritten : (seen read : F) (text image listing : List ℕ) → sees_to old (plan_of_asm source out list) None seen → does seen (Gave source text) read
      → IsProgramOf (is_some list) text image listing → AreUnwritten does gives_names (asm_outputs out list image listing) read new e
      → IsAsmRefused does sees_to gives_names source out list old new e
