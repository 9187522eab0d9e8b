-- What files hold for a run, where the store tells it. All of it is own.
use Rattle.std.specs.Prelude.{◌≡◌, ℕ, List, length, Option, Some, None, Ok, Err}
use Rattle.std.specs.List.{concat}
use Rattle.cpm_geom.specs.Disk.{Disk, IsDisk}
use Rattle.cpm_geom.specs.Geometry.{format_of_length}
use Rattle.cpm_machine.specs.Saving.{Saving, restored}
use Rattle.cpm_saved.specs.declared.part.SavingDamage.{SavingDamage}
use Rattle.cpm_script.specs.Cues.{CueText, cues}
use Rattle.cpm_script.specs.Fork.{forked_cues}
use Rattle.cpm_script.specs.declared.fault.LineFault.{LineFault}
use Rattle.cpm_store.specs.Files.{Finds, StoreFiles, StoreName}
use Rattle.cpm_batch.specs.Savings.{AreAllNamed, IsMisnamed}
use Rattle.cpm_batch.specs.Sources.{IsRecordingOf, recording_fault}

-- the disk's sectors, one after the other, are these bytes
pub record IsImage (bytes : List ℕ) (d : Disk) : Type 0 where
  pub format : format_of_length (length bytes) ≡ Some d.format
  pub sectors : concat d.sectors ≡ bytes
  pub whole : IsDisk d

-- the file has the image of the disk
pub record IsImageIn (files : Option StoreFiles) (name : StoreName) (d : Disk) : Type 0 where
  pub bytes : List ℕ
  pub found : Finds files name bytes
  pub image : IsImage bytes d

-- the file has a key script that says this
pub record IsScriptIn (files : Option StoreFiles) (name : StoreName) (said : List CueText) : Type 0 where
  pub text : List ℕ
  pub found : Finds files name text
  pub read : cues text ≡ Ok said

-- the file has a key script that says this for a session that is forked at this count of steps, after so many keys that its parent had before
pub record IsForkedScriptIn (files : Option StoreFiles) (name : StoreName) (at before : ℕ) (said : List CueText) : Type 0 where
  pub text : List ℕ
  pub found : Finds files name text
  pub read : forked_cues at before text ≡ Ok said

-- the file has a recording that says this, all of it at this count or later
pub record IsRecordingIn (files : Option StoreFiles) (name : StoreName) (at : ℕ) (said : List CueText) : Type 0 where
  pub text : List ℕ
  pub found : Finds files name text
  pub read : IsRecordingOf at text said

-- the file has so many bytes, which no image has
pub record IsNoImageIn (files : Option StoreFiles) (name : StoreName) (count : ℕ) : Type 0 where
  pub bytes : List ℕ
  pub found : Finds files name bytes
  pub size : count ≡ length bytes
  pub format : format_of_length (length bytes) ≡ None

-- the file's first line with a fault has this number
pub record IsNoScriptIn (files : Option StoreFiles) (name : StoreName) (line : ℕ) (fault : LineFault) : Type 0 where
  pub text : List ℕ
  pub found : Finds files name text
  pub read : cues text ≡ Err (line, fault)

-- the same of a session that is forked at this count of steps, after so many keys
pub record IsNoForkedScriptIn (files : Option StoreFiles) (name : StoreName) (at before line : ℕ) (fault : LineFault) : Type 0 where
  pub text : List ℕ
  pub found : Finds files name text
  pub read : forked_cues at before text ≡ Err (line, fault)

-- the same of a recording whose keys come at this count or later
pub record IsNoRecordingIn (files : Option StoreFiles) (name : StoreName) (at line : ℕ) (fault : LineFault) : Type 0 where
  pub text : List ℕ
  pub found : Finds files name text
  pub read : recording_fault at text ≡ Some (line, fault)

-- the file has a saving, with as many drives as files are named for their images, where any are
pub record IsSavingIn (files : Option StoreFiles) (name : StoreName) (names : Option ℕ) (x : Saving) : Type 0 where
  pub bytes : List ℕ
  pub found : Finds files name bytes
  pub read : restored bytes ≡ Ok x
  pub named : AreAllNamed names x.state

-- the file has no saving: this part of it can't be read
pub record IsNoSavingIn (files : Option StoreFiles) (name : StoreName) (damage : SavingDamage) : Type 0 where
  pub bytes : List ℕ
  pub found : Finds files name bytes
  pub read : restored bytes ≡ Err damage

-- the file has a saving with this many drives, and another number of files is named for their images
pub record IsMisnamedIn (files : Option StoreFiles) (name : StoreName) (names : Option ℕ) (drives count : ℕ) : Type 0 where
  pub bytes : List ℕ
  pub found : Finds files name bytes
  pub saving : Saving
  pub read : restored bytes ≡ Ok saving
  pub misnamed : IsMisnamed names saving.state drives count
