-- Words, patterns and files of a disk, one after the other.
use Rattle.std.proofs.Common.{◌≡◌, ⊎_elim, inl, inr, ℕ, ◌+◌, ◌<◌, ◌≤◌, List, [], ◌∷◌, ◌++◌, ap, drop, get_or, length, map, refl, subst, sym}
use Rattle.std.specs.Borrow.{Bor}
use Rattle.std.proofs.lemmas.List.{drop_all, drop_more}
use Rattle.cpm_geom.specs.Disk.{Disk}
use Rattle.cpm_image_files.specs.Taken.{IsRemoved}
use Rattle.cpm_image_files.specs.declared.listing.DiskFile.{DiskFile}
use Rattle.cpm_image_files.specs.declared.name.FileName.{FileName}
use Rattle.cpm_disk_commands.specs.Matching.{AreMeant, IsMatchRefusal}
use Rattle.cpm_disk_commands.specs.Refusals.{file_named}
use Rattle.cpm_host.specs.declared.error.HostError.{HostError}
use Rattle.cpm_host.specs.declared.error.HostError.TheVariants.{OutOfMemory}
use Rattle.std.specs.Prelude.{◌⊎◌}
use Rattle.cpm_store.specs.Files.{StoreName}
use Rattle.cpm_store.specs.Log.{StoreAccess}
use Rattle.cpm_commands.specs.Disk.{AreNamed, ArePut, AreRemoved, IsDiskRefusal, IsNamingStopped, IsPutStopped, IsRemovalStopped, IsWordPut, IsWordUnput, with_new}
use Rattle.cpm_commands.specs.declared.disk.PutOptions.{PutOptions}

-- ---- the rest of a list that is gone through

-- a word past the last
abbrev pub no_text : Bor (List ℕ)
no_text = record { ref_ptr = (0, 0); now = [] }

pub rest_now : (words : List (Bor (List ℕ))) (i : ℕ) → i < length words
    → map (λ w. w.now) (drop i words) ≡ (get_or words i no_text).now ∷ map (λ w. w.now) (drop (i + 1) words)
rest_now words i within = ap (map (λ w. w.now)) (drop_more words i no_text within)

pub no_rest : {A B : Type 0} (f : A → B) (xs : List A) (i : ℕ) → length xs ≤ i → map f (drop i xs) ≡ []
no_rest f xs i past = ap (map f) (drop_all i xs past)

-- ---- words that are put

-- from here what the rest leads to, all lead to
abbrev pub PutLeads : {F : Type 0} → (F → StoreAccess → F → Type 0) → ℕ → PutOptions → (all rest : List StoreName) → List FileName → (first disk : Disk) → (start files : F)
    → Type 0
PutLeads {F} does user how all rest before first disk start files =
    (last : Disk) (final : F) → ArePut does user how before rest disk last files final → ArePut does user how [] all first last start final

-- and where the rest stops, all stop
abbrev pub PutStops : {F : Type 0} → (F → StoreAccess → F → Type 0) → StoreName → ℕ → PutOptions → (all rest : List StoreName) → List FileName → (first disk : Disk)
    → (start files : F) → Type 0
PutStops {F} does image user how all rest before first disk start files =
    (final : F) (e : HostError) → IsPutStopped does image user how before rest disk files final e → IsPutStopped does image user how [] all first start final e

pub put_more : {F : Type 0} (does : F → StoreAccess → F → Type 0) (user : ℕ) (how : PutOptions) (all rest later : List StoreName) (word : StoreName) (file : FileName)
    (before more : List FileName) (first disk next : Disk) (start files known : F) → rest ≡ word ∷ later → more ≡ before ++ file ∷ []
    → IsWordPut does user how before word file disk next files known → PutLeads does user how all rest before first disk start files
    → PutLeads does user how all later more first next start known
put_more {F} does user how all rest later word file before more first disk next start files known is pushed put leads = λ last final h.
    leads last final (subst (λ (ws : List StoreName). ArePut does user how before ws disk last files final) (sym is)
    (file, next, known, put, subst (λ (b : List FileName). ArePut does user how b later next last known final) pushed h))

pub put_all : {F : Type 0} (does : F → StoreAccess → F → Type 0) (user : ℕ) (how : PutOptions) (all rest : List StoreName) (before : List FileName) (first disk : Disk)
    (start files : F) → rest ≡ [] → PutLeads does user how all rest before first disk start files → ArePut does user how [] all first disk start files
put_all {F} does user how all rest before first disk start files none leads =
    leads disk files (subst (λ (ws : List StoreName). ArePut does user how before ws disk disk files files) (sym none) (refl, refl))

pub put_stops_more : {F : Type 0} (does : F → StoreAccess → F → Type 0) (image : StoreName) (user : ℕ) (how : PutOptions) (all rest later : List StoreName) (word : StoreName)
    (file : FileName) (before more : List FileName) (first disk next : Disk) (start files known : F) → rest ≡ word ∷ later → more ≡ before ++ file ∷ []
    → IsWordPut does user how before word file disk next files known → PutStops does image user how all rest before first disk start files
    → PutStops does image user how all later more first next start known
put_stops_more {F} does image user how all rest later word file before more first disk next start files known is pushed put stops = λ final e h.
    stops final e (subst (λ (ws : List StoreName). IsPutStopped does image user how before ws disk files final e) (sym is)
    (inr (file, next, known, put, subst (λ (b : List FileName). IsPutStopped does image user how b later next known final e) pushed h)))

pub put_stopped : {F : Type 0} (does : F → StoreAccess → F → Type 0) (image : StoreName) (user : ℕ) (how : PutOptions) (all rest later : List StoreName) (word : StoreName)
    (before : List FileName) (first disk : Disk) (start files final : F) (e : HostError) → rest ≡ word ∷ later
    → IsWordUnput does image user how before word disk files final e → PutStops does image user how all rest before first disk start files
    → IsPutStopped does image user how [] all first start final e
put_stopped {F} does image user how all rest later word before first disk start files final e is h stops =
    stops final e (subst (λ (ws : List StoreName). IsPutStopped does image user how before ws disk files final e) (sym is) (inl h))

-- ---- patterns

abbrev pub NamedLeads : (all rest : List StoreName) → ℕ → List DiskFile → List FileName → Type 0
NamedLeads all rest user files before = (named : List FileName) → AreNamed rest user files before named → AreNamed all user files [] named

abbrev pub NamedStops : StoreName → (all rest : List StoreName) → ℕ → List DiskFile → Type 0
NamedStops image all rest user files = (e : HostError) → IsNamingStopped image rest user files e → IsNamingStopped image all user files e

pub named_more : (all rest later : List StoreName) (text : StoreName) (user : ℕ) (files : List DiskFile) (before found more : List FileName) → rest ≡ text ∷ later
    → more ≡ with_new before found → AreMeant text user files (map file_named found) → NamedLeads all rest user files before → NamedLeads all later user files more
named_more all rest later text user files before found more is added meant leads = λ named h.
    leads named (subst (λ (ts : List StoreName). AreNamed ts user files before named) (sym is)
    (found, meant, subst (λ (b : List FileName). AreNamed later user files b named) added h))

pub named_all : (all rest : List StoreName) (user : ℕ) (files : List DiskFile) (before : List FileName) → rest ≡ [] → NamedLeads all rest user files before
    → AreNamed all user files [] before
named_all all rest user files before none leads = leads before (subst (λ (ts : List StoreName). AreNamed ts user files before before) (sym none) refl)

pub named_stops_more : (image : StoreName) (all rest later : List StoreName) (text : StoreName) (user : ℕ) (files : List DiskFile) (found : List FileName) → rest ≡ text ∷ later
    → AreMeant text user files (map file_named found) → NamedStops image all rest user files → NamedStops image all later user files
named_stops_more image all rest later text user files found is meant stops = λ e h.
    stops e (subst (λ (ts : List StoreName). IsNamingStopped image ts user files e) (sym is) (inr (inr (found, meant, h))))

pub named_stopped : (image : StoreName) (all rest later : List StoreName) (text : StoreName) (user : ℕ) (files : List DiskFile) (e : HostError) → rest ≡ text ∷ later
    → ((e ≡ OutOfMemory) ⊎ IsDiskRefusal (IsMatchRefusal image text user files) e) → NamedStops image all rest user files → IsNamingStopped image all user files e
named_stopped image all rest later text user files e is h stops =
    stops e (subst (λ (ts : List StoreName). IsNamingStopped image ts user files e) (sym is) (⊎_elim (λ m. inl m) (λ r. inr (inl r)) h))

-- ---- files that are removed

abbrev pub RemovedLeads : (all rest : List FileName) → (first disk : Disk) → Type 0
RemovedLeads all rest first disk = (last : Disk) → AreRemoved rest disk last → AreRemoved all first last

abbrev pub RemovalStops : StoreName → (all rest : List FileName) → (first disk : Disk) → Type 0
RemovalStops image all rest first disk = (e : HostError) → IsRemovalStopped image rest disk e → IsRemovalStopped image all first e

pub removed_more : (all : List FileName) (i : ℕ) (file : FileName) (first disk next : Disk) → drop i all ≡ file ∷ drop (i + 1) all
    → IsRemoved disk file.user file.name next → RemovedLeads all (drop i all) first disk → RemovedLeads all (drop (i + 1) all) first next
removed_more all i file first disk next is removed leads = λ last h.
    leads last (subst (λ (fs : List FileName). AreRemoved fs disk last) (sym is) (next, removed, h))

pub removed_all : (all rest : List FileName) (first disk : Disk) → rest ≡ [] → RemovedLeads all rest first disk → AreRemoved all first disk
removed_all all rest first disk none leads = leads disk (subst (λ (fs : List FileName). AreRemoved fs disk disk) (sym none) refl)

pub removal_stops_more : (image : StoreName) (all : List FileName) (i : ℕ) (file : FileName) (first disk next : Disk) → drop i all ≡ file ∷ drop (i + 1) all
    → IsRemoved disk file.user file.name next → RemovalStops image all (drop i all) first disk → RemovalStops image all (drop (i + 1) all) first next
removal_stops_more image all i file first disk next is removed stops = λ e h.
    stops e (subst (λ (fs : List FileName). IsRemovalStopped image fs disk e) (sym is) (inr (next, removed, h)))
