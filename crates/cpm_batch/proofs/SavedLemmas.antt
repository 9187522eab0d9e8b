-- Savings that were read, and those that were not.
use Rattle.std.proofs.Common.{◌≡◌, ◌≤◌, inl, inr, ℕ, List, [], ◌∷◌, refl, subst, sym}
use Rattle.std.specs.Prelude.{Option, Ok}
use Rattle.cpm_config.specs.declared.config.SessionConfig.{SessionConfig}
use Rattle.cpm_machine.specs.MachineState.{MachineState}
use Rattle.cpm_machine.specs.Saving.{Saving, restored}
use Rattle.cpm_store.specs.Files.{Finds, StoreFiles, StoreName}
use Rattle.cpm_store.specs.Log.{Gave, LogLeadsBy, StoreAccess}
use Rattle.cpm_store.proofs.LogLemmas.{ran_one}
use Rattle.cpm_batch.specs.Inputs.{IsFileFault, IsForkGivenUp, IsNeedRefusal, Restores, StartInput, saved_count, saving_need}
use Rattle.cpm_batch.specs.Reads.{IsSavingRead, StopsAmongNeeds}
use Rattle.cpm_batch.specs.Savings.{AreAllNamed, IsMisnamedTold, IsUnreadSaving}
use Rattle.cpm_batch.specs.declared.error.ReadError.{ReadError}
use Rattle.cpm_batch.specs.declared.error.ReadError.TheVariants as error

-- ---- one read

pub saving_read : {S : Type 0} (does : S → StoreAccess → S → Type 0) (name : StoreName) (names : Option ℕ) (bytes : List ℕ) (x : Saving) (s t : S) → does s (Gave name bytes) t → restored bytes ≡ Ok x → AreAllNamed names x.state
    → LogLeadsBy does (IsSavingRead name names x) s t
saving_read does name names bytes x s t call read named =
    (Gave name bytes ∷ [], record { bytes = bytes; read = read; named = named; calls = refl }, ran_one does (Gave name bytes) s t call)

-- ---- what is refused of the bytes of a file

-- they are no saving
pub unread_refused : (files : Option StoreFiles) (s : SessionConfig) (name : StoreName) (bytes : List ℕ) (e : ReadError) → Finds files name bytes → IsUnreadSaving name bytes e → IsNeedRefusal files (saving_need s name ∷ []) e
unread_refused files s name bytes (error.Saving refusal) found h = inr (inl (h.0, record { bytes = bytes; found = found; read = h.1 }))
unread_refused files s name bytes error.OutOfMemory found h = inl refl
unread_refused files s name bytes _ found h = absurd h

unread_stops : (s : SessionConfig) (name : StoreName) (bytes : List ℕ) (e : ReadError) → IsUnreadSaving name bytes e → StopsAmongNeeds (saving_need s name ∷ []) e (Gave name bytes ∷ [])
unread_stops s name bytes (error.Saving refusal) h = inr (inl (h.0, record { bytes = bytes; read = h.1; calls = refl }))
unread_stops s name bytes error.OutOfMemory h = inl (refl, (tt, tt))
unread_stops s name bytes _ h = absurd h

pub unread_stopped : {S : Type 0} (does : S → StoreAccess → S → Type 0) (session : SessionConfig) (name : StoreName) (bytes : List ℕ) (e : ReadError) (s t : S) → does s (Gave name bytes) t → IsUnreadSaving name bytes e
    → LogLeadsBy does (StopsAmongNeeds (saving_need session name ∷ []) e) s t
unread_stopped does session name bytes e s t call h = (Gave name bytes ∷ [], unread_stops session name bytes e h, ran_one does (Gave name bytes) s t call)

-- no file was missed
pub unread_file : (name : StoreName) (bytes : List ℕ) (e : ReadError) → IsUnreadSaving name bytes e → IsFileFault e → ⊥
unread_file name bytes (error.File shown) h f = absurd h
unread_file name bytes _ h f = absurd f

-- another number of files is named
pub misnamed_refused : (files : Option StoreFiles) (s : SessionConfig) (name : StoreName) (bytes : List ℕ) (x : Saving) (e : ReadError) → Finds files name bytes → restored bytes ≡ Ok x → IsMisnamedTold s x.state e
    → IsNeedRefusal files (saving_need s name ∷ []) e
misnamed_refused files s name bytes x (error.SavedDrives shown drives count) found read h = inr (inl (h.0, record { bytes = bytes; found = found; saving = x; read = read; misnamed = h.1 }))
misnamed_refused files s name bytes x error.OutOfMemory found read h = inl refl
misnamed_refused files s name bytes x _ found read h = absurd h

misnamed_stops : (s : SessionConfig) (name : StoreName) (bytes : List ℕ) (x : Saving) (e : ReadError) → restored bytes ≡ Ok x → IsMisnamedTold s x.state e → StopsAmongNeeds (saving_need s name ∷ []) e (Gave name bytes ∷ [])
misnamed_stops s name bytes x (error.SavedDrives shown drives count) read h = inr (inl (h.0, record { bytes = bytes; saving = x; read = read; misnamed = h.1; calls = refl }))
misnamed_stops s name bytes x error.OutOfMemory read h = inl (refl, (tt, tt))
misnamed_stops s name bytes x _ read h = absurd h

pub misnamed_stopped : {S : Type 0} (does : S → StoreAccess → S → Type 0) (session : SessionConfig) (name : StoreName) (bytes : List ℕ) (x : Saving) (e : ReadError) (s t : S) → does s (Gave name bytes) t → restored bytes ≡ Ok x
    → IsMisnamedTold session x.state e → LogLeadsBy does (StopsAmongNeeds (saving_need session name ∷ []) e) s t
misnamed_stopped does session name bytes x e s t call read h = (Gave name bytes ∷ [], misnamed_stops session name bytes x e read h, ran_one does (Gave name bytes) s t call)

pub misnamed_file : (s : SessionConfig) (m : MachineState) (e : ReadError) → IsMisnamedTold s m e → IsFileFault e → ⊥
misnamed_file s m (error.File shown) h f = absurd h
misnamed_file s m _ h f = absurd f

-- ---- forks

-- one of a saving, behind it, for which another number of files is named
pub fork_misnamed : (s : SessionConfig) (x : Saving) (parent : StartInput) (at : ℕ) (e : ReadError) → parent ≡ Restores x → x.state.count ≤ at → IsMisnamedTold s x.state e → IsForkGivenUp s parent at e
fork_misnamed s x parent at (error.SavedDrives shown drives count) is behind h =
    inr (h.0, record { begun = subst (λ (p : StartInput). saved_count p ≤ at) (sym is) behind; saving = x; from = is; misnamed = h.1 })
fork_misnamed s x parent at error.OutOfMemory is behind h = inl refl
fork_misnamed s x parent at _ is behind h = absurd h
