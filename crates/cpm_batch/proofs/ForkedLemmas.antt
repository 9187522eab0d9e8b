-- Sessions that are forked from ones that were read.
use Rattle.std.proofs.Common.{◌≡◌, ◌∙◌, ⊎_elim, inl, inr, ℕ, List, [], ◌∷◌, map, refl, subst, sym, ap}
use Rattle.std.specs.Prelude.{Option, Ok, Err, IfOk, OnOk, Result, string_bytes}
use Rattle.cpm_config.specs.declared.config.SessionConfig.{SessionConfig}
use Rattle.cpm_store.specs.Files.{StoreFiles, StoreName}
use Rattle.cpm_store.specs.Log.{LogLeadsBy, StoreAccess}
use Rattle.cpm_batch.specs.Inputs.{CanFork, ForkOf, Forks, HasSaidFrom, IsFault, IsFileFault, IsForkFault, IsForkGivenUp, IsForkedInput, IsNeedRefusal, Need, SessionInput, StartInput, fork_need, given, own_count}
use Rattle.cpm_batch.specs.Reads.{IsFaultRead, IsForkedRead, IsSaidReadFrom, StopsAmongNeeds}
use Rattle.cpm_batch.specs.Savings.{names_wanted}
use Rattle.cpm_batch.specs.declared.error.ReadError.{ReadError}
use Rattle.cpm_batch.specs.declared.error.ReadError.TheVariants as error
use Rattle.cpm_batch.specs.declared.input.Input.{Input}
use Rattle.cpm_batch.specs.declared.source.Replay.{Replay}
use Rattle.cpm_batch.proofs.ParentLemmas.{IsReadParent}

-- ---- what was read

pub forked_input : (files : Option StoreFiles) (replays : List Replay) (is : List Input) (name : StoreName) (place at : ℕ) (session : SessionConfig) (p : SessionInput) (r : Result Input ReadError) → IsReadParent replays is name place p
    → OnOk r (CanFork p.start at (names_wanted session)) → IfOk r (λ i. (given i).start ≡ Forks place (own_count p at)) → IfOk r (λ i. i.steps ≡ own_count p session.steps)
    → IfOk r (λ i. HasSaidFrom files replays session p (own_count p at) (given i).said) → IfOk r (λ i. i.session.now ≡ session) → IfOk r (λ i. IsForkedInput files replays (map given is) name at (given i))
forked_input files replays is name place at session p (Err e) parent fits start steps said same = tt
forked_input files replays is name place at session p (Ok i) parent fits start steps said same = record {
  place = place;
  parent = p;
  found = parent.found;
  fits = subst (λ (s : SessionConfig). CanFork p.start at (names_wanted s)) (sym same) fits;
  start = start;
  steps = steps ∙ ap (λ (s : SessionConfig). own_count p s.steps) (sym same);
  said = subst (λ (s : SessionConfig). HasSaidFrom files replays s p (own_count p at) (given i).said) (sym same) said;
}

pub forked_log : {S : Type 0} (does : S → StoreAccess → S → Type 0) (replays : List Replay) (is : List Input) (name : StoreName) (place at : ℕ) (session : SessionConfig) (p : SessionInput) (r : Result Input ReadError) (s t : S)
    → IsReadParent replays is name place p → OnOk r (CanFork p.start at (names_wanted session)) → IfOk r (λ i. (given i).start ≡ Forks place (own_count p at))
    → IfOk r (λ i. LogLeadsBy does (IsSaidReadFrom replays session p (own_count p at) (given i).said) s t) → IfOk r (λ i. i.session.now ≡ session)
    → IfOk r (λ i. LogLeadsBy does (IsForkedRead replays (map given is) name at (given i)) s t)
forked_log does replays is name place at session p (Err e) s t parent fits start log same = tt
forked_log does replays is name place at session p (Ok i) s t parent fits start log same =
    let calls = subst (λ (x : SessionConfig). LogLeadsBy does (IsSaidReadFrom replays x p (own_count p at) (given i).said) s t) (sym same) log in (
      calls.0,
      record {
        place = place;
        parent = p;
        found = parent.found;
        fits = subst (λ (x : SessionConfig). CanFork p.start at (names_wanted x)) (sym same) fits;
        start = start;
        calls = calls.1;
      },
      calls.2,
    )

-- ---- a fork that can't be made

fork_fault : (files : Option StoreFiles) (session : StoreName) (parent : StartInput) (at : ℕ) (names : Option ℕ) (e : ReadError) → IsForkFault session parent at names e → IsFault files (ForkOf session parent at names) e
fork_fault files session parent at names (error.File shown) h = absurd h
fork_fault files session parent at names (error.ForkedEarly shown told count) h = h
fork_fault files session parent at names (error.SavedDrives shown drives count) h = h
fork_fault files session parent at names _ h = absurd h

fork_unread : (session : StoreName) (parent : StartInput) (at : ℕ) (names : Option ℕ) (e : ReadError) → IsForkFault session parent at names e → IsFaultRead (ForkOf session parent at names) e []
fork_unread session parent at names (error.File shown) h = absurd h
fork_unread session parent at names (error.ForkedEarly shown told count) h = (h, refl)
fork_unread session parent at names (error.SavedDrives shown drives count) h = (h, refl)
fork_unread session parent at names _ h = absurd h

pub fork_refused : (files : Option StoreFiles) (s : SessionConfig) (parent : StartInput) (at : ℕ) (needs : List Need) (e : ReadError) → IsForkGivenUp s parent at e → IsNeedRefusal files (fork_need s parent at ∷ needs) e
fork_refused files s parent at needs e h = ⊎_elim (λ m. inl m) (λ f. inr (inl (fork_fault files (string_bytes s.name) parent at (names_wanted s) e f))) h

pub fork_stopped : {S : Type 0} (does : S → StoreAccess → S → Type 0) (session : SessionConfig) (parent : StartInput) (at : ℕ) (needs : List Need) (e : ReadError) (s : S) → IsForkGivenUp session parent at e
    → LogLeadsBy does (StopsAmongNeeds (fork_need session parent at ∷ needs) e) s s
fork_stopped does session parent at needs e s h =
    ([], ⊎_elim (λ m. inl (m, tt)) (λ f. inr (inl (fork_unread (string_bytes session.name) parent at (names_wanted session) e f))) h, refl)

no_file : (session : StoreName) (parent : StartInput) (at : ℕ) (names : Option ℕ) (e : ReadError) → IsForkFault session parent at names e → IsFileFault e → ⊥
no_file session parent at names (error.File shown) h f = absurd h
no_file session parent at names _ h f = absurd f

pub fork_file : (s : SessionConfig) (parent : StartInput) (at : ℕ) (e : ReadError) → IsForkGivenUp s parent at e → IsFileFault e → ⊥
fork_file s parent at e h f =
    ⊎_elim (λ m. subst IsFileFault m f) (λ g. no_file (string_bytes s.name) parent at (names_wanted s) e g f) h
