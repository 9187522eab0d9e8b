-- The session that is typed at.
use Rattle.std.proofs.Common.{◌≡◌, ◌∙◌, ◌<◌, ◌+◌, ℕ, suc, Bool, true, false, cond, List, [], ◌∷◌, Option, Some, inl, inr, length, map, refl, sym, subst, ap, arith, slice_get, get_or}
use Rattle.std.specs.Prelude.{chars, option_map}
use Rattle.std.specs.Borrow.{Bor}
use Rattle.std.specs.List.{All, position_from}
use Rattle.std.proofs.lemmas.List.{length-map}
use Rattle.std.proofs.lemmas.List.Elements.{All-get_or}
use Rattle.std.proofs.lemmas.Option.{get_or_from_slice_get, slice_get-get_or, slice_get-map, slice_get_read, slice_get_within}
use Rattle.cpm_batch.specs.Inputs.{IsOpened, SessionInput, StartInput, given, start_view}
use Rattle.cpm_batch.specs.declared.input.Input.{Input}
use Rattle.cpm_shown.specs.Shown.{shown_of}
use Rattle.cpm_config.specs.Rules.{is_opened, is_session_named, origin_view, place_of, session_view}
use Rattle.cpm_config.specs.declared.config.Config.{Config}
use Rattle.cpm_config.specs.declared.config.SessionConfig.{SessionConfig}
use Rattle.cpm_geom.specs.Disk.{Disk}
use Rattle.cpm_machine.specs.MachineState.{MachineState}
use Rattle.cpm_play.specs.Cued.{AreAscii}
use Rattle.cpm_play.specs.Sitting.{IsPlayCut, sitting}
use Rattle.cpm_play.specs.declared.live.LiveError.{LiveError}
use Rattle.cpm_play.specs.declared.live.LiveError.TheVariants as live
use Rattle.cpm_play.specs.declared.live.TypedPlay.{TypedPlay}
use Rattle.cpm_script.specs.Cues.{CueText, all_said, cue_text}
use Rattle.cpm_script.specs.Laws.{KeysAreAscii}
use Rattle.cpm_script.specs.declared.cue.Cue.{Cue}
use Rattle.cpm_slots.specs.Host.{new_host}
use Rattle.cpm_run.specs.Refusals.{run_error_of_live}
use Rattle.cpm_run.specs.Refusing.{IsForkOrigin, IsForkedSession, IsSessionCut, IsSettleRefusal, IsTypedIn, IsTypedPlace, IsTypedPlaceOf, IsTypingCut, IsTypingRefusal}
use Rattle.cpm_run.specs.Run.{AllAccepted, starts_read}
use Rattle.cpm_run.specs.Settled.{IsTypedBy, IsTypedIfAny, Streams, most_steps, opening_of, typed_view}
use Rattle.cpm_run.specs.Settling.{BeginsAsConfigured, IsOpenable}
use Rattle.cpm_run.specs.declared.error.RunError.{RunError}
use Rattle.cpm_run.specs.declared.error.RunError.TheVariants as refusal
use Rattle.cpm_run.specs.declared.options.RunOptions.{RunOptions}
use Rattle.cpm_run.proofs.StageLemmas.{accepted_openable}

-- ---- the place of a name

found_or : (t : Bool) (n place long : ℕ) (later : Option ℕ) → (later ≡ Some place → place < n + 1 + long) → cond t (Some n) later ≡ Some place → place < n + suc long
found_or true n place long later rest at = let same : n ≡ place = cc in omega (arith, same)
found_or false n place long later rest at = let behind = rest at in omega (arith, behind)

within : {A : Type 0} (test : A → Bool) (n : ℕ) (xs : List A) (place : ℕ) → position_from test n xs ≡ Some place → place < n + length xs
within test n [] place at = absurd (cc)
within test n (x ∷ xs) place at = found_or (test x) n place (length xs) (position_from test (n + 1) xs) (λ e. within test (n + 1) xs place e) at

pub place_within : (name : List ℕ) (sessions : List SessionConfig) (place : ℕ) → place_of name (map session_view sessions) ≡ Some place → place < length sessions
place_within name sessions place at =
    let low = within (is_session_named name) 0 (map session_view sessions) place at in
    let long = length-map sessions session_view in
    omega (arith, low, long)

-- ---- the session that is named

module _ (config : Config) (options : RunOptions) (name : Bor (List ℕ)) (place : ℕ) (sessions : List SessionConfig) (d : SessionConfig) where
  pub place_typed : options.typed ≡ Some name → sessions ≡ config.sessions.items → place_of name.now (map session_view sessions) ≡ Some place
      → is_opened (origin_view (get_or sessions place d).origin) ≡ true → IsTypedPlace config options (Some place)
  place_typed asked same at opened =
      let here = place_within name.now sessions place at in
      let is : IsTypedIn config name.now place = record {
        first = ap (λ (ss : List SessionConfig). place_of name.now (map session_view ss)) (sym same) ∙ at;
        session = get_or sessions place d;
        there = ap (λ (ss : List SessionConfig). slice_get ss place) (sym same) ∙ slice_get-get_or sessions place d here;
        opened = opened;
      } in
      subst (λ (o : Option (Bor (List ℕ))). IsTypedPlaceOf config (option_map (λ n. n.now) o) (Some place)) (sym asked) (place, refl, is)

  pub place_forked : (shown : List ℕ) → options.typed ≡ Some name → sessions ≡ config.sessions.items → place_of name.now (map session_view sessions) ≡ Some place
      → IsForkOrigin (get_or sessions place d).origin → shown ≡ shown_of (chars name.now) → IsForkedSession config options shown
  place_forked shown asked same at forked told =
      let here = place_within name.now sessions place at in
      record {
        name = name.now;
        asked = ap (option_map (λ (n : Bor (List ℕ)). n.now)) asked;
        place = place;
        session = get_or sessions place d;
        first = ap (λ (ss : List SessionConfig). place_of name.now (map session_view ss)) (sym same) ∙ at;
        there = ap (λ (ss : List SessionConfig). slice_get ss place) (sym same) ∙ slice_get-get_or sessions place d here;
        forked = forked;
        told = told;
      }

-- ---- cut short

cut_as : (system : Disk) (start : StartInput) (said : List CueText) (io : Streams) (e : LiveError) → IsSessionCut system start said io e → IsTypingRefusal system start said io (run_error_of_live e)
cut_as system start said io (live.Unreadable reason) cut = cut
cut_as system start said io (live.Unwritable reason) cut = cut
cut_as system start said io (live.Unprinted reason) cut = cut
cut_as system start said io (live.Unrecorded reason) cut = cut
cut_as system start said io live.OutOfMemory cut = inr cut

pub typing_cut : (system : Disk) (start : StartInput) (said cues : List Cue) (io : Streams) (m now : MachineState) (e : LiveError) → m ≡ opening_of start → cues ≡ said
    → IsPlayCut (sitting io.unread.is_patient system m most_steps cues) now io.before io.written io.unrecorded io.record_now io.unread io.left e
    → IsTypingRefusal system start (map cue_text said) io (run_error_of_live e)
typing_cut system start said cues io m now e same are cut =
    cut_as system start (map cue_text said) io e (record {
      cues = cues;
      says = ap (map cue_text) are;
      now = now;
      cut = subst (λ (x : MachineState). IsPlayCut (sitting io.unread.is_patient system x most_steps cues) now io.before io.written io.unrecorded io.record_now io.unread io.left e) same cut;
    })

-- ---- typing where a session is named

all_there : {X : Type 0} (P : X → Type 0) (xs : List X) (place : ℕ) (x : X) → All P xs → slice_get xs place ≡ Some x → P x
all_there P xs place x all there = subst P (get_or_from_slice_get xs place x x there) (All-get_or P xs place x (slice_get_within xs place x there) all)

given_there : (inputs : List Input) (place : ℕ) (i : Input) → place < length inputs → i ≡ get_or inputs place i → slice_get (map given inputs) place ≡ Some (given i)
given_there inputs place i here at = slice_get-map given inputs place ∙ ap (option_map given) (slice_get_read inputs (length inputs) place i refl here at)

-- the session at this place has the name, and is opened
pub record IsTypedHere (config : Config) (name : List ℕ) (place : ℕ) (inputs : List Input) : Type 0 where
  pub first : place_of name (map session_view config.sessions.items) ≡ Some place
  pub within : place < length inputs
  pub opened : (i : Input) → i ≡ get_or inputs place i → IsOpened (start_view i.start)

session_there : (inputs : List Input) (place : ℕ) (i : Input) → place < length inputs → i ≡ get_or inputs place i → slice_get (map (λ x. x.session) (map given inputs)) place ≡ Some i.session.now
session_there inputs place i here at =
    slice_get-map (λ (x : SessionInput). x.session) (map given inputs) place ∙ ap (option_map (λ (x : SessionInput). x.session)) (given_there inputs place i here at)

here_from : (config : Config) (name : List ℕ) (place : ℕ) (inputs : List Input) → IsTypedIn config name place → map (λ i. i.session) (map given inputs) ≡ config.sessions.items
    → All BeginsAsConfigured (map given inputs) → IsTypedHere config name place inputs
here_from config name place inputs at sessions begins =
    let low = slice_get_within config.sessions.items place at.session at.there in
    let a = length-map inputs given in
    let b = length-map (map given inputs) (λ i. i.session) in
    let c = ap (λ (ss : List SessionConfig). length ss) sessions in
    let here : place < length inputs = omega (arith, low, a, b, c) in
    record {
      first = at.first;
      within = here;
      opened = λ i is.
          let same : Some at.session ≡ Some i.session.now = sym at.there ∙ ap (λ (ss : List SessionConfig). slice_get ss place) (sym sessions) ∙ session_there inputs place i here is in
          let one : at.session ≡ i.session.now = cc in
          all_there BeginsAsConfigured (map given inputs) place (given i) begins (given_there inputs place i here is) (ap (λ (s : SessionConfig). is_opened (origin_view s.origin)) (sym one) ∙ at.opened);
    }

pub typed_here : (config : Config) (options : RunOptions) (typed : Option ℕ) (name : Bor (List ℕ)) (place : ℕ) (inputs : List Input) → IsTypedPlace config options typed → options.typed ≡ Some name
    → typed ≡ Some place → map (λ i. i.session) (map given inputs) ≡ config.sessions.items → All BeginsAsConfigured (map given inputs) → IsTypedHere config name.now place inputs
typed_here config options typed name place inputs h asked is sessions begins =
    let x : IsTypedPlaceOf config (Some name.now) typed = subst (λ (o : Option (Bor (List ℕ))). IsTypedPlaceOf config (option_map (λ n. n.now) o) typed) asked h in
    let told : Some x.0 ≡ Some place = sym x.1 ∙ is in
    let same : x.0 ≡ place = cc in
    here_from config name.now place inputs (subst (IsTypedIn config name.now) same x.2) sessions begins

-- its script has keys below 80h, where all have
pub here_ascii : (config : Config) (name : List ℕ) (place : ℕ) (inputs : List Input) (i : Input) → IsTypedHere config name place inputs → i ≡ get_or inputs place i
    → All (λ x. KeysAreAscii x.said) (map given inputs) → AreAscii i.cues.items
here_ascii config name place inputs i here is all =
    all_there (λ (x : SessionInput). KeysAreAscii x.said) (map given inputs) place (given i) all (given_there inputs place i here.within is)

-- it can be opened where all were accepted
pub here_openable : (config : Config) (name : List ℕ) (place : ℕ) (inputs : List Input) (i : Input) (system : Disk) → IsTypedHere config name place inputs → i ≡ get_or inputs place i
    → AllAccepted (starts_read (map given inputs)) (new_host system config.frames) (starts_read (map given inputs)) → IsOpenable (start_view i.start)
here_openable config name place inputs i system here is accepted =
    let all = accepted_openable (starts_read (map given inputs)) (new_host system config.frames) (starts_read (map given inputs)) accepted in
    let there : slice_get (starts_read (map given inputs)) place ≡ Some (start_view i.start) =
    slice_get-map (λ (x : SessionInput). x.start) (map given inputs) place ∙ ap (option_map (λ (x : SessionInput). x.start)) (given_there inputs place i here.within is) in
    all_there (λ b. IsOpened b → IsOpenable b) (starts_read (map given inputs)) place (start_view i.start) all there (here.opened i is)

pub heard_at : (system : Disk) (config : Config) (options : RunOptions) (name : Bor (List ℕ)) (place : ℕ) (inputs : List Input) (i : Input) (io : Streams) (heard : TypedPlay)
    → options.typed ≡ Some name → IsTypedHere config name.now place inputs → i ≡ get_or inputs place i
    → IsTypedBy system config.sessions.items name.now (start_view i.start) (all_said i.cues) io heard.live.keys.items heard.live.steps heard.end
    → IsTypedIfAny system config.sessions.items (option_map (λ n. n.now) options.typed) (map given inputs) io (typed_view (Some (place, heard)))
heard_at system config options name place inputs i io heard asked here is typed =
    subst (λ (o : Option (Bor (List ℕ))). IsTypedIfAny system config.sessions.items (option_map (λ n. n.now) o) (map given inputs) io (typed_view (Some (place, heard)))) (sym asked) (
      record { place = place; keys = heard.live.keys.items; steps = heard.live.steps; end = heard.end },
      refl,
      record {
        input = given i;
        place = here.first;
        there = given_there inputs place i here.within is;
        opened = here.opened i is;
        typed = typed;
      },
    )

module _ (config : Config) (options : RunOptions) (name : Bor (List ℕ)) (place : ℕ) (inputs : List Input) (i : Input) (io : Streams) (system : Disk)
    (accepted : AllAccepted (starts_read (map given inputs)) (new_host system config.frames) (starts_read (map given inputs))) (asked : options.typed ≡ Some name)
    (here : IsTypedHere config name.now place inputs) (is : i ≡ get_or inputs place i) where
  cut : (e : RunError) → IsTypingRefusal system (start_view i.start) (all_said i.cues) io e → IsTypingCut config options io system (map given inputs) e
  cut e r = record {
    accepted = accepted;
    name = name.now;
    asked = ap (option_map (λ (n : Bor (List ℕ)). n.now)) asked;
    place = place;
    input = given i;
    first = here.first;
    there = given_there inputs place i here.within is;
    opened = here.opened i is;
    cut = r;
  }

  pub typing_refused : (e : RunError) → IsTypingRefusal system (start_view i.start) (all_said i.cues) io e → IsSettleRefusal config options io system (map given inputs) e
  typing_refused (refusal.InputUnreadable reason) r = cut (refusal.InputUnreadable reason) r
  typing_refused (refusal.OutputUnwritable reason) r = cut (refusal.OutputUnwritable reason) r
  typing_refused (refusal.ListUnwritable reason) r = cut (refusal.ListUnwritable reason) r
  typing_refused (refusal.RecordUnwritable reason) r = cut (refusal.RecordUnwritable reason) r
  typing_refused refusal.OutOfMemory r = inr (inl (cut refusal.OutOfMemory r))
  typing_refused _ r = absurd r
