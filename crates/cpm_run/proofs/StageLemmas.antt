-- From what was read of a run to what its sessions are played by.
use Rattle.std.proofs.Common.{inl, inr, ◌≡◌, ◌∙◌, ◌<◌, ◌≤◌, ◌+◌, ◌⊎◌, ℕ, suc, Bool, true, false, List, [], ◌∷◌, ◌++◌, Option, Some, None, length, map, refl, sym, subst, ap, arith, slice_get, get_or, take, drop, if◌then◌else◌, ◌==◌, ◌||◌}
use Rattle.std.specs.Prelude.{IsSome, is_some, not, nat_lt, option_map}
use Rattle.std.specs.List.{All}
use Rattle.std.proofs.lemmas.Bool.Decides.{nat_tests}
use Rattle.std.proofs.lemmas.List.{at_drop_all, drop_more, length-append, map_more}
use Rattle.std.proofs.lemmas.List.Elements.{All-cons, All-nil, All-push, All-same}
use Rattle.cpm_batch.specs.Inputs.{Forks, IsOpened, Opens, Restores, SessionInput, StartInput, given, timed_keys}
use Rattle.cpm_batch.specs.declared.input.Input.{Input}
use Rattle.cpm_config.specs.declared.config.Config.{Config}
use Rattle.cpm_config.specs.declared.config.SessionConfig.{SessionConfig}
use Rattle.cpm_flags.specs.declared.regs.Cpu.{Cpu}
use Rattle.cpm_geom.specs.Disk.{Disk}
use Rattle.cpm_machine.specs.Opening.{drives_fault, fault_else, opening_fault}
use Rattle.cpm_machine.specs.declared.opening.OpenError.{OpenError}
use Rattle.cpm_machine.specs.declared.opening.OpenError.TheVariants.{BadQuota}
use Rattle.cpm_machine.specs.declared.opening.Opening.{Opening}
use Rattle.cpm_script.specs.Cues.{Counted, cue_text}
use Rattle.cpm_script.specs.Laws.{CountsRise, KeysAreAscii, PressesFollow}
use Rattle.cpm_script.specs.Recording.{AreTyped}
use Rattle.cpm_script.specs.declared.cue.Cue.{Cue}
use Rattle.cpm_script.specs.declared.cue.Cue.TheVariants as cue
use Rattle.cpm_script.specs.declared.script.Key.{Key}
use Rattle.cpm_slots.specs.Host.{Host, new_host, room_fault, with_added, with_opened}
use Rattle.cpm_play.specs.Typist.{TypingState}
use Rattle.cpm_play.specs.declared.live.TypedPlay.{TypedPlay}
use Rattle.cpm_run.specs.Openings.{IsJudgedSo}
use Rattle.cpm_run.specs.Refusing.{IsSettleRefusal}
use Rattle.cpm_run.specs.Run.{AllAccepted, IsOpening, starts_read}
use Rattle.cpm_run.specs.Settled.{AreUntouched, IsTypedAt, IsTypedIfAny, Streams, TypedSession, forked_at, streams, typed_view}
use Rattle.cpm_run.specs.Settling.{AreFitInputs, AreOpenable, IsFitInput, IsOpenable, IsSettlingRefusal}
use Rattle.cpm_run.specs.declared.error.RunError.{RunError}
use Rattle.cpm_run.specs.declared.error.RunError.TheVariants as refusal
use Rattle.cpm_run.specs.declared.options.RunOptions.{RunOptions}
use Rattle.std.specs.Borrow.{Bor}

-- ---- openings

none_of : (first second : Option OpenError) → fault_else first second ≡ None → first ≡ None
none_of None second none = refl
none_of (Some fault) second none = none

fault_by : ℕ → List Disk → Option OpenError
fault_by quota images = if nat_lt quota 16 || nat_lt 256 quota then Some BadQuota else drives_fault (length images)

fault_is : (cpu : Cpu) (quota : ℕ) (images : List Disk) (o : Opening) → IsOpening cpu quota images o → opening_fault o ≡ fault_by quota images
unfolding fault_by
fault_is cpu quota images o is = ap (λ (n : ℕ). fault_by n o.drives.items) is.quota ∙ ap (fault_by quota) is.drives

abbrev OpensIf : StartInput → Type 0
OpensIf b = IsOpened b → IsOpenable b

one_openable : (cpu : Cpu) (quota : ℕ) (images : List Disk) (o : Opening) → IsOpening cpu quota images o → opening_fault o ≡ None → OpensIf (Opens cpu quota images)
one_openable cpu quota images o is none = λ opened p of. fault_is cpu quota images p of ∙ sym (fault_is cpu quota images o is) ∙ none

-- what was accepted can be opened
pub accepted_openable : (all : List StartInput) (h : Host) (starts : List StartInput) → AllAccepted all h starts → AreOpenable starts
accepted_openable all h [] r = All-nil OpensIf
accepted_openable all h (Opens cpu quota drives ∷ bs) r =
    All-cons OpensIf (Opens cpu quota drives) bs (one_openable cpu quota drives r.0 r.1 (none_of (opening_fault r.0) (room_fault h r.0.quota) r.2)) (accepted_openable all (with_opened h r.0) bs r.3)
accepted_openable all h (Forks parent at ∷ bs) r = All-cons OpensIf (Forks parent at) bs (λ opened. absurd opened) (accepted_openable all h bs r)
accepted_openable all h (Restores x ∷ bs) r = All-cons OpensIf (Restores x) bs (λ opened o of. absurd of) (accepted_openable all (with_added h x.state) bs r.1)

-- ---- sessions that are fit

-- what each of them says is below 80h
pub ascii_inputs : (starts : List StartInput) (is : List SessionInput) → AreFitInputs None starts is → All (λ i. KeysAreAscii i.said) is
ascii_inputs starts [] fit = All-nil (λ (i : SessionInput). KeysAreAscii i.said)
ascii_inputs starts (i ∷ is) fit = All-cons (λ (x : SessionInput). KeysAreAscii x.said) i is fit.0.ascii (ascii_inputs (starts ++ i.start ∷ []) is fit.1)

-- what was typed is in order
typed_counts : (n : ℕ) (keys : List Key) → AreTyped n keys → CountsRise n (map Counted keys)
typed_counts n [] typed = tt
typed_counts n (k ∷ ks) typed = (typed.0, typed_counts k.count ks typed.3)

typed_ascii : (n : ℕ) (keys : List Key) → AreTyped n keys → KeysAreAscii (map Counted keys)
typed_ascii n [] typed = tt
typed_ascii n (k ∷ ks) typed = (typed.2, typed_ascii k.count ks typed.3)

typed_presses : (keys : List Key) → PressesFollow false (map Counted keys)
typed_presses [] = tt
typed_presses (k ∷ ks) = typed_presses ks

at_zero : (b : StartInput) → IsOpened b → forked_at b ≡ 0
at_zero (Opens cpu quota drives) opened = refl
at_zero (Forks parent at) opened = absurd opened
at_zero (Restores x) opened = refl

fit_one : (t : TypedSession) (starts : List StartInput) (i : SessionInput) → AreTyped 0 t.keys → (length starts ≡ t.place → IsOpened i.start) → IsFitInput None starts i
    → IsFitInput (Some t) starts i
fit_one t starts i keys opened fit = by_test (length starts == t.place) refl
  where
    by_test : (b : Bool) → (length starts == t.place) ≡ b → IsFitInput (Some t) starts i
    by_test true e =
        let same : length starts ≡ t.place = grind (arith, nat_tests) in
        let zero = at_zero i.start (opened same) in
        record {
          ascii = subst (λ (b : Bool). KeysAreAscii (if b then map Counted t.keys else i.said)) (sym e) (typed_ascii 0 t.keys keys);
          presses = subst (λ (b : Bool). PressesFollow false (if b then map Counted t.keys else i.said)) (sym e) (typed_presses t.keys);
          from_fork = subst (λ (b : Bool). CountsRise (forked_at i.start) (if b then map Counted t.keys else i.said)) (sym e)
              (subst (λ (n : ℕ). CountsRise n (map Counted t.keys)) (sym zero) (typed_counts 0 t.keys keys));
          within = subst (λ (b : Bool). forked_at i.start ≤ (if b then t.steps else i.steps)) (sym e) (omega (arith, zero));
          parent = fit.parent;
        }
    by_test false e = record {
      ascii = subst (λ (b : Bool). KeysAreAscii (if b then map Counted t.keys else i.said)) (sym e) fit.ascii;
      presses = subst (λ (b : Bool). PressesFollow false (if b then map Counted t.keys else i.said)) (sym e) fit.presses;
      from_fork = subst (λ (b : Bool). CountsRise (forked_at i.start) (if b then map Counted t.keys else i.said)) (sym e) fit.from_fork;
      within = subst (λ (b : Bool). forked_at i.start ≤ (if b then t.steps else i.steps)) (sym e) fit.within;
      parent = fit.parent;
    }

fit_from : (t : TypedSession) (starts : List StartInput) (is : List SessionInput) → AreTyped 0 t.keys
    → ((place : ℕ) (i : SessionInput) → slice_get is place ≡ Some i → length starts + place ≡ t.place → IsOpened i.start) → AreFitInputs None starts is → AreFitInputs (Some t) starts is
fit_from t starts [] keys opened fit = tt
fit_from t starts (i ∷ is) keys opened fit = (
  fit_one t starts i keys (λ e. opened 0 i refl (omega (arith, e))) fit.0,
  fit_from t (starts ++ i.start ∷ []) is keys (λ place j there e. opened (suc place) j there (let more = length-append starts (i.start ∷ []) in omega (arith, e, more))) fit.1,
)

fit_typed : (system : Disk) (sessions : List SessionConfig) (name : List ℕ) (inputs : List SessionInput) (io : Streams) (t : TypedSession) → IsTypedAt system sessions name inputs io t
    → AreFitInputs None [] inputs → AreFitInputs (Some t) [] inputs
fit_typed system sessions name inputs io t at fit =
    fit_from t [] inputs at.typed.given.typed
    (λ place i there e.
    let here : place ≡ t.place = omega (arith, e) in
    let found : Some i ≡ Some at.input = sym there ∙ ap (slice_get inputs) here ∙ at.there in
    let same : at.input ≡ i = cc in
    subst (λ (x : SessionInput). IsOpened x.start) same at.opened)
    fit

pub typed_fit : (system : Disk) (sessions : List SessionConfig) (name : Option (List ℕ)) (inputs : List SessionInput) (io : Streams) (typed : Option TypedSession)
    → IsTypedIfAny system sessions name inputs io typed → AreFitInputs None [] inputs → AreFitInputs typed [] inputs
typed_fit system sessions None inputs io typed h fit = subst (λ (t : Option TypedSession). AreFitInputs t [] inputs) (sym h.0) fit
typed_fit system sessions (Some name) inputs io typed h fit =
    subst (λ (t : Option TypedSession). AreFitInputs t [] inputs) (sym h.1) (fit_typed system sessions name inputs io h.0 h.2 fit)

-- ---- refusals

pub sessions_refused : (config : Config) (options : RunOptions) (io : Streams) (system : Disk) (inputs : List SessionInput) (e : RunError) → AreUntouched io
    → IsJudgedSo config (new_host system config.frames) (starts_read inputs) e → IsSettleRefusal config options io system inputs e
sessions_refused config options io system inputs (refusal.SessionRefused name fault) untouched r = (r.0, r.1, untouched)
sessions_refused config options io system inputs (refusal.FramesExceeded name quotas frames) untouched r = (r.0, r.1, r.2, untouched)
sessions_refused config options io system inputs (refusal.SavedElsewhere name) untouched r = (r, untouched)
sessions_refused config options io system inputs _ untouched r = absurd r

pub settle_refused : (config : Config) (options : RunOptions) (io : Streams) (system : Disk) (inputs : List SessionInput) (typed : Option TypedSession) (e : RunError)
    → AllAccepted (starts_read inputs) (new_host system config.frames) (starts_read inputs)
    → IsTypedIfAny system config.sessions.items (option_map (λ n. n.now) options.typed) inputs io typed
    → IsSettlingRefusal system options typed config.sessions.items inputs e → IsSettleRefusal config options io system inputs e
settle_refused config options io system inputs typed (refusal.TooManyKeys shown) accepted heard r =
    record {
      accepted = accepted;
      typed = typed;
      heard = heard;
      limited = r.refused.0;
      over = record { done = r.done; input = r.input; rest = r.rest; order = r.order; settled = r.settled; before = r.before; over = r.refused.1 };
    }
settle_refused config options io system inputs typed refusal.OutOfMemory accepted heard r = inr (inr (record { accepted = accepted; typed = typed; heard = heard }))
settle_refused config options io system inputs typed _ accepted heard r = absurd r.refused

pub settle_refused_as : (config : Config) (options : RunOptions) (io : Streams) (system : Disk) (inputs : List SessionInput) (typed heard : Option (ℕ × TypedPlay)) (e : RunError) → typed ≡ heard
    → AllAccepted (starts_read inputs) (new_host system config.frames) (starts_read inputs)
    → IsTypedIfAny system config.sessions.items (option_map (λ n. n.now) options.typed) inputs io (typed_view heard)
    → IsSettlingRefusal system options (typed_view typed) config.sessions.items inputs e → IsSettleRefusal config options io system inputs e
settle_refused_as config options io system inputs typed heard e same accepted given r =
    settle_refused config options io system inputs (typed_view heard) e accepted given
    (subst (λ (t : Option (ℕ × TypedPlay)). IsSettlingRefusal system options (typed_view t) config.sessions.items inputs e) same r)
