-- What the scripts of sessions say can be pressed.
use Rattle.std.proofs.Common.{◌≡◌, ◌∙◌, ◌≤◌, ◌+◌, ◌-◌, ℕ, zero, suc, Bool, true, false, List, [], ◌∷◌, ◌++◌, Option, Some, None, map, ap, refl, subst, sym, arith, slice_get, if◌then◌else◌}
use Rattle.std.specs.List.{All}
use Rattle.std.specs.Prelude.{String, Result, IfOk, option_map, pos, int_le, string_bytes}
use Rattle.std.specs.declared.alloc.Global.{Global}
use Rattle.std.proofs.lemmas.Bool.{and_parts}
use Rattle.std.proofs.lemmas.Bool.Decides.{nat_tests}
use Rattle.std.proofs.lemmas.List.{map-append}
use Rattle.std.proofs.lemmas.List.Elements.{All-cons, All-nil}
use Rattle.std.proofs.lemmas.Option.{slice_get-map}
use Rattle.cpm_batch.specs.Inputs.{AllInputs, HasForkedSaid, HasInputOf, HasSaid, IsForkedInput, IsOpened, IsOpenedInput, IsRestoredInput, SessionInput, StartInput, known_of, saved_count}
use Rattle.cpm_batch.specs.Sources.{IsRecordingOf, NoSource, RecordingFile, ScriptFile, SourceOfKeys, key_source}
use Rattle.cpm_batch.specs.declared.source.Replay.{Replay}
use Rattle.cpm_batch.proofs.KnownLemmas.{few_of}
use Rattle.cpm_config.specs.Entries.{SessionEntries}
use Rattle.cpm_config.specs.Rules.{at_fault, fork_field_fault, forks_fault, is_at, is_opened, origin_fault, origin_view, parent_in, session_view}
use Rattle.cpm_config.specs.declared.config.Origin.{Origin}
use Rattle.cpm_config.specs.declared.config.Origin.TheVariants as origin
use Rattle.cpm_config.specs.declared.config.SessionConfig.{SessionConfig}
use Rattle.cpm_config.specs.declared.field.Field.TheVariants as field
use Rattle.cpm_config.proofs.FaultLemmas.{neither}
use Rattle.cpm_flags.specs.declared.regs.Cpu.{Cpu}
use Rattle.cpm_script.specs.Cues.{Counted, CueText}
use Rattle.cpm_script.specs.Laws.{AreFrom, AreInOrder, AreOwn, CountsRise, KeysAreAscii, PressesFollow}
use Rattle.cpm_script.specs.Recording.{AreTyped}
use Rattle.cpm_script.specs.declared.script.Key.{Key}
use Rattle.cpm_script.proofs.RecordingLaws.{recordings-ordered}
use Rattle.cpm_script.specs.declared.fault.LineFault.{LineFault}
use Rattle.cpm_script.proofs.CueLaws.{cues-ordered}
use Rattle.cpm_script.proofs.ForkedCueLemmas.{own-ordered}
use Rattle.cpm_store.specs.Files.{StoreFiles, StoreName}
use Rattle.cpm_run.specs.Run.{starts_read}
use Rattle.cpm_run.specs.Settled.{forked_at}
use Rattle.cpm_run.specs.Settling.{AreFitInputs, BeginsAsConfigured, HasParent, IsFitInput}

-- ---- what a script says, or a recording

-- it is in order from a count on, and each key is below 80h
record IsInOrderFrom (at : ℕ) (said : List CueText) : Type 0 where
  pub counts : CountsRise at said
  pub ascii : KeysAreAscii said
  pub presses : PressesFollow false said

nothing_said : (at : ℕ) (said : List CueText) → said ≡ [] → IsInOrderFrom at said
nothing_said at said none = subst (IsInOrderFrom at) (sym none) (record { counts = tt; ascii = tt; presses = tt })

script_order : (said : List CueText) → AreInOrder said → IsInOrderFrom 0 said
script_order said order = record { counts = order.counts; ascii = order.ascii; presses = order.presses }

keys_rise : (n : ℕ) (keys : List Key) → AreFrom n keys → CountsRise n (map Counted keys)
keys_rise n [] from = tt
keys_rise n (k ∷ ks) from = (from.0, keys_rise k.count ks from.1)

keys_ascii : (n : ℕ) (keys : List Key) → AreTyped n keys → KeysAreAscii (map Counted keys)
keys_ascii n [] typed = tt
keys_ascii n (k ∷ ks) typed = (typed.2, keys_ascii k.count ks typed.3)

keys_pressed : (keys : List Key) → PressesFollow false (map Counted keys)
keys_pressed [] = tt
keys_pressed (k ∷ ks) = keys_pressed ks

recording_order : (at : ℕ) (text : List ℕ) (said : List CueText) → IsRecordingOf at text said → IsInOrderFrom at said
recording_order at text said r =
    let typed : AreTyped 0 r.keys = subst (λ (x : Result (List Key) (ℕ × LineFault)). IfOk x (AreTyped 0)) r.read (recordings-ordered text) in
    subst (IsInOrderFrom at) (sym r.says) (record { counts = keys_rise at r.keys r.late; ascii = keys_ascii 0 r.keys typed; presses = keys_pressed r.keys })

opened_order : (files : Option StoreFiles) (keys : SourceOfKeys) (said : List CueText) → HasSaid files keys said → IsInOrderFrom 0 said
opened_order files NoSource said none = nothing_said 0 said none
opened_order files (ScriptFile name) said some = script_order said (subst (λ (r : Result (List CueText) (ℕ × LineFault)). IfOk r AreInOrder) some.read (cues-ordered some.text))
opened_order files (RecordingFile name) said some = recording_order 0 some.text said some.read

forked_order : (files : Option StoreFiles) (keys : SourceOfKeys) (at before : ℕ) (said : List CueText) → before ≤ 4096 → HasForkedSaid files keys at before said → IsInOrderFrom at said
forked_order files NoSource at before said few none = nothing_said at said none
forked_order files (ScriptFile name) at before said few some =
    let own : AreOwn at before said = subst (λ (r : Result (List CueText) (ℕ × LineFault)). IfOk r (AreOwn at before)) some.read (own-ordered at before some.text few) in
    record { counts = own.from_fork; ascii = own.in_order.ascii; presses = own.in_order.presses }
forked_order files (RecordingFile name) at before said few some = recording_order at some.text said some.read

-- a fork that breaks no rule is at none of the steps that the session doesn't have
at_within : (parent : Option SessionEntries) (steps at : ℕ) → at_fault parent (pos steps) (pos at) ≡ None → at ≤ steps
at_within None steps at none = absurd (cc)
at_within (Some parent) steps at none = by_test (is_at parent.steps (pos steps) (pos at)) refl none
  where
    by_test : (t : Bool) → is_at parent.steps (pos steps) (pos at) ≡ t → (if t then None else Some field.At) ≡ None → at ≤ steps
    by_test false e none = absurd (cc)
    by_test true e none =
        let parts = and_parts (int_le (pos 0) (pos at)) _ e in
        let within = (and_parts (int_le (pos at) parent.steps) (int_le (pos at) (pos steps)) parts.1).1 in
        grind (arith, nat_tests)

-- ---- of each session

-- not too many keys of each of them are known
abbrev AreKnown : List Replay → List SessionInput → Type 0
AreKnown replays is = (place : ℕ) (i : SessionInput) → slice_get is place ≡ Some i → (at : ℕ) → known_of replays at i ≤ 4096

known_more : (replays : List Replay) (is : List SessionInput) (i : SessionInput) → AreKnown replays is → ((at : ℕ) → known_of replays at i ≤ 4096) → AreKnown replays (is ++ i ∷ [])
known_more replays [] i all one zero j there = let same : i ≡ j = cc in subst (λ (x : SessionInput). (at : ℕ) → known_of replays at x ≤ 4096) same one
known_more replays [] i all one (suc place) j there = absurd (cc)
known_more replays (k ∷ is) i all one zero j there = all zero j there
known_more replays (k ∷ is) i all one (suc place) j there = known_more replays is i (λ p x at. all (suc p) x at) one place j there

opened_fit : (files : Option StoreFiles) (replays : List Replay) (starts : List StartInput) (cpu : Cpu) (quota : ℕ) (names : List (String Global)) (i : SessionInput) → IsOpenedInput files replays cpu quota names i
    → IsFitInput None starts i
opened_fit files replays starts cpu quota names i h =
    let order = opened_order files (key_source replays i.session) i.said h.said in
    record {
      ascii = order.ascii;
      presses = order.presses;
      from_fork = subst (λ (b : StartInput). CountsRise (forked_at b) i.said) (sym h.start) order.counts;
      within = subst (λ (b : StartInput). forked_at b ≤ i.steps) (sym h.start) (omega arith);
      parent = subst (HasParent starts) (sym h.start) tt;
    }

restored_fit : (files : Option StoreFiles) (replays : List Replay) (starts : List StartInput) (name : StoreName) (i : SessionInput) → IsRestoredInput files replays name i → IsFitInput None starts i
restored_fit files replays starts name i h =
    let order = opened_order files (key_source replays i.session) i.said h.said in
    record {
      ascii = order.ascii;
      presses = order.presses;
      from_fork = subst (λ (b : StartInput). CountsRise (forked_at b) i.said) (sym h.start) order.counts;
      within = subst (λ (b : StartInput). forked_at b ≤ i.steps) (sym h.start) (omega arith);
      parent = subst (HasParent starts) (sym h.start) tt;
    }

fork_fit : (files : Option StoreFiles) (replays : List Replay) (before : List SessionInput) (name : StoreName) (at : ℕ) (i : SessionInput) → AreKnown replays before → IsForkedInput files replays before name at i
    → at ≤ i.session.steps → IsFitInput None (starts_read before) i
fork_fit files replays before name at i known h within =
    let own = at - saved_count h.parent.start in
    let few = known h.place h.parent h.found.there own in
    let said = forked_order files (key_source replays i.session) own (known_of replays own h.parent) i.said few h.said in
    let steps = h.steps in
    let there : slice_get (starts_read before) h.place ≡ Some h.parent.start = slice_get-map (λ (x : SessionInput). x.start) before h.place ∙ ap (option_map (λ (x : SessionInput). x.start)) h.found.there in
    record {
      ascii = said.ascii;
      presses = said.presses;
      from_fork = subst (λ (b : StartInput). CountsRise (forked_at b) i.said) (sym h.start) said.counts;
      within = subst (λ (b : StartInput). forked_at b ≤ i.steps) (sym h.start) (omega (arith, steps, within));
      parent = subst (HasParent (starts_read before)) (sym h.start) (h.parent.start, there, h.found.opened);
    }

input_fit : (files : Option StoreFiles) (replays : List Replay) (before : List SessionInput) (o : Origin) (i : SessionInput) → AreKnown replays before → HasInputOf files replays before o i
    → origin_fault (map (λ x. session_view x.session) before) (pos i.session.steps) (origin_view o) ≡ None → IsFitInput None (starts_read before) i
input_fit files replays before (origin.Opened cpu quota drives) i known h none = opened_fit files replays (starts_read before) cpu quota drives.items i h
input_fit files replays before (origin.Forked parent at) i known h none =
    fork_fit files replays before (string_bytes parent) at i known h (at_within (parent_in (map (λ x. session_view x.session) before) (string_bytes parent)) i.session.steps at none)
input_fit files replays before (origin.Restored saving) i known h none = restored_fit files replays (starts_read before) (string_bytes saving) i h

seen_sessions : (is : List SessionInput) → map (λ x. session_view x.session) is ≡ map session_view (map (λ i. i.session) is)
seen_sessions [] = refl
seen_sessions (i ∷ is) = ap (λ ss. session_view i.session ∷ ss) (seen_sessions is)

fit_from : (files : Option StoreFiles) (replays : List Replay) (n : ℕ) (before is : List SessionInput) → AreKnown replays before → AllInputs files replays before is
    → forks_fault n (map (λ x. session_view x.session) before) (map (λ x. session_view x.session) is) ≡ None → AreFitInputs None (starts_read before) is
fit_from files replays n before [] known h none = tt
fit_from files replays n before (i ∷ is) known h none =
    let apart = neither n (fork_field_fault (map (λ x. session_view x.session) before) (session_view i.session)) _ none in
    let fit = input_fit files replays before i.session.origin i known h.0 apart.0 in
    let later = ap (λ (seen : List SessionEntries). forks_fault (n + 1) seen (map (λ x. session_view x.session) is)) (map-append (λ (x : SessionInput). session_view x.session) before (i ∷ [])) ∙ apart.1 in
    let starts : starts_read (before ++ i ∷ []) ≡ starts_read before ++ i.start ∷ [] = map-append (λ (x : SessionInput). x.start) before (i ∷ []) in
    let more = known_more replays before i known (few_of files replays before i.session.origin i h.0) in
    (fit, subst (λ (bs : List StartInput). AreFitInputs None bs is) starts (fit_from files replays (n + 1) (before ++ i ∷ []) is more h.1 later))

pub inputs_fit : (replays : List Replay) (files : Option StoreFiles) (sessions : List SessionConfig) (is : List SessionInput) → map (λ i. i.session) is ≡ sessions → AllInputs files replays [] is
    → forks_fault 1 [] (map session_view sessions) ≡ None → AreFitInputs None [] is
inputs_fit replays files sessions is same h none =
    let seen : map (λ x. session_view x.session) is ≡ map session_view sessions = seen_sessions is ∙ ap (map session_view) same in
    fit_from files replays 1 [] is (λ place i there. absurd (cc)) h (ap (forks_fault 1 []) seen ∙ none)

-- ---- a session begins as the configuration says

begins : (files : Option StoreFiles) (replays : List Replay) (before : List SessionInput) (o : Origin) (i : SessionInput) → HasInputOf files replays before o i → is_opened (origin_view o) ≡ true → IsOpened i.start
begins files replays before (origin.Opened cpu quota drives) i h opened = subst IsOpened (sym h.start) tt
begins files replays before (origin.Forked parent at) i h opened = absurd (cc)
begins files replays before (origin.Restored saving) i h opened = subst IsOpened (sym h.start) tt

begin_from : (files : Option StoreFiles) (replays : List Replay) (before is : List SessionInput) → AllInputs files replays before is → All BeginsAsConfigured is
begin_from files replays before [] h = All-nil BeginsAsConfigured
begin_from files replays before (i ∷ is) h =
    All-cons BeginsAsConfigured i is (begins files replays before i.session.origin i h.0) (begin_from files replays (before ++ i ∷ []) is h.1)

pub inputs_begin : (replays : List Replay) (files : Option StoreFiles) (is : List SessionInput) → AllInputs files replays [] is → All BeginsAsConfigured is
inputs_begin replays files is h = begin_from files replays [] is h
