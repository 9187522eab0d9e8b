-- The session that another one is forked from, among those that were read before it.
use Rattle.std.proofs.Common.{◌≡◌, ◌∙◌, ◌<◌, ◌≤◌, ℕ, Bool, true, false, cond, if◌then◌else◌, List, [], ◌∷◌, ◌++◌, length, map, get_or, take, drop, ◌+◌, Option, Some, None, refl, sym, subst, ap, arith}
use Rattle.std.specs.Prelude.{is_some, nat_lt, option_and_then, option_map, slice_get}
use Rattle.std.specs.List.{All, find, position_from, position_or_len}
use Rattle.std.proofs.lemmas.Bool.Decides.{nat_tests}
use Rattle.std.proofs.lemmas.Iterator.Adapters.{position_from-zero}
use Rattle.std.proofs.lemmas.List.{append-nil, append_assoc}
use Rattle.std.proofs.lemmas.List.Elements.{All-get_or, All-nil, All-push, All-same}
use Rattle.std.proofs.lemmas.List.Folds.{find_at}
use Rattle.std.proofs.lemmas.Option.{get_or_from_slice_get, slice_get-get_or, slice_get-map, slice_get_within}
use Rattle.cpm_config.specs.Entries.{SessionEntries}
use Rattle.cpm_config.specs.Rules.{fork_field_fault, forks_fault, if_opened, is_session_named, is_opened, named_in, origin_view, parent_in, session_view}
use Rattle.cpm_config.proofs.FaultLemmas.{faultless_step}
use Rattle.cpm_config.specs.declared.config.Origin.{Origin}
use Rattle.cpm_config.specs.declared.config.Origin.TheVariants as origin
use Rattle.cpm_config.specs.declared.config.SessionConfig.{SessionConfig}
use Rattle.cpm_store.specs.Files.{StoreFiles, StoreName}
use Rattle.cpm_batch.specs.Inputs.{AllInputs, HasInputOf, IsOpened, IsParent, SessionInput, given, known_of, session_named, session_place}
use Rattle.cpm_batch.specs.declared.source.Replay.{Replay}
use Rattle.cpm_batch.specs.declared.input.Input.{Input}
use Rattle.cpm_batch.proofs.KnownLemmas.{few_of}

-- what was read for a session: of which not too many keys are known, and a start as its session has it
record IsSound (replays : List Replay) (i : SessionInput) : Type 0 where
  pub few : (at : ℕ) → known_of replays at i ≤ 4096
  pub opened : is_opened (origin_view i.session.origin) ≡ true → IsOpened i.start

sound_at : (replays : List Replay) (is : List SessionInput) (place : ℕ) (i : SessionInput) → All (IsSound replays) is → slice_get is place ≡ Some i → IsSound replays i
sound_at replays is place i all there =
    subst (IsSound replays) (get_or_from_slice_get is place i i there) (All-get_or (IsSound replays) is place i (slice_get_within is place i there) all)

sound_opened : (replays : List Replay) (files : Option StoreFiles) (o : Origin) (before : List SessionInput) (i : SessionInput) → i.session.origin ≡ o → HasInputOf files replays before o i → IsSound replays i
sound_opened replays files (origin.Opened cpu quota drives) before i is h = record {
  few = few_of files replays before (origin.Opened cpu quota drives) i h;
  opened = λ opened. subst IsOpened (sym h.start) tt;
}
sound_opened replays files (origin.Forked parent at) before i is h = record {
  few = few_of files replays before (origin.Forked parent at) i h;
  opened = λ opened. let no = sym (ap (λ (x : Origin). is_opened (origin_view x)) is) ∙ opened in absurd (cc);
}
sound_opened replays files (origin.Restored saving) before i is h = record {
  few = few_of files replays before (origin.Restored saving) i h;
  opened = λ opened. subst IsOpened (sym h.start) tt;
}

sound_more : (replays : List Replay) (files : Option StoreFiles) (before is : List SessionInput) → All (IsSound replays) before → AllInputs files replays before is → All (IsSound replays) (before ++ is)
sound_more replays files before [] all h = All-same (IsSound replays) (before ++ []) before (append-nil before) all
sound_more replays files before (i ∷ is) all h =
    All-same (IsSound replays) (before ++ i ∷ is) ((before ++ i ∷ []) ++ is) (sym (append_assoc before (i ∷ []) is))
    (sound_more replays files (before ++ i ∷ []) is (All-push (IsSound replays) before i all (sound_opened replays files i.session.origin before i refl h.0)) h.1)

-- ---- the first that passes a test

record IsFirst {A B : Type 0} (view : A → B) (test : B → Bool) (xs : List A) (y : B) : Type 0 where
  pub place : ℕ
  pub element : A
  pub first : position_from test 0 (map view xs) ≡ Some place
  pub there : slice_get xs place ≡ Some element
  pub seen : view element ≡ y

seen_at : {A B : Type 0} (view : A → B) (test : B → Bool) (xs : List A) (y : B) (place : ℕ) (o : Option A) → position_from test 0 (map view xs) ≡ Some place → slice_get xs place ≡ o
    → option_map view o ≡ Some y → IsFirst view test xs y
seen_at view test xs y place None first there seen = absurd (cc)
seen_at view test xs y place (Some x) first there seen = record { place = place; element = x; first = first; there = there; seen = cc }

find-first : {A B : Type 0} (view : A → B) (test : B → Bool) (xs : List A) (y : B) → find test (map view xs) ≡ Some y → IsFirst view test xs y
find-first {A} {B} view test xs y found =
    let place = position_or_len test (map view xs) in
    let there : slice_get (map view xs) place ≡ Some y = sym (find_at test (map view xs)) ∙ found in
    let within : place < length (map view xs) = slice_get_within (map view xs) place y there in
    let passes : nat_lt place (length (map view xs)) ≡ true = grind (arith, nat_tests) in
    seen_at view test xs y place (slice_get xs place) (sym (position_from-zero test (map view xs)) ∙ ap (λ (t : Bool). cond t (Some place) None) passes) refl
    (sym (slice_get-map view xs place) ∙ there)

-- ---- the parent

-- it stands before, it is opened, and not too many keys of it are known
pub record HasParent (replays : List Replay) (is : List SessionInput) (name : StoreName) : Type 0 where
  pub place : ℕ
  pub parent : SessionInput
  pub found : IsParent is name place parent
  pub few : (at : ℕ) → known_of replays at parent ≤ 4096

abbrev seen : SessionInput → SessionEntries
seen i = session_view i.session

parent_at : (replays : List Replay) (is : List SessionInput) (name : StoreName) (s : SessionEntries) → All (IsSound replays) is → IsFirst seen (is_session_named name) is s → is_opened s.origin ≡ true → HasParent replays is name
parent_at replays is name s all f opened =
    let sound = sound_at replays is f.place f.element all f.there in
    record {
      place = f.place;
      parent = f.element;
      found = record { first = f.first; there = f.there; opened = sound.opened (ap (λ (x : SessionEntries). is_opened x.origin) f.seen ∙ opened) };
      few = sound.few;
    }

parent_by : (replays : List Replay) (is : List SessionInput) (name : StoreName) (o : Option SessionEntries) → All (IsSound replays) is → named_in (map seen is) name ≡ o → is_some (if_opened o) ≡ true → HasParent replays is name
parent_by replays is name None all found some = absurd (cc)
parent_by replays is name (Some s) all found some = by_test (is_opened s.origin) refl some
  where
    by_test : (t : Bool) → is_opened s.origin ≡ t → is_some (if t then Some s else None) ≡ true → HasParent replays is name
    by_test true e g = parent_at replays is name s all (find-first seen (is_session_named name) is s found) e
    by_test false e g = absurd (cc)

pub parent_found : (replays : List Replay) (files : Option StoreFiles) (is : List SessionInput) (name : StoreName) → AllInputs files replays [] is → is_some (parent_in (map (λ i. session_view i.session) is) name) ≡ true → HasParent replays is name
parent_found replays files is name h some = parent_by replays is name (named_in (map seen is) name) (sound_more replays files [] is (All-nil (IsSound replays)) h) refl some

-- the parent at a place, of which not too many keys are known
pub record IsReadParent (replays : List Replay) (is : List Input) (name : StoreName) (place : ℕ) (parent : SessionInput) : Type 0 where
  pub found : IsParent (map given is) name place parent
  pub few : (at : ℕ) → known_of replays at parent ≤ 4096
  pub named : session_named (map given is) name ≡ Some parent

pub parent_read : (replays : List Replay) (files : Option StoreFiles) (is : List Input) (name : StoreName) (place : ℕ) (i : Input) → AllInputs files replays [] (map given is)
    → is_some (parent_in (map (λ i. session_view i.session) (map given is)) name) ≡ true → Some place ≡ session_place (map given is) name → place < length is → i ≡ get_or is place i
    → IsReadParent replays is name place (given i)
parent_read replays files is name place i all some named within is_at =
    let h = parent_found replays files (map given is) name all some in
    let same_place : h.place ≡ place = let f = h.found.first in cc in
    let there : slice_get (map given is) place ≡ Some (given i) =
    slice_get-map given is place ∙ ap (option_map given) (slice_get-get_or is place i within ∙ ap (λ (x : Input). Some x) (sym is_at)) in
    let same : h.parent ≡ given i = let f = ap (slice_get (map given is)) (sym same_place) ∙ h.found.there in cc in
    record {
      found = record { first = sym named; there = there; opened = subst (λ (x : SessionInput). IsOpened x.start) same h.found.opened };
      few = λ at. subst (λ (x : SessionInput). known_of replays at x ≤ 4096) same (h.few at);
      named = ap (λ (p : Option ℕ). option_and_then (slice_get (map given is)) p) (sym named) ∙ there;
    }

-- ---- forks that break no rule

seen_sessions : (is : List SessionInput) → map seen is ≡ map session_view (map (λ i. i.session) is)
seen_sessions [] = refl
seen_sessions (i ∷ is) = ap (λ ss. seen i ∷ ss) (seen_sessions is)

-- from the sessions that were read
pub fork_stands : (sessions : List SessionConfig) (i : ℕ) (s : SessionConfig) (is : List SessionInput) → i < length sessions → s ≡ get_or sessions i s
    → forks_fault (i + 1) (map session_view (take i sessions)) (map session_view (drop i sessions)) ≡ None → map (λ x. x.session) is ≡ take i sessions
    → fork_field_fault (map (λ x. session_view x.session) is) (session_view s) ≡ None
fork_stands sessions i s is within at none same =
    ap (λ before. fork_field_fault before (session_view s)) (seen_sessions is ∙ ap (map session_view) same)
    ∙ (faultless_step session_view fork_field_fault (i + 1) sessions i s within at none).0

pub forks_stand : (sessions : List SessionConfig) (i : ℕ) (s : SessionConfig) → i < length sessions → s ≡ get_or sessions i s
    → forks_fault (i + 1) (map session_view (take i sessions)) (map session_view (drop i sessions)) ≡ None
    → forks_fault (i + 1 + 1) (map session_view (take (i + 1) sessions)) (map session_view (drop (i + 1) sessions)) ≡ None
forks_stand sessions i s within at none = (faultless_step session_view fork_field_fault (i + 1) sessions i s within at none).1
