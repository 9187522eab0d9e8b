-- Reads up to the first fault.
use Rattle.std.proofs.Common.{◌≡◌, ◌∙◌, ◌⊎◌, ⊎_elim, inl, inr, ℕ, List, [], ◌∷◌, ◌++◌, String, append_assoc, append-nil, refl, length, get_or, take, drop, suc, map, ◌<◌, ap, sym, subst}
use Rattle.std.proofs.Math.Seq.{split_at}
use Rattle.std.proofs.lemmas.List.{map-append}
use Rattle.std.specs.Borrow.{Bor}
use Rattle.std.specs.Prelude.{IsSomeAnd, Option, Some, chars, string_bytes}
use Rattle.cpm_shown.specs.Shown.{shown_of}
use Rattle.std.specs.declared.alloc.Global.{Global}
use Rattle.cpm_config.specs.declared.config.Config.{Config}
use Rattle.cpm_config.specs.declared.config.Origin.{Origin}
use Rattle.cpm_config.specs.declared.config.Origin.TheVariants as origin
use Rattle.cpm_config.specs.declared.config.SessionConfig.{SessionConfig}
use Rattle.cpm_geom.specs.Disk.{Disk}
use Rattle.cpm_script.specs.Cues.{CueText}
use Rattle.cpm_store.specs.Files.{StoreName}
use Rattle.cpm_store.specs.Log.{StoreAccess, AreNoWrites, Missed, LogLeadsBy, Then}
use Rattle.cpm_store.proofs.LogLemmas.{no_writes_more, ran_more, ran_one}
use Rattle.cpm_batch.specs.declared.error.ReadError.{ReadError}
use Rattle.cpm_batch.specs.declared.error.ReadError.TheVariants.{File, OutOfMemory}
use Rattle.cpm_batch.specs.Inputs.{ForkOf, ForkedScriptIn, ImageIn, IsMissed, Need, RecordingIn, SavingIn, ScriptIn, SessionInput, forked_key_needs, image_needs, key_needs, known_of, needed_name, needs_of, own_count, saving_need}
use Rattle.cpm_batch.specs.Sources.{NoSource, RecordingFile, ScriptFile, SourceOfKeys, key_source, source_view}
use Rattle.cpm_batch.specs.declared.source.KeySource.{KeySource}
use Rattle.cpm_batch.specs.declared.source.KeySource.TheVariants as source
use Rattle.cpm_batch.specs.declared.source.Replay.{Replay}
use Rattle.cpm_batch.specs.Reads.{AreImagesRead, AreInputsRead, IsFaultRead, IsForkedSaidRead, IsImageRead, IsInputRead, IsInputReadOf, IsNeedRead, IsSaidRead, StopsAmongNeeds, StopsAmongSessions, StopsAtFault, StopsAtSession, StopsReading}
use Rattle.cpm_batch.proofs.ReadLemmas.{then_more}

-- a read of each of the needs in order, in which it was met
abbrev pub AreNeedsRead : List Need → List StoreAccess → Type 0
AreNeedsRead [] log = log ≡ []
AreNeedsRead (n ∷ ns) log = Then (IsNeedRead n) (AreNeedsRead ns) log

-- ---- of logs

stops_front : (ns ms : List Need) (e : ReadError) (log : List StoreAccess) → StopsAtFault ns e log → StopsAtFault (ns ++ ms) e log
stops_front [] ms e log h = absurd h
stops_front (n ∷ ns) ms e log h =
    ⊎_elim (λ f. inl f) (λ t. inr (record { first = t.first; rest = t.rest; order = t.order; begins = t.begins; goes_on = stops_front ns ms e t.rest t.goes_on })) h

stops_behind : (ns ms : List Need) (e : ReadError) (xs ys : List StoreAccess) → AreNeedsRead ns xs → StopsAtFault ms e ys → StopsAtFault (ns ++ ms) e (xs ++ ys)
stops_behind [] ms e xs ys h g = subst (λ (zs : List StoreAccess). StopsAtFault ms e (zs ++ ys)) (sym h) g
stops_behind (n ∷ ns) ms e xs ys h g = inr (then_more (IsNeedRead n) (AreNeedsRead ns) (StopsAtFault (ns ++ ms) e) xs ys h (stops_behind ns ms e h.rest ys h.goes_on g))

need_unwritten : (n : Need) (log : List StoreAccess) → IsNeedRead n log → AreNoWrites log
need_unwritten (ImageIn name) log h = subst AreNoWrites (sym h.1.calls) (tt, tt)
need_unwritten (ScriptIn name) log h = subst AreNoWrites (sym h.1.calls) (tt, tt)
need_unwritten (ForkedScriptIn name at before) log h = subst AreNoWrites (sym h.1.calls) (tt, tt)
need_unwritten (RecordingIn name at) log h = subst AreNoWrites (sym h.1.calls) (tt, tt)
need_unwritten (SavingIn name session names) log h = subst AreNoWrites (sym h.1.calls) (tt, tt)
need_unwritten (ForkOf session parent at names) log h = subst AreNoWrites (sym h.1) tt

needs_unwritten : (ns : List Need) (log : List StoreAccess) → AreNeedsRead ns log → AreNoWrites log
needs_unwritten [] log h = subst AreNoWrites (sym h) tt
needs_unwritten (n ∷ ns) log h = subst AreNoWrites (sym h.order) (no_writes_more h.first h.rest (need_unwritten n h.first h.begins) (needs_unwritten ns h.rest h.goes_on))

needs_read_append : (ns ms : List Need) (xs ys : List StoreAccess) → AreNeedsRead ns xs → AreNeedsRead ms ys → AreNeedsRead (ns ++ ms) (xs ++ ys)
needs_read_append [] ms xs ys h g = subst (λ (zs : List StoreAccess). AreNeedsRead ms (zs ++ ys)) (sym h) g
needs_read_append (n ∷ ns) ms xs ys h g = then_more (IsNeedRead n) (AreNeedsRead ns) (AreNeedsRead (ns ++ ms)) xs ys h (needs_read_append ns ms h.rest ys h.goes_on g)

-- ---- what was read meets the needs

one_need : (n : Need) (log : List StoreAccess) → IsNeedRead n log → AreNeedsRead (n ∷ []) log
one_need n log h = record { first = log; rest = []; order = sym (append-nil log); begins = h; goes_on = refl }

images_need : (names : List (String Global)) (ds : List Disk) (log : List StoreAccess) → AreImagesRead names ds log → AreNeedsRead (image_needs names) log
images_need [] [] log h = h
images_need [] (d ∷ ds) log h = absurd h
images_need (name ∷ names) [] log h = absurd h
images_need (name ∷ names) (d ∷ ds) log h = record { first = h.first; rest = h.rest; order = h.order; begins = (d, h.begins); goes_on = images_need names ds h.rest h.goes_on }

said_need : (keys : SourceOfKeys) (said : List CueText) (log : List StoreAccess) → IsSaidRead keys said log → AreNeedsRead (key_needs keys) log
said_need NoSource said log h = h.1
said_need (ScriptFile name) said log h = one_need (ScriptIn name) log (said, h)
said_need (RecordingFile name) said log h = one_need (RecordingIn name 0) log (said, h)

forked_said_need : (keys : SourceOfKeys) (at before : ℕ) (said : List CueText) (log : List StoreAccess) → IsForkedSaidRead keys at before said log → AreNeedsRead (forked_key_needs at before keys) log
forked_said_need NoSource at before said log h = h.1
forked_said_need (ScriptFile name) at before said log h = one_need (ForkedScriptIn name at before) log (said, h)
forked_said_need (RecordingFile name) at before said log h = one_need (RecordingIn name at) log (said, h)

-- ---- sessions, each behind those before it

input_unwritten : (replays : List Replay) (before : List SessionInput) (o : Origin) (i : SessionInput) (log : List StoreAccess) → IsInputReadOf replays before o i log → AreNoWrites log
input_unwritten replays before (origin.Opened cpu quota names) i log h =
    needs_unwritten (image_needs names.items ++ key_needs (key_source replays i.session)) log
    (subst (AreNeedsRead (image_needs names.items ++ key_needs (key_source replays i.session))) (sym h.calls.order)
    (needs_read_append (image_needs names.items) (key_needs (key_source replays i.session)) h.calls.first h.calls.rest (images_need names.items h.drives h.calls.first h.calls.begins)
    (said_need (key_source replays i.session) i.said h.calls.rest h.calls.goes_on)))
input_unwritten replays before (origin.Forked parent at) i log h =
    let own = own_count h.parent at in
    let keys = key_source replays i.session in
    needs_unwritten (forked_key_needs own (known_of replays own h.parent) keys) log (forked_said_need keys own (known_of replays own h.parent) i.said log h.calls)
input_unwritten replays before (origin.Restored saving) i log h =
    let keys = key_source replays i.session in
    let needs = saving_need i.session (string_bytes saving) ∷ key_needs keys in
    needs_unwritten needs log (record {
      first = h.calls.first;
      rest = h.calls.rest;
      order = h.calls.order;
      begins = (h.saving, h.calls.begins);
      goes_on = said_need keys i.said h.calls.rest h.calls.goes_on;
    })

inputs_unwritten : (replays : List Replay) (before is : List SessionInput) (log : List StoreAccess) → AreInputsRead replays before is log → AreNoWrites log
inputs_unwritten replays before [] log h = subst AreNoWrites (sym h) tt
inputs_unwritten replays before (i ∷ is) log h =
    subst AreNoWrites (sym h.order)
    (no_writes_more h.first h.rest (input_unwritten replays before i.session.origin i h.first h.begins) (inputs_unwritten replays (before ++ i ∷ []) is h.rest h.goes_on))

inputs_behind : (replays : List Replay) (before is : List SessionInput) (rest : List SessionConfig) (e : ReadError) (xs ys : List StoreAccess) → AreInputsRead replays before is xs → StopsAtSession replays (before ++ is) rest e ys
    → StopsAtSession replays before (map (λ i. i.session) is ++ rest) e (xs ++ ys)
inputs_behind replays before [] rest e xs ys h g =
    subst (λ (zs : List StoreAccess). StopsAtSession replays before rest e (zs ++ ys)) (sym h) (subst (λ (b : List SessionInput). StopsAtSession replays b rest e ys) (append-nil before) g)
inputs_behind replays before (i ∷ is) rest e xs ys h g =
    inr (
      i,
      refl,
      then_more (IsInputRead replays before i) (AreInputsRead replays (before ++ i ∷ []) is) (StopsAtSession replays (before ++ i ∷ []) (map (λ i. i.session) is ++ rest) e) xs ys h
          (inputs_behind replays (before ++ i ∷ []) is rest e h.rest ys h.goes_on (subst (λ (b : List SessionInput). StopsAtSession replays b rest e ys) (sym (append_assoc before (i ∷ []) is)) g)),
    )

-- a call that fails is a fault's read, where the error says so
missed_fault : (n : Need) (name : StoreName) (e : ReadError) → needed_name n ≡ Some name → IsMissed name e → IsFaultRead n e (Missed name ∷ [])
missed_fault n name (File shown) is h =
    subst (λ (o : Option StoreName). IsSomeAnd o (λ x. (shown.bytes ≡ shown_of (chars x)) × (Missed name ∷ [] ≡ Missed x ∷ []))) (sym is) (h, refl)
missed_fault n name _ is h = absurd h

module _ {S : Type 0} (does : S → StoreAccess → S → Type 0) where
  -- ---- one read that is refused

  pub stopped_missed : (n : Need) (name : StoreName) (e : ReadError) (s t : S) → needed_name n ≡ Some name → (e ≡ OutOfMemory) ⊎ IsMissed name e → does s (Missed name) t → LogLeadsBy does (StopsAmongNeeds (n ∷ []) e) s t
  stopped_missed n name e s t is h call = (
    Missed name ∷ [],
    ⊎_elim (λ m. inl (m, (tt, tt))) (λ f. inr (inl (missed_fault n name e is f))) h,
    ran_one does (Missed name) s t call,
  )

  pub stopped_at : (n : Need) (e : ReadError) (a : StoreAccess) (s t : S) → does s a t → IsFaultRead n e (a ∷ []) → LogLeadsBy does (StopsAmongNeeds (n ∷ []) e) s t
  stopped_at n e a s t call fault = (a ∷ [], inr (inl fault), ran_one does a s t call)

  -- memory was refused
  pub stopped_memory : (ns : List Need) (s t : S) → LogLeadsBy does AreNoWrites s t → LogLeadsBy does (StopsAmongNeeds ns OutOfMemory) s t
  stopped_memory ns s t h = (h.0, inl (refl, h.1), h.2)

  -- ---- among more needs

  pub stopped_front : (ns ms : List Need) (e : ReadError) (s t : S) → LogLeadsBy does (StopsAmongNeeds ns e) s t → LogLeadsBy does (StopsAmongNeeds (ns ++ ms) e) s t
  stopped_front ns ms e s t h = (h.0, ⊎_elim (λ m. inl m) (λ f. inr (stops_front ns ms e h.0 f)) h.1, h.2)

  stopped_behind : (ns ms : List Need) (e : ReadError) (s m t : S) → LogLeadsBy does (AreNeedsRead ns) s m → LogLeadsBy does (StopsAmongNeeds ms e) m t → LogLeadsBy does (StopsAmongNeeds (ns ++ ms) e) s t
  stopped_behind ns ms e s m t h g = (
    h.0 ++ g.0,
    ⊎_elim (λ no. inl (no.0, no_writes_more h.0 g.0 (needs_unwritten ns h.0 h.1) no.1)) (λ f. inr (stops_behind ns ms e h.0 g.0 h.1 f)) g.1,
    ran_more does h.0 g.0 s m t h.2 g.2,
  )

  -- behind the first, which was met
  pub behind_need : (n : Need) (ms : List Need) (e : ReadError) (s m t : S) → LogLeadsBy does (IsNeedRead n) s m → LogLeadsBy does (StopsAmongNeeds ms e) m t → LogLeadsBy does (StopsAmongNeeds (n ∷ ms) e) s t
  behind_need n ms e s m t h g = stopped_behind (n ∷ []) ms e s m t (h.0, one_need n h.0 h.1, h.2) g

  pub behind_images : (names : List (String Global)) (ds : List Disk) (ms : List Need) (e : ReadError) (s m t : S) → LogLeadsBy does (AreImagesRead names ds) s m → LogLeadsBy does (StopsAmongNeeds ms e) m t
      → LogLeadsBy does (StopsAmongNeeds (image_needs names ++ ms) e) s t
  behind_images names ds ms e s m t h g = stopped_behind (image_needs names) ms e s m t (h.0, images_need names ds h.0 h.1, h.2) g

  -- a fault at the name in turn is the first of all names
  pub name_stopped : (names : List (String Global)) (i : ℕ) (name : String Global) (ds : List Disk) (e : ReadError) (s m t : S) → i < length names → name ≡ get_or names i name
      → LogLeadsBy does (AreImagesRead (take i names) ds) s m → LogLeadsBy does (StopsAmongNeeds (ImageIn (string_bytes name) ∷ []) e) m t → LogLeadsBy does (StopsAmongNeeds (image_needs names) e) s t
  name_stopped names i name ds e s m t within is done h =
      let parts : names ≡ take i names ++ name ∷ drop (suc i) names = split_at names i name within ∙ ap (λ x. take i names ++ x ∷ drop (suc i) names) (sym is) in
      let needs : image_needs names ≡ image_needs (take i names) ++ image_needs (name ∷ drop (suc i) names) = ap image_needs parts ∙ map-append _ (take i names) (name ∷ drop (suc i) names) in
      subst (λ (ns : List Need). LogLeadsBy does (StopsAmongNeeds ns e) s t) (sym needs)
      (behind_images (take i names) ds (image_needs (name ∷ drop (suc i) names)) e s m t done
      (stopped_front (ImageIn (string_bytes name) ∷ []) (image_needs (drop (suc i) names)) e m t h))

  pub session_stopped : (replays : List Replay) (sessions : List SessionConfig) (i : ℕ) (x : SessionConfig) (is : List SessionInput) (e : ReadError) (s m t : S) → i < length sessions → x ≡ get_or sessions i x
      → map (λ y. y.session) is ≡ take i sessions → LogLeadsBy does (AreInputsRead replays [] is) s m → LogLeadsBy does (StopsAmongNeeds (needs_of replays is x) e) m t → LogLeadsBy does (StopsAmongSessions replays [] sessions e) s t
  session_stopped replays sessions i x is e s m t within at same done h =
      let parts : sessions ≡ take i sessions ++ x ∷ drop (suc i) sessions = split_at sessions i x within ∙ ap (λ y. take i sessions ++ y ∷ drop (suc i) sessions) (sym at) in
      let all : map (λ y. y.session) is ++ x ∷ drop (suc i) sessions ≡ sessions = ap (λ ss. ss ++ x ∷ drop (suc i) sessions) same ∙ sym parts in
      subst (λ (ss : List SessionConfig). LogLeadsBy does (StopsAmongSessions replays [] ss e) s t) all (
        done.0 ++ h.0,
        ⊎_elim (λ no. inl (no.0, no_writes_more done.0 h.0 (inputs_unwritten replays [] is done.0 done.1) no.1))
            (λ f. inr (inputs_behind replays [] is (x ∷ drop (suc i) sessions) e done.0 h.0 done.1 (inl f))) h.1,
        ran_more does done.0 h.0 s m t done.2 h.2,
      )

  -- memory was refused
  pub sessions_memory : (replays : List Replay) (sessions : List SessionConfig) (s t : S) → LogLeadsBy does AreNoWrites s t → LogLeadsBy does (StopsAmongSessions replays [] sessions OutOfMemory) s t
  sessions_memory replays sessions s t h = (h.0, inl (refl, h.1), h.2)

  -- ---- a configuration

  pub system_stopped : (replays : List Replay) (config : Config) (e : ReadError) (s t : S) → LogLeadsBy does (StopsAmongNeeds (ImageIn (string_bytes config.system) ∷ []) e) s t → LogLeadsBy does (StopsReading config replays e) s t
  system_stopped replays config e s t h = (h.0, ⊎_elim (λ m. inl m) (λ f. inr (⊎_elim (λ x. inl x) (λ m. absurd m.goes_on) f)) h.1, h.2)

  pub sessions_stopped : (replays : List Replay) (config : Config) (sessions : List SessionConfig) (d : Disk) (e : ReadError) (s m t : S) → sessions ≡ config.sessions.items
      → LogLeadsBy does (IsImageRead (string_bytes config.system) d) s m → LogLeadsBy does (StopsAmongSessions replays [] sessions e) m t → LogLeadsBy does (StopsReading config replays e) s t
  sessions_stopped replays config sessions d e s m t is system h =
      let g = subst (λ (ss : List SessionConfig). LogLeadsBy does (StopsAmongSessions replays [] ss e) m t) is h in (
        system.0 ++ g.0,
        ⊎_elim (λ no. inl (no.0, no_writes_more system.0 g.0 (need_unwritten (ImageIn (string_bytes config.system)) system.0 (d, system.1)) no.1))
            (λ f. inr (inr (record { first = system.0; rest = g.0; order = refl; begins = (d, system.1); goes_on = f }))) g.1,
        ran_more does system.0 g.0 s m t system.2 g.2,
      )

  -- ---- the same of other words for the needs
  pub stopped_as : (ns ms : List Need) (e : ReadError) (s t : S) → ms ≡ ns → LogLeadsBy does (StopsAmongNeeds ms e) s t → LogLeadsBy does (StopsAmongNeeds ns e) s t
  stopped_as ns ms e s t is h = subst (λ (xs : List Need). LogLeadsBy does (StopsAmongNeeds xs e) s t) is h

  pub image_stopped_as : (name text : StoreName) (e : ReadError) (s t : S) → text ≡ name → LogLeadsBy does (StopsAmongNeeds (ImageIn text ∷ []) e) s t → LogLeadsBy does (StopsAmongNeeds (ImageIn name ∷ []) e) s t
  image_stopped_as name text e s t is h = subst (λ (n : StoreName). LogLeadsBy does (StopsAmongNeeds (ImageIn n ∷ []) e) s t) is h

  pub said_stopped : (keys : SourceOfKeys) (code : KeySource) (name : Bor (List ℕ)) (e : ReadError) (s t : S) → source_view code ≡ keys → code ≡ source.Script name
      → LogLeadsBy does (StopsAmongNeeds (ScriptIn name.now ∷ []) e) s t → LogLeadsBy does (StopsAmongNeeds (key_needs keys) e) s t
  said_stopped keys code name e s t seen is h = subst (λ (k : SourceOfKeys). LogLeadsBy does (StopsAmongNeeds (key_needs k) e) s t) (sym (ap source_view is) ∙ seen) h

  pub recorded_stopped : (keys : SourceOfKeys) (code : KeySource) (name : Bor (List ℕ)) (e : ReadError) (s t : S) → source_view code ≡ keys → code ≡ source.Recording name
      → LogLeadsBy does (StopsAmongNeeds (RecordingIn name.now 0 ∷ []) e) s t → LogLeadsBy does (StopsAmongNeeds (key_needs keys) e) s t
  recorded_stopped keys code name e s t seen is h = subst (λ (k : SourceOfKeys). LogLeadsBy does (StopsAmongNeeds (key_needs k) e) s t) (sym (ap source_view is) ∙ seen) h

  pub forked_said_stopped : (keys : SourceOfKeys) (code : KeySource) (name : Bor (List ℕ)) (at before : ℕ) (e : ReadError) (s t : S) → source_view code ≡ keys → code ≡ source.Script name
      → LogLeadsBy does (StopsAmongNeeds (ForkedScriptIn name.now at before ∷ []) e) s t → LogLeadsBy does (StopsAmongNeeds (forked_key_needs at before keys) e) s t
  forked_said_stopped keys code name at before e s t seen is h =
      subst (λ (k : SourceOfKeys). LogLeadsBy does (StopsAmongNeeds (forked_key_needs at before k) e) s t) (sym (ap source_view is) ∙ seen) h

  pub forked_recorded_stopped : (keys : SourceOfKeys) (code : KeySource) (name : Bor (List ℕ)) (at before : ℕ) (e : ReadError) (s t : S) → source_view code ≡ keys → code ≡ source.Recording name
      → LogLeadsBy does (StopsAmongNeeds (RecordingIn name.now at ∷ []) e) s t → LogLeadsBy does (StopsAmongNeeds (forked_key_needs at before keys) e) s t
  forked_recorded_stopped keys code name at before e s t seen is h =
      subst (λ (k : SourceOfKeys). LogLeadsBy does (StopsAmongNeeds (forked_key_needs at before k) e) s t) (sym (ap source_view is) ∙ seen) h
