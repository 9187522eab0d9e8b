-- The first fault among needs.
use Rattle.std.proofs.Common.{◌≡◌, ◌∙◌, ⊎_elim, inl, inr, ℕ, List, [], ◌∷◌, ◌++◌, Option, String, append_assoc, append-nil, refl, ◌+◌, length, get_or, take, drop, suc, map, ◌<◌, ap, sym, subst}
use Rattle.std.proofs.Math.Seq.{split_at}
use Rattle.std.proofs.lemmas.List.{map-append, take_more}
use Rattle.std.specs.Prelude.{⊤, string_bytes}
use Rattle.std.specs.declared.alloc.Global.{Global}
use Rattle.cpm_config.specs.declared.config.Config.{Config}
use Rattle.cpm_config.specs.declared.config.Origin.TheVariants as origin
use Rattle.cpm_config.specs.declared.config.SessionConfig.{SessionConfig}
use Rattle.cpm_geom.specs.Disk.{Disk}
use Rattle.cpm_store.specs.Files.{StoreFiles, StoreName}
use Rattle.cpm_batch.specs.declared.error.ReadError.{ReadError}
use Rattle.cpm_batch.specs.declared.input.Input.{Input}
use Rattle.cpm_batch.specs.declared.source.Replay.{Replay}
use Rattle.cpm_batch.specs.Held.{IsImageIn}
use Rattle.cpm_batch.specs.Inputs.{AllImages, AllInputs, given, HasInput, ImageIn, IsFirstFault, IsMet, IsNeedRefusal, IsReadRefusal, IsSessionRefusal, AreFirstFault, Need, SessionInput, forked_needs, image_needs, needs_from, needs_of, restored_needs, session_named}

-- each of the needs is met
abbrev pub AllMet : Option StoreFiles → List Need → Type 0
AllMet files [] = ⊤
AllMet files (n ∷ ns) = IsMet files n × AllMet files ns

first_front : (files : Option StoreFiles) (ns ms : List Need) (e : ReadError) → IsFirstFault files ns e → IsFirstFault files (ns ++ ms) e
first_front files [] ms e h = absurd h
first_front files (n ∷ ns) ms e h = ⊎_elim (λ f. inl f) (λ m. inr (m.0, first_front files ns ms e m.1)) h

first_behind : (files : Option StoreFiles) (ns ms : List Need) (e : ReadError) → AllMet files ns → IsFirstFault files ms e → IsFirstFault files (ns ++ ms) e
first_behind files [] ms e met h = h
first_behind files (n ∷ ns) ms e met h = inr (met.0, first_behind files ns ms e met.1 h)

-- a fault of the first needs is one of more, and so is one behind needs that are met
pub refused_front : (files : Option StoreFiles) (ns ms : List Need) (e : ReadError) → IsNeedRefusal files ns e → IsNeedRefusal files (ns ++ ms) e
refused_front files ns ms e h = ⊎_elim (λ m. inl m) (λ f. inr (first_front files ns ms e f)) h

pub refused_behind : (files : Option StoreFiles) (ns ms : List Need) (e : ReadError) → AllMet files ns → IsNeedRefusal files ms e → IsNeedRefusal files (ns ++ ms) e
refused_behind files ns ms e met h = ⊎_elim (λ m. inl m) (λ f. inr (first_behind files ns ms e met f)) h

met_more : (files : Option StoreFiles) (ns ms : List Need) → AllMet files ns → AllMet files ms → AllMet files (ns ++ ms)
met_more files [] ms h g = g
met_more files (n ∷ ns) ms h g = (h.0, met_more files ns ms h.1 g)

-- ---- images

pub images_met : (files : Option StoreFiles) (names : List (String Global)) (ds : List Disk) → AllImages files names ds → AllMet files (image_needs names)
images_met files [] ds h = tt
images_met files (name ∷ names) [] h = absurd h
images_met files (name ∷ names) (d ∷ ds) h = ((d, h.0), images_met files names ds h.1)

images_push : (files : Option StoreFiles) (names : List (String Global)) (ds : List Disk) (name : String Global) (d : Disk) → AllImages files names ds → IsImageIn files (string_bytes name) d
    → AllImages files (names ++ name ∷ []) (ds ++ d ∷ [])
images_push files [] [] name d h g = (g, tt)
images_push files [] (x ∷ ds) name d h g = absurd h
images_push files (n ∷ names) [] name d h g = absurd h
images_push files (n ∷ names) (x ∷ ds) name d h g = (h.0, images_push files names ds name d h.1 g)

-- ---- one more of a list that is gone through

-- a fault at the name in turn is one of all names
pub name_refused : (files : Option StoreFiles) (names : List (String Global)) (i : ℕ) (name : String Global) (ds : List Disk) (e : ReadError) → i < length names → name ≡ get_or names i name
    → AllImages files (take i names) ds → IsNeedRefusal files (ImageIn (string_bytes name) ∷ []) e → IsNeedRefusal files (image_needs names) e
name_refused files names i name ds e within is done h =
    let parts : names ≡ take i names ++ name ∷ drop (suc i) names = split_at names i name within ∙ ap (λ x. take i names ++ x ∷ drop (suc i) names) (sym is) in
    let needs : image_needs names ≡ image_needs (take i names) ++ image_needs (name ∷ drop (suc i) names) = ap image_needs parts ∙ map-append _ (take i names) (name ∷ drop (suc i) names) in
    subst (λ (ns : List Need). IsNeedRefusal files ns e) (sym needs)
    (refused_behind files (image_needs (take i names)) (image_needs (name ∷ drop (suc i) names)) e (images_met files (take i names) ds done)
    (refused_front files (ImageIn (string_bytes name) ∷ []) (image_needs (drop (suc i) names)) e h))

pub name_read : (files : Option StoreFiles) (names : List (String Global)) (i : ℕ) (name : String Global) (ds all : List Disk) (d : Disk) → i < length names → name ≡ get_or names i name
    → all ≡ ds ++ d ∷ [] → AllImages files (take i names) ds → IsImageIn files (string_bytes name) d → AllImages files (take (i + 1) names) all
name_read files names i name ds all d within is pushed done h =
    let more : take (i + 1) names ≡ take i names ++ name ∷ [] = take_more names i name within ∙ ap (λ x. take i names ++ x ∷ []) (sym is) in
    subst (λ (xs : List Disk). AllImages files (take (i + 1) names) xs) (sym pushed)
    (subst (λ (ns : List (String Global)). AllImages files ns (ds ++ d ∷ [])) (sym more) (images_push files (take i names) ds name d done h))

-- ---- sessions, each behind those before it

-- what is refused behind sessions that were read is refused of all
fault_behind : (replays : List Replay) (files : Option StoreFiles) (before is : List SessionInput) (rest : List SessionConfig) (e : ReadError) → AllInputs files replays before is → AreFirstFault files replays (before ++ is) rest e
    → AreFirstFault files replays before (map (λ i. i.session) is ++ rest) e
fault_behind replays files before [] rest e h g = subst (λ (b : List SessionInput). AreFirstFault files replays b rest e) (append-nil before) g
fault_behind replays files before (i ∷ is) rest e h g =
    inr (i, refl, h.0, fault_behind replays files (before ++ i ∷ []) is rest e h.1 (subst (λ (b : List SessionInput). AreFirstFault files replays b rest e) (sym (append_assoc before (i ∷ []) is)) g))

-- the session in turn is refused
pub session_refused : (replays : List Replay) (files : Option StoreFiles) (sessions : List SessionConfig) (i : ℕ) (s : SessionConfig) (is : List SessionInput) (e : ReadError) → i < length sessions → s ≡ get_or sessions i s
    → map (λ x. x.session) is ≡ take i sessions → AllInputs files replays [] is → IsNeedRefusal files (needs_of replays is s) e → IsSessionRefusal files replays [] sessions e
session_refused replays files sessions i s is e within at same done h =
    let parts : sessions ≡ take i sessions ++ s ∷ drop (suc i) sessions = split_at sessions i s within ∙ ap (λ x. take i sessions ++ x ∷ drop (suc i) sessions) (sym at) in
    let all : map (λ x. x.session) is ++ s ∷ drop (suc i) sessions ≡ sessions = ap (λ ss. ss ++ s ∷ drop (suc i) sessions) same ∙ sym parts in
    subst (λ (ss : List SessionConfig). IsSessionRefusal files replays [] ss e) all
    (⊎_elim (λ m. inl m) (λ f. inr (fault_behind replays files [] is (s ∷ drop (suc i) sessions) e done (inl f))) h)

inputs_push : (replays : List Replay) (files : Option StoreFiles) (before is : List SessionInput) (x : SessionInput) → AllInputs files replays before is → HasInput files replays (before ++ is) x → AllInputs files replays before (is ++ x ∷ [])
inputs_push replays files before [] x h g = (subst (λ (b : List SessionInput). HasInput files replays b x) (append-nil before) g, tt)
inputs_push replays files before (i ∷ is) x h g =
    (h.0, inputs_push replays files (before ++ i ∷ []) is x h.1 (subst (λ (b : List SessionInput). HasInput files replays b x) (sym (append_assoc before (i ∷ []) is)) g))

pub inputs_more : (replays : List Replay) (files : Option StoreFiles) (is all : List Input) (x : Input) → all ≡ is ++ x ∷ [] → AllInputs files replays [] (map given is) → HasInput files replays (map given is) (given x)
    → AllInputs files replays [] (map given all)
inputs_more replays files is all x pushed h g =
    subst (λ (ys : List SessionInput). AllInputs files replays [] ys) (sym (ap (map given) pushed ∙ map-append given is (x ∷ []))) (inputs_push replays files [] (map given is) (given x) h g)

pub sessions_more : (is all : List Input) (x : Input) (sessions : List SessionConfig) (i : ℕ) (s : SessionConfig) → i < length sessions → s ≡ get_or sessions i s
    → all ≡ is ++ x ∷ [] → map (λ y. y.session) (map given is) ≡ take i sessions → x.session.now ≡ s → map (λ y. y.session) (map given all) ≡ take (i + 1) sessions
sessions_more is all x sessions i s within at pushed same one =
    ap (λ (ys : List Input). map (λ y. y.session) (map given ys)) pushed ∙ ap (map (λ y. y.session)) (map-append given is (x ∷ [])) ∙ map-append (λ y. y.session) (map given is) (given x ∷ [])
    ∙ ap (λ ss. ss ++ x.session.now ∷ []) same ∙ ap (λ y. take i sessions ++ y ∷ []) (one ∙ at) ∙ sym (take_more sessions i s within)

-- ---- the same of the store as it was, and of the text of a name

pub image_refusal_as : (files now : Option StoreFiles) (name text : StoreName) (e : ReadError) → now ≡ files → text ≡ name → IsNeedRefusal now (ImageIn text ∷ []) e → IsNeedRefusal files (ImageIn name ∷ []) e
image_refusal_as files now name text e same is h = subst (λ (f : Option StoreFiles). IsNeedRefusal f (ImageIn name ∷ []) e) same (subst (λ (t : StoreName). IsNeedRefusal now (ImageIn t ∷ []) e) is h)

pub image_as : (files now : Option StoreFiles) (name text : StoreName) (d : Disk) → now ≡ files → text ≡ name → IsImageIn now text d → IsImageIn files name d
image_as files now name text d same is h = subst (λ (f : Option StoreFiles). IsImageIn f name d) same (subst (λ (t : StoreName). IsImageIn now t d) is h)

pub refusal_as : (files now : Option StoreFiles) (ns ms : List Need) (e : ReadError) → now ≡ files → ms ≡ ns → IsNeedRefusal now ms e → IsNeedRefusal files ns e
refusal_as files now ns ms e same is h = subst (λ (f : Option StoreFiles). IsNeedRefusal f ns e) same (subst (λ (xs : List Need). IsNeedRefusal now xs e) is h)

pub inputs_as : (replays : List Replay) (files now : Option StoreFiles) (is : List SessionInput) → now ≡ files → AllInputs now replays [] is → AllInputs files replays [] is
inputs_as replays files now is same h = subst (λ (f : Option StoreFiles). AllInputs f replays [] is) same h

-- the needs of a forked session, and of one that goes on from a saving
pub forked_needs_are : (replays : List Replay) (before : List SessionInput) (session : SessionConfig) (parent : String Global) (at : ℕ) (name : StoreName) → session.origin ≡ origin.Forked parent at → name ≡ string_bytes parent
    → forked_needs replays session at (session_named before name) ≡ needs_of replays before session
forked_needs_are replays before session parent at name is named =
    ap (λ (n : StoreName). forked_needs replays session at (session_named before n)) named ∙ ap (needs_from replays before session) (sym is)

pub restored_needs_are : (replays : List Replay) (before : List SessionInput) (session : SessionConfig) (saving : String Global) (name : StoreName) → session.origin ≡ origin.Restored saving → name ≡ string_bytes saving
    → restored_needs replays session name ≡ needs_of replays before session
restored_needs_are replays before session saving name is named = ap (restored_needs replays session) named ∙ ap (needs_from replays before session) (sym is)

-- ---- a configuration

pub system_refused : (replays : List Replay) (files : Option StoreFiles) (config : Config) (e : ReadError) → IsNeedRefusal files (ImageIn (string_bytes config.system) ∷ []) e → IsReadRefusal files config replays e
system_refused replays files config e h = ⊎_elim (λ m. inl m) (λ f. inr (⊎_elim (λ x. inl x) (λ m. absurd m.1) f)) h

pub sessions_refused : (replays : List Replay) (files now : Option StoreFiles) (config : Config) (sessions : List SessionConfig) (d : Disk) (e : ReadError) → IsImageIn files (string_bytes config.system) d → now ≡ files
    → sessions ≡ config.sessions.items → IsSessionRefusal now replays [] sessions e → IsReadRefusal files config replays e
sessions_refused replays files now config sessions d e system same is h =
    let told = subst (λ (f : Option StoreFiles). IsSessionRefusal f replays [] config.sessions.items e) same (subst (λ (ss : List SessionConfig). IsSessionRefusal now replays [] ss e) is h) in
    ⊎_elim (λ m. inl m) (λ f. inr (inr ((d, system), f))) told
