-- Reads one after another.
use Rattle.std.proofs.Common.{◌≡◌, ◌∙◌, ℕ, List, [], ◌∷◌, ◌++◌, String, append_assoc, append-nil, refl, ◌+◌, length, get_or, take, map, ◌<◌, ap, arith, sym, subst}
use Rattle.std.proofs.lemmas.List.{map-append, take_more}
use Rattle.std.specs.Prelude.{string_bytes}
use Rattle.std.specs.declared.alloc.Global.{Global}
use Rattle.cpm_geom.specs.Disk.{Disk}
use Rattle.cpm_store.specs.Files.{CountsFailure, StoreFiles, StoreName}
use Rattle.cpm_store.specs.Log.{StoreAccess, Gave, LogLeadsBy, Then}
use Rattle.cpm_store.proofs.LogLemmas.{ran_more, ran_one, unwritten_more}
use Rattle.cpm_script.specs.Cues.{CueText, cues}
use Rattle.cpm_script.specs.Fork.{forked_cues}
use Rattle.std.specs.Borrow.{Bor}
use Rattle.std.specs.Prelude.{Err, IfErr, IfOk, Ok, OnOk, Option, Result, Vec}
use Rattle.cpm_config.specs.declared.config.Origin.{Origin}
use Rattle.cpm_config.specs.declared.config.Origin.TheVariants as origin
use Rattle.cpm_config.specs.declared.config.SessionConfig.{SessionConfig}
use Rattle.cpm_flags.specs.declared.regs.Cpu.{Cpu}
use Rattle.cpm_batch.specs.declared.error.ReadError.{ReadError}
use Rattle.cpm_batch.specs.declared.error.ReadError.TheVariants.{OutOfMemory}
use Rattle.cpm_batch.specs.Held.{IsImage}
use Rattle.cpm_batch.specs.Inputs.{IsFileFault, SessionInput, given}
use Rattle.cpm_batch.specs.Reads.{AreImagesRead, AreInputsRead, IsForkedRead, IsForkedSaidRead, IsForkedScriptRead, IsImageRead, IsInputRead, IsInputReadOf, IsOpenedRead, IsRecordingRead, IsRestoredRead, IsSaidRead, IsScriptRead, OnlyRead}
use Rattle.cpm_batch.specs.declared.input.Input.{Input}
use Rattle.cpm_batch.specs.declared.source.KeySource.{KeySource}
use Rattle.cpm_batch.specs.declared.source.KeySource.TheVariants as source
use Rattle.cpm_batch.specs.declared.source.Replay.{Replay}
use Rattle.cpm_batch.specs.Sources.{IsRecordingOf, SourceOfKeys, source_view}

-- one read
pub image_read : {S : Type 0} (does : S → StoreAccess → S → Type 0) (name : StoreName) (bytes : List ℕ) (d : Disk) (s t : S) → does s (Gave name bytes) t → IsImage bytes d → LogLeadsBy does (IsImageRead name d) s t
image_read does name bytes d s t call image = (Gave name bytes ∷ [], record { bytes = bytes; image = image; calls = refl }, ran_one does (Gave name bytes) s t call)

pub script_read : {S : Type 0} (does : S → StoreAccess → S → Type 0) (name : StoreName) (text : List ℕ) (said : List CueText) (s t : S) → does s (Gave name text) t → cues text ≡ Ok said → LogLeadsBy does (IsScriptRead name said) s t
script_read does name text said s t call read = (Gave name text ∷ [], record { text = text; read = read; calls = refl }, ran_one does (Gave name text) s t call)

pub forked_script_read : {S : Type 0} (does : S → StoreAccess → S → Type 0) (name text : StoreName) (at before : ℕ) (said : List CueText) (s t : S) → does s (Gave name text) t → forked_cues at before text ≡ Ok said
    → LogLeadsBy does (IsForkedScriptRead name at before said) s t
forked_script_read does name text at before said s t call read =
    (Gave name text ∷ [], record { text = text; read = read; calls = refl }, ran_one does (Gave name text) s t call)

-- the same of the text of a name
pub image_read_as : {S : Type 0} (does : S → StoreAccess → S → Type 0) (name text : StoreName) (d : Disk) (s t : S) → text ≡ name → LogLeadsBy does (IsImageRead text d) s t → LogLeadsBy does (IsImageRead name d) s t
image_read_as does name text d s t is h = subst (λ (n : StoreName). LogLeadsBy does (IsImageRead n d) s t) is h

pub recording_read : {S : Type 0} (does : S → StoreAccess → S → Type 0) (name text : StoreName) (at : ℕ) (said : List CueText) (s t : S) → does s (Gave name text) t → IsRecordingOf at text said
    → LogLeadsBy does (IsRecordingRead name at said) s t
recording_read does name text at said s t call read = (Gave name text ∷ [], record { text = text; read = read; calls = refl }, ran_one does (Gave name text) s t call)

-- what a script says that is named, and what none does
pub script_named : {S : Type 0} (does : S → StoreAccess → S → Type 0) (keys : SourceOfKeys) (code : KeySource) (name : Bor (List ℕ)) (said : List CueText) (s t : S) → source_view code ≡ keys → code ≡ source.Script name
    → LogLeadsBy does (IsScriptRead name.now said) s t → LogLeadsBy does (IsSaidRead keys said) s t
script_named does keys code name said s t seen is h = subst (λ (k : SourceOfKeys). LogLeadsBy does (IsSaidRead k said) s t) (sym (ap source_view is) ∙ seen) h

pub recording_named : {S : Type 0} (does : S → StoreAccess → S → Type 0) (keys : SourceOfKeys) (code : KeySource) (name : Bor (List ℕ)) (said : List CueText) (s t : S) → source_view code ≡ keys → code ≡ source.Recording name
    → LogLeadsBy does (IsRecordingRead name.now 0 said) s t → LogLeadsBy does (IsSaidRead keys said) s t
recording_named does keys code name said s t seen is h = subst (λ (k : SourceOfKeys). LogLeadsBy does (IsSaidRead k said) s t) (sym (ap source_view is) ∙ seen) h

pub no_script : {S : Type 0} (does : S → StoreAccess → S → Type 0) (keys : SourceOfKeys) (code : KeySource) (said : List CueText) (s : S) → source_view code ≡ keys → code ≡ source.Nothing → said ≡ []
    → LogLeadsBy does (IsSaidRead keys said) s s
no_script does keys code said s seen is none = subst (λ (k : SourceOfKeys). LogLeadsBy does (IsSaidRead k said) s s) (sym (ap source_view is) ∙ seen) ([], (none, refl), refl)

pub forked_script_named : {S : Type 0} (does : S → StoreAccess → S → Type 0) (keys : SourceOfKeys) (code : KeySource) (name : Bor (List ℕ)) (at before : ℕ) (said : List CueText) (s t : S) → source_view code ≡ keys
    → code ≡ source.Script name → LogLeadsBy does (IsForkedScriptRead name.now at before said) s t → LogLeadsBy does (IsForkedSaidRead keys at before said) s t
forked_script_named does keys code name at before said s t seen is h =
    subst (λ (k : SourceOfKeys). LogLeadsBy does (IsForkedSaidRead k at before said) s t) (sym (ap source_view is) ∙ seen) h

pub forked_recording_named : {S : Type 0} (does : S → StoreAccess → S → Type 0) (keys : SourceOfKeys) (code : KeySource) (name : Bor (List ℕ)) (at before : ℕ) (said : List CueText) (s t : S) → source_view code ≡ keys
    → code ≡ source.Recording name → LogLeadsBy does (IsRecordingRead name.now at said) s t → LogLeadsBy does (IsForkedSaidRead keys at before said) s t
forked_recording_named does keys code name at before said s t seen is h =
    subst (λ (k : SourceOfKeys). LogLeadsBy does (IsForkedSaidRead k at before said) s t) (sym (ap source_view is) ∙ seen) h

pub no_forked_script : {S : Type 0} (does : S → StoreAccess → S → Type 0) (keys : SourceOfKeys) (code : KeySource) (at before : ℕ) (said : List CueText) (s : S) → source_view code ≡ keys → code ≡ source.Nothing → said ≡ []
    → LogLeadsBy does (IsForkedSaidRead keys at before said) s s
no_forked_script does keys code at before said s seen is none =
    subst (λ (k : SourceOfKeys). LogLeadsBy does (IsForkedSaidRead k at before said) s s) (sym (ap source_view is) ∙ seen) ([], (none, refl), refl)

-- the reads of a session that begins so
pub opened_read : {S : Type 0} (does : S → StoreAccess → S → Type 0) (replays : List Replay) (r : Result Input ReadError) (before : List SessionInput) (session : SessionConfig) (cpu : Cpu) (quota : ℕ) (drives : Vec (String Global) Global)
    (names : List (String Global)) (s t : S) → session.origin ≡ origin.Opened cpu quota drives → names ≡ drives.items → IfOk r (λ i. i.session.now ≡ session)
    → IfOk r (λ i. LogLeadsBy does (IsOpenedRead replays cpu quota names (given i)) s t) → IfOk r (λ i. LogLeadsBy does (IsInputRead replays before (given i)) s t)
opened_read does replays (Err e) before session cpu quota drives names s t is named same log = tt
opened_read does replays (Ok i) before session cpu quota drives names s t is named same log =
    subst (λ (o : Origin). LogLeadsBy does (IsInputReadOf replays before o (given i)) s t) (sym (ap (λ (x : SessionConfig). x.origin) same ∙ is))
    (subst (λ (ns : List (String Global)). LogLeadsBy does (IsOpenedRead replays cpu quota ns (given i)) s t) named log)

pub forked_read : {S : Type 0} (does : S → StoreAccess → S → Type 0) (replays : List Replay) (r : Result Input ReadError) (before : List SessionInput) (session : SessionConfig) (parent : String Global) (at : ℕ) (name : StoreName) (s t : S)
    → session.origin ≡ origin.Forked parent at → name ≡ string_bytes parent → IfOk r (λ i. i.session.now ≡ session) → IfOk r (λ i. LogLeadsBy does (IsForkedRead replays before name at (given i)) s t)
    → IfOk r (λ i. LogLeadsBy does (IsInputRead replays before (given i)) s t)
forked_read does replays (Err e) before session parent at name s t is named same log = tt
forked_read does replays (Ok i) before session parent at name s t is named same log =
    subst (λ (o : Origin). LogLeadsBy does (IsInputReadOf replays before o (given i)) s t) (sym (ap (λ (x : SessionConfig). x.origin) same ∙ is))
    (subst (λ (n : StoreName). LogLeadsBy does (IsForkedRead replays before n at (given i)) s t) named log)

pub restored_read : {S : Type 0} (does : S → StoreAccess → S → Type 0) (replays : List Replay) (r : Result Input ReadError) (before : List SessionInput) (session : SessionConfig) (saving : String Global) (name : StoreName) (s t : S)
    → session.origin ≡ origin.Restored saving → name ≡ string_bytes saving → IfOk r (λ i. i.session.now ≡ session) → IfOk r (λ i. LogLeadsBy does (IsRestoredRead replays name (given i)) s t)
    → IfOk r (λ i. LogLeadsBy does (IsInputRead replays before (given i)) s t)
restored_read does replays (Err e) before session saving name s t is named same log = tt
restored_read does replays (Ok i) before session saving name s t is named same log =
    subst (λ (o : Origin). LogLeadsBy does (IsInputReadOf replays before o (given i)) s t) (sym (ap (λ (x : SessionConfig). x.origin) same ∙ is))
    (subst (λ (n : StoreName). LogLeadsBy does (IsRestoredRead replays n (given i)) s t) named log)

-- the reads of a list, and one more
pub then_more : (Before After All : List StoreAccess → Type 0) (xs ys : List StoreAccess) (h : Then Before After xs) → All (h.rest ++ ys) → Then Before All (xs ++ ys)
then_more Before After All xs ys h more = record {
  first = h.first;
  rest = h.rest ++ ys;
  order = ap (λ (zs : List StoreAccess). zs ++ ys) h.order ∙ append_assoc h.first h.rest ys;
  begins = h.begins;
  goes_on = more;
}

then_last : (Before : List StoreAccess → Type 0) (xs ys : List StoreAccess) → xs ≡ [] → Before ys → Then Before (λ log. log ≡ []) (xs ++ ys)
then_last Before xs ys none one = record {
  first = ys;
  rest = [];
  order = ap (λ (zs : List StoreAccess). zs ++ ys) none ∙ sym (append-nil ys);
  begins = one;
  goes_on = refl;
}

images_push : (names : List (String Global)) (ds : List Disk) (name : String Global) (d : Disk) (xs ys : List StoreAccess) → AreImagesRead names ds xs → IsImageRead (string_bytes name) d ys
    → AreImagesRead (names ++ name ∷ []) (ds ++ d ∷ []) (xs ++ ys)
images_push [] [] name d xs ys h g = then_last (IsImageRead (string_bytes name) d) xs ys h g
images_push [] (x ∷ ds) name d xs ys h g = absurd h
images_push (n ∷ names) [] name d xs ys h g = absurd h
images_push (n ∷ names) (x ∷ ds) name d xs ys h g =
    then_more (IsImageRead (string_bytes n) x) (AreImagesRead names ds) (AreImagesRead (names ++ name ∷ []) (ds ++ d ∷ [])) xs ys h (images_push names ds name d h.rest ys h.goes_on g)

inputs_push : (replays : List Replay) (before is : List SessionInput) (x : SessionInput) (xs ys : List StoreAccess) → AreInputsRead replays before is xs → IsInputRead replays (before ++ is) x ys → AreInputsRead replays before (is ++ x ∷ []) (xs ++ ys)
inputs_push replays before [] x xs ys h g = then_last (IsInputRead replays before x) xs ys h (subst (λ (b : List SessionInput). IsInputRead replays b x ys) (append-nil before) g)
inputs_push replays before (i ∷ is) x xs ys h g =
    then_more (IsInputRead replays before i) (AreInputsRead replays (before ++ i ∷ []) is) (AreInputsRead replays (before ++ i ∷ []) (is ++ x ∷ [])) xs ys h
    (inputs_push replays (before ++ i ∷ []) is x h.rest ys h.goes_on (subst (λ (b : List SessionInput). IsInputRead replays b x ys) (sym (append_assoc before (i ∷ []) is)) g))

-- one more of a list that is gone through
pub images_more : {S : Type 0} (does : S → StoreAccess → S → Type 0) (names : List (String Global)) (i : ℕ) (name : String Global) (ds all : List Disk) (d : Disk) (s m t : S) → i < length names
    → name ≡ get_or names i name → all ≡ ds ++ d ∷ [] → LogLeadsBy does (AreImagesRead (take i names) ds) s m → LogLeadsBy does (IsImageRead (string_bytes name) d) m t
    → LogLeadsBy does (AreImagesRead (take (i + 1) names) all) s t
images_more does names i name ds all d s m t within is pushed h g =
    let more : take (i + 1) names ≡ take i names ++ name ∷ [] = take_more names i name within ∙ ap (λ x. take i names ++ x ∷ []) (sym is) in
    subst (λ (xs : List Disk). LogLeadsBy does (AreImagesRead (take (i + 1) names) xs) s t) (sym pushed)
    (subst (λ (ns : List (String Global)). LogLeadsBy does (AreImagesRead ns (ds ++ d ∷ [])) s t) (sym more)
    (h.0 ++ g.0, images_push (take i names) ds name d h.0 g.0 h.1 g.1, ran_more does h.0 g.0 s m t h.2 g.2))

pub sessions_read : {S : Type 0} (does : S → StoreAccess → S → Type 0) (replays : List Replay) (is all : List Input) (x : Input) (s m t : S) → all ≡ is ++ x ∷ [] → LogLeadsBy does (AreInputsRead replays [] (map given is)) s m
    → LogLeadsBy does (IsInputRead replays (map given is) (given x)) m t → LogLeadsBy does (AreInputsRead replays [] (map given all)) s t
sessions_read does replays is all x s m t pushed h g =
    subst (λ (ys : List SessionInput). LogLeadsBy does (AreInputsRead replays [] ys) s t) (sym (ap (map given) pushed ∙ map-append given is (x ∷ [])))
    (h.0 ++ g.0, inputs_push replays [] (map given is) (given x) h.0 g.0 h.1 g.1, ran_more does h.0 g.0 s m t h.2 g.2)

-- ---- a store that was only read

module _ {S : Type 0} {does : S → StoreAccess → S → Type 0} {files : S → Option StoreFiles} {failed : S → ℕ} where
  -- reading that went well, and more behind it
  pub only_read_then : {X Y : Type 0} {x : X} {r : Result Y ReadError} {s m t : S} → OnlyRead does files failed (Ok x) s m → OnlyRead does files failed r m t → OnlyRead does files failed r s t
  only_read_then {r = r} {s = s} {m = m} {t = t} h g = record {
    device = subst (λ (n : ℕ). IfErr r (λ e. IsFileFault e → CountsFailure n (failed t))) h.uncounted g.device;
    same = g.same ∙ h.same;
    unwritten = unwritten_more does s m t h.unwritten g.unwritten;
    uncounted = subst (λ (n : ℕ). OnOk r (failed t ≡ n)) h.uncounted g.uncounted;
    memory = subst (λ (n : ℕ). IfErr r (λ e. e ≡ OutOfMemory → failed t ≡ n)) h.uncounted g.memory;
    counted = omega (arith, h.counted, g.counted);
  }

  -- no read at all, with an error that is no file's
  pub only_read_none : {X : Type 0} {e : ReadError} {s : S} → (IsFileFault e → ⊥) → OnlyRead {X = X} does files failed (Err e) s s
  only_read_none other = record {
    device = λ f. absurd (other f);
    same = refl;
    unwritten = ([], tt, refl);
    uncounted = tt;
    memory = λ _. refl;
    counted = omega arith;
  }

  -- the same of a call above that answers the error of one below
  pub only_read_failed : {X Y : Type 0} {e : ReadError} {s t : S} → OnlyRead {X = X} does files failed (Err e) s t → OnlyRead {X = Y} does files failed (Err e) s t
  only_read_failed h = record { device = h.device; same = h.same; unwritten = h.unwritten; uncounted = tt; memory = h.memory; counted = h.counted }

  -- and of one that makes something else of what was read, or answers an error of its own, which is no file's
  pub only_read_as : {X Y : Type 0} {x : X} (r : Result Y ReadError) {s t : S} → IfErr r (λ e. IsFileFault e → ⊥) → OnlyRead does files failed (Ok x) s t → OnlyRead does files failed r s t
  only_read_as (Ok y) _ h = record { device = tt; same = h.same; unwritten = h.unwritten; uncounted = h.uncounted; memory = tt; counted = h.counted }
  only_read_as (Err e) other h = record {
    device = λ f. absurd (other f);
    same = h.same;
    unwritten = h.unwritten;
    uncounted = tt;
    memory = λ _. h.uncounted;
    counted = h.counted;
  }
