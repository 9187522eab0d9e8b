-- Files that are taken out of a disk, one after the other.
use Rattle.std.proofs.Common.{◌≡◌, ◌∙◌, inl, inr, ℕ, Bool, List, [], ◌∷◌, ◌++◌, String, Global, append_assoc, append-nil, ap, arith, length, refl, string_bytes, subst, sym}
use Rattle.std.specs.Prelude.{Vec}
use Rattle.cpm_shown.specs.Shown.{shown_of}
use Rattle.cpm_geom.specs.Disk.{Disk}
use Rattle.cpm_image_files.specs.declared.name.FileName.{FileName}
use Rattle.cpm_host.specs.declared.error.HostError.{HostError}
use Rattle.cpm_store.specs.Files.{StoreName}
use Rattle.cpm_store.specs.Writes.{NamedBytes}
use Rattle.cpm_commands.specs.Get.{AreFilesTaken, IsFileTaken, IsFileUntaken, IsTakingStopped, shown_characters, taken_outputs}
use Rattle.cpm_commands.specs.declared.get.Destination.{Destination}

-- ---- what is taken

-- with what the rest gives, all are taken
abbrev pub TakenLeads : Disk → Destination → Bool → (all rest : List FileName) → List NamedBytes → Type 0
TakenLeads disk to is_text all rest taken = (ps : List NamedBytes) → AreFilesTaken disk to is_text rest ps → AreFilesTaken disk to is_text all (taken ++ ps)

-- and where the rest stops, all stop
abbrev pub TakingStops : StoreName → Disk → Destination → Bool → (all rest : List FileName) → Type 0
TakingStops image disk to is_text all rest = (e : HostError) → IsTakingStopped image disk to is_text rest e → IsTakingStopped image disk to is_text all e

pub taken_more : (disk : Disk) (to : Destination) (is_text : Bool) (all rest later : List FileName) (file : FileName) (taken more : List NamedBytes) (p : NamedBytes)
    → rest ≡ file ∷ later → more ≡ taken ++ p ∷ [] → IsFileTaken disk to is_text file p → TakenLeads disk to is_text all rest taken → TakenLeads disk to is_text all later more
taken_more disk to is_text all rest later file taken more p is pushed one leads = λ ps h.
    let whole : taken ++ p ∷ ps ≡ more ++ ps = sym (ap (λ (ts : List NamedBytes). ts ++ ps) pushed ∙ append_assoc taken (p ∷ []) ps) in
    subst (λ (ts : List NamedBytes). AreFilesTaken disk to is_text all ts) whole
    (leads (p ∷ ps) (subst (λ (fs : List FileName). AreFilesTaken disk to is_text fs (p ∷ ps)) (sym is) (one, h)))

pub taken_all : (disk : Disk) (to : Destination) (is_text : Bool) (all rest : List FileName) (taken : List NamedBytes) → rest ≡ [] → TakenLeads disk to is_text all rest taken
    → AreFilesTaken disk to is_text all taken
taken_all disk to is_text all rest taken none leads =
    subst (λ (ts : List NamedBytes). AreFilesTaken disk to is_text all ts) (append-nil taken)
    (leads [] (subst (λ (fs : List FileName). AreFilesTaken disk to is_text fs []) (sym none) tt))

pub taking_stops_more : (image : StoreName) (disk : Disk) (to : Destination) (is_text : Bool) (all rest later : List FileName) (file : FileName) (p : NamedBytes)
    → rest ≡ file ∷ later → IsFileTaken disk to is_text file p → TakingStops image disk to is_text all rest → TakingStops image disk to is_text all later
taking_stops_more image disk to is_text all rest later file p is one stops = λ e h.
    stops e (subst (λ (fs : List FileName). IsTakingStopped image disk to is_text fs e) (sym is) (inr (p, one, h)))

pub taking_stopped : (image : StoreName) (disk : Disk) (to : Destination) (is_text : Bool) (all rest later : List FileName) (file : FileName) (e : HostError)
    → rest ≡ file ∷ later → IsFileUntaken image disk to file e → TakingStops image disk to is_text all rest → IsTakingStopped image disk to is_text all e
taking_stopped image disk to is_text all rest later file e is h stops =
    stops e (subst (λ (fs : List FileName). IsTakingStopped image disk to is_text fs e) (sym is) (inl h))

-- one more path, and its bytes
pub taken_push : (paths : List (String Global)) (contents : List (Vec ℕ Global)) (path : String Global) (bytes : Vec ℕ Global) → length paths ≡ length contents
    → taken_outputs (paths ++ path ∷ []) (contents ++ bytes ∷ []) ≡ taken_outputs paths contents ++ (string_bytes path, bytes.items) ∷ []
taken_push [] [] path bytes even = refl
taken_push [] (b ∷ bs) path bytes even = absurd (omega (arith, even))
taken_push (p ∷ ps) [] path bytes even = absurd (omega (arith, even))
taken_push (p ∷ ps) (b ∷ bs) path bytes even = ap (λ (qs : List NamedBytes). (string_bytes p, b.items) ∷ qs) (taken_push ps bs path bytes (omega (arith, even)))

-- ---- what is printed

-- one more character of a path
pub path_more : (old new whole characters rest : List ℕ) (c : ℕ) → new ≡ old ++ shown_of (c ∷ []) → characters ≡ c ∷ rest → old ++ shown_characters characters ≡ whole
    → new ++ shown_characters rest ≡ whole
path_more old new whole characters rest c pushed is h =
    ap (λ (bytes : List ℕ). bytes ++ shown_characters rest) pushed ∙ append_assoc old (shown_of (c ∷ [])) (shown_characters rest)
    ∙ ap (λ (cs : List ℕ). old ++ shown_characters cs) (sym is) ∙ h

-- its end
pub path_end : (text new old rest characters end : List ℕ) → rest ≡ [] → text ++ shown_characters rest ≡ old ++ shown_characters characters → new ≡ text ++ end
    → new ≡ old ++ (shown_characters characters ++ end)
path_end text new old rest characters end none h pushed =
    let whole : text ≡ old ++ shown_characters characters = sym (append-nil text) ∙ ap (λ (cs : List ℕ). text ++ shown_characters cs) (sym none) ∙ h in
    pushed ∙ ap (λ (bytes : List ℕ). bytes ++ end) whole ∙ append_assoc old (shown_characters characters) end
