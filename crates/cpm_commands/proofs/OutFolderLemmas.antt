-- Folders that get files of drives, one after the other.
use Rattle.std.proofs.Common.{◌≡◌, ◌⊎◌, inl, inr, ◌∙◌, ◌<◌, ◌+◌, ℕ, zero, suc, List, [], ◌∷◌, ◌++◌, Option, None, ap, append-nil, append_assoc, arith, drop, get_or, length, map, refl, slice_get, subst, sym}
use Rattle.std.proofs.lemmas.List.{at_drop_more, map-append}
use Rattle.cpm_disk_commands.specs.declared.damage.NamedFile.{NamedFile}
use Rattle.cpm_geom.specs.Disk.{Disk}
use Rattle.cpm_host.specs.declared.error.HostError.{HostError}
use Rattle.cpm_store.specs.Files.{StoreName}
use Rattle.cpm_store.specs.Writes.{NamedBytes}
use Rattle.cpm_commands.specs.OutFolder.{AreFoldersLeft, AreFoldersUnleft, HasAddedFolder, IsEven, IsFolderLeft, IsFolderUnleft, left_outputs, left_unwritten, folder_view, folder_starts_of}
use Rattle.cpm_commands.specs.declared.out_folder.FolderStart.{FolderStart}
use Rattle.cpm_commands.specs.declared.out_folder.LeftFiles.{LeftFiles}

-- ---- drives at the start

head_is : {A : Type 0} (xs : List A) (i : ℕ) → slice_get (drop i xs) 0 ≡ slice_get xs i
head_is [] zero = refl
head_is [] (suc i) = refl
head_is (x ∷ xs) zero = refl
head_is (x ∷ xs) (suc i) = head_is xs i

drop_one : {A : Type 0} (xs : List A) (i : ℕ) → drop 1 (drop i xs) ≡ drop (suc i) xs
drop_one [] zero = refl
drop_one [] (suc i) = refl
drop_one (x ∷ xs) zero = refl
drop_one (x ∷ xs) (suc i) = drop_one xs i

starts_next : {A : Type 0} (f : A → StoreName) (xs : List A) (i : ℕ) (d : A) (drives : List Disk) → i < length xs
    → folder_starts_of (map f (drop i xs)) (drop i drives) ≡ (f (get_or xs i d), slice_get drives i) ∷ folder_starts_of (map f (drop (i + 1) xs)) (drop (i + 1) drives)
starts_next {A} f xs i d drives within =
    let on : suc i ≡ i + 1 = omega arith in
    at_drop_more (λ (ys : List A). folder_starts_of (map f ys) (drop i drives)) xs i d within
    ∙ (λ j. (f (get_or xs i d), head_is drives i j) ∷ folder_starts_of (map f (drop (i + 1) xs)) ((drop_one drives i ∙ ap (λ n. drop n drives) on) j))

pub started_more : {A : Type 0} (f : A → StoreName) (xs : List A) (i : ℕ) (d : A) (drives : List Disk) (starts more : List FolderStart) (start : FolderStart)
    (all : List (StoreName × Option Disk)) → i < length xs → more ≡ starts ++ start ∷ [] → folder_view start ≡ (f (get_or xs i d), slice_get drives i)
    → map folder_view starts ++ folder_starts_of (map f (drop i xs)) (drop i drives) ≡ all
    → map folder_view more ++ folder_starts_of (map f (drop (i + 1) xs)) (drop (i + 1) drives) ≡ all
started_more {A} f xs i d drives starts more start all within pushed is before =
    let rest = folder_starts_of (map f (drop (i + 1) xs)) (drop (i + 1) drives) in
    ap (λ (ss : List FolderStart). map folder_view ss ++ rest) pushed ∙ ap (λ (ys : List (StoreName × Option Disk)). ys ++ rest) (map-append folder_view starts (start ∷ []))
    ∙ append_assoc (map folder_view starts) (folder_view start ∷ []) rest ∙ ap (λ (y : StoreName × Option Disk). map folder_view starts ++ y ∷ rest) is
    ∙ ap (λ (ys : List (StoreName × Option Disk)). map folder_view starts ++ ys) (sym (starts_next f xs i d drives within)) ∙ before

-- ---- what folders get

module _ {F : Type 0} (lists : F → StoreName → List StoreName → Type 0) (files : F) (all : List (StoreName × Option Disk)) (drives : List (Option Disk)) where
  -- with what the rest leads to, all lead to it
  abbrev pub FoldersLead : (rest : List (StoreName × Option Disk)) → (left : List (Option Disk)) → List NamedBytes → List (List ℕ × NamedFile) → Type 0
  FoldersLead rest left outputs unwritten = (os : List NamedBytes) (us : List (List ℕ × NamedFile)) → AreFoldersLeft lists files rest left os us
      → AreFoldersLeft lists files all drives (outputs ++ os) (unwritten ++ us)

  pub folders_more : (rest later : List (StoreName × Option Disk)) (left after : List (Option Disk)) (start : StoreName × Option Disk) (drive : Option Disk)
      (old new : LeftFiles) → (rest ≡ start ∷ later) × (left ≡ drive ∷ after) → HasAddedFolder lists files start drive old new
      → FoldersLead rest left (left_outputs old) (left_unwritten old) → FoldersLead later after (left_outputs new) (left_unwritten new)
  folders_more rest later left after start drive old new next added leads = λ os us h.
      let here : AreFoldersLeft lists files (start ∷ later) (drive ∷ after) (added.outputs ++ os) (added.unwritten ++ us) = record {
        first = added.outputs;
        others = os;
        told_first = added.unwritten;
        told_others = us;
        folder = added.folder;
        rest = h;
        outputs_are = refl;
        unwritten_are = refl;
      } in
      let there = leads (added.outputs ++ os) (added.unwritten ++ us)
      (subst (λ (xs : List (StoreName × Option Disk)). AreFoldersLeft lists files xs left (added.outputs ++ os) (added.unwritten ++ us)) (sym next.0)
      (subst (λ (ds : List (Option Disk)). AreFoldersLeft lists files (start ∷ later) ds (added.outputs ++ os) (added.unwritten ++ us)) (sym next.1) here)) in
      let outputs : left_outputs old ++ (added.outputs ++ os) ≡ left_outputs new ++ os =
      sym (append_assoc (left_outputs old) added.outputs os) ∙ ap (λ (ys : List NamedBytes). ys ++ os) (sym added.added.outputs_are) in
      let unwritten : left_unwritten old ++ (added.unwritten ++ us) ≡ left_unwritten new ++ us =
      sym (append_assoc (left_unwritten old) added.unwritten us) ∙ ap (λ (ys : List (List ℕ × NamedFile)). ys ++ us) (sym added.added.unwritten_are) in
      subst (λ (ys : List NamedBytes). AreFoldersLeft lists files all drives ys (left_unwritten new ++ us)) outputs
      (subst (λ (ys : List (List ℕ × NamedFile)). AreFoldersLeft lists files all drives (left_outputs old ++ (added.outputs ++ os)) ys) unwritten there)

  none_left : (rest : List (StoreName × Option Disk)) → AreFoldersLeft lists files rest [] [] []
  none_left [] = (refl, refl)
  none_left (start ∷ rest) = (refl, refl)

  pub folders_all : (rest : List (StoreName × Option Disk)) (left : List (Option Disk)) (outputs : List NamedBytes) (unwritten : List (List ℕ × NamedFile))
      → (rest ≡ []) ⊎ (left ≡ []) → FoldersLead rest left outputs unwritten → AreFoldersLeft lists files all drives outputs unwritten
  folders_all rest left outputs unwritten ended leads =
      let last : AreFoldersLeft lists files rest left [] [] = elim ended [
        | inl none ↦ subst (λ (xs : List (StoreName × Option Disk)). AreFoldersLeft lists files xs left [] []) (sym none) (refl, refl)
        | inr none ↦ subst (λ (ds : List (Option Disk)). AreFoldersLeft lists files rest ds [] []) (sym none) (none_left rest)
      ] in
      subst (λ (ys : List NamedBytes). AreFoldersLeft lists files all drives ys unwritten) (append-nil outputs)
      (subst (λ (ys : List (List ℕ × NamedFile)). AreFoldersLeft lists files all drives (outputs ++ []) ys) (append-nil unwritten) (leads [] [] last))

-- where no drive was left nothing is added
pub nothing_added : {F : Type 0} (lists : F → StoreName → List StoreName → Type 0) (files : F) (start : StoreName × Option Disk) (drive : Option Disk) (left : LeftFiles)
    → drive ≡ None → IsEven left → HasAddedFolder lists files start drive left left
nothing_added {F} lists files start drive left none even = record {
  outputs = [];
  unwritten = [];
  folder = subst (λ (d : Option Disk). IsFolderLeft lists files start d [] []) (sym none) (refl, refl);
  added = record {
    outputs_are = sym (append-nil (left_outputs left));
    unwritten_are = sym (append-nil (left_unwritten left));
    even = even;
  };
}

module _ {F : Type 0} (unlists : F → StoreName → HostError → Type 0) (files : F) (all : List (StoreName × Option Disk)) (drives : List (Option Disk)) where
  -- and where the rest stops, all stop
  abbrev pub FoldersStop : (rest : List (StoreName × Option Disk)) → (left : List (Option Disk)) → Type 0
  FoldersStop rest left = (e : HostError) → AreFoldersUnleft unlists files rest left e → AreFoldersUnleft unlists files all drives e

  turned : (rest later : List (StoreName × Option Disk)) (left after : List (Option Disk)) (start : StoreName × Option Disk) (drive : Option Disk) (e : HostError)
      → (rest ≡ start ∷ later) × (left ≡ drive ∷ after) → AreFoldersUnleft unlists files (start ∷ later) (drive ∷ after) e → AreFoldersUnleft unlists files rest left e
  turned rest later left after start drive e next h =
      subst (λ (xs : List (StoreName × Option Disk)). AreFoldersUnleft unlists files xs left e) (sym next.0)
      (subst (λ (ds : List (Option Disk)). AreFoldersUnleft unlists files (start ∷ later) ds e) (sym next.1) h)

  pub stops_more : (rest later : List (StoreName × Option Disk)) (left after : List (Option Disk)) (start : StoreName × Option Disk) (drive : Option Disk)
      → (rest ≡ start ∷ later) × (left ≡ drive ∷ after) → FoldersStop rest left → FoldersStop later after
  stops_more rest later left after start drive next stops = λ e h. stops e (turned rest later left after start drive e next (inr h))

  pub stopped : (rest later : List (StoreName × Option Disk)) (left after : List (Option Disk)) (start : StoreName × Option Disk) (drive : Option Disk) (e : HostError)
      → (rest ≡ start ∷ later) × (left ≡ drive ∷ after) → IsFolderUnleft unlists files start drive e → FoldersStop rest left → AreFoldersUnleft unlists files all drives e
  stopped rest later left after start drive e next h stops = stops e (turned rest later left after start drive e next (inl h))
