-- What is read one after another, and what is told so.
use Rattle.std.proofs.Common.{◌≡◌, ◌∙◌, ◌<◌, ◌+◌, ℕ, suc, Bool, List, [], ◌∷◌, ◌++◌, ap, append_assoc, drop, get_or, inl, inr, length, map, refl, subst, sym, take}
use Rattle.std.proofs.Math.Seq.{split_at}
use Rattle.std.proofs.lemmas.List.{get_or-map, length-map, map-append, take_more}
use Rattle.cpm_commands.specs.Drives.{ArePlacesFound, ArePlacesUnfound, AreReadBy, AreRefusedBy, AreToldBy, IsPlaceFound, IsPlaceUnfound}
use Rattle.cpm_commands.specs.declared.drives.DrivePlace.{DrivePlace}
use Rattle.cpm_store.specs.Files.{StoreName}
use Rattle.cpm_host.specs.declared.error.HostError.{HostError}
use Rattle.cpm_host.specs.declared.error.HostError.TheVariants.{OutOfMemory}

-- ---- what is read

-- one more
pub read_push : {F A B : Type 0} (reads : A → F → F → B → Type 0) (xs : List A) (ys : List B) (x : A) (y : B) (a b c : F)
    → AreReadBy reads xs a b ys → reads x b c y → AreReadBy reads (xs ++ x ∷ []) a c (ys ++ y ∷ [])
read_push {F} {A} {B} reads [] [] x y a b c h r = (c, subst (λ (s : F). reads x s c y) h r, refl)
read_push {F} {A} {B} reads [] (z ∷ zs) x y a b c h r = absurd h
read_push {F} {A} {B} reads (w ∷ ws) [] x y a b c h r = absurd h
read_push {F} {A} {B} reads (w ∷ ws) (z ∷ zs) x y a b c h r = (h.0, h.1, read_push reads ws zs x y h.0 b c h.2 r)

module _ {F A B : Type 0} (reads : A → F → F → B → Type 0) (refuses : A → F → F → HostError → Type 0) (xs : List A) (i : ℕ) (x : A) (is : x ≡ get_or xs i x) where
  pub read_more : (ys all : List B) (y : B) (a b c : F) → i < length xs → all ≡ ys ++ y ∷ [] → AreReadBy reads (take i xs) a b ys → reads x b c y
      → AreReadBy reads (take (i + 1) xs) a c all
  read_more ys all y a b c within pushed h r =
      subst (λ (ws : List A). AreReadBy reads ws a c all) (sym (take_more xs i x within))
      (subst (λ (zs : List B). AreReadBy reads (take i xs ++ get_or xs i x ∷ []) a c zs) (sym pushed)
      (read_push reads (take i xs) ys (get_or xs i x) y a b c h (subst (λ (w : A). reads w b c y) is r)))

  -- the next one is refused, or there is no room for it
  pub read_stopped : (ys : List B) (a b c : F) (e : HostError) → i < length xs → AreReadBy reads (take i xs) a b ys → refuses x b c e
      → AreRefusedBy reads refuses xs a c e
  read_stopped ys a b c e within h r = record {
    before = take i xs;
    rest = get_or xs i x ∷ drop (suc i) xs;
    order = split_at xs i x within;
    given = ys;
    last = b;
    read = h;
    why = inr (subst (λ (w : A). refuses w b c e) is r);
  }

  pub read_full : (ys : List B) (y : B) (a b c : F) (e : HostError) → i < length xs → AreReadBy reads (take i xs) a b ys → reads x b c y
      → e ≡ OutOfMemory → AreRefusedBy reads refuses xs a c e
  read_full ys y a b c e within h r full = record {
    before = take i xs ++ get_or xs i x ∷ [];
    rest = drop (suc i) xs;
    order = split_at xs i x within ∙ sym (append_assoc (take i xs) (get_or xs i x ∷ []) (drop (suc i) xs));
    given = ys ++ y ∷ [];
    last = c;
    read = read_push reads (take i xs) ys (get_or xs i x) y a b c h (subst (λ (w : A). reads w b c y) is r);
    why = inl (full, refl);
  }

-- ---- what is told

-- what is told of the rest from here on is the end of what is told of all
abbrev pub ToldLeads : {M A : Type 0} → (A → M → M → Type 0) → (all rest : List A) → M → M → Type 0
ToldLeads {M} {A} told all rest start now = (last : M) → AreToldBy told rest now last → AreToldBy told all start last

pub told_more : {M A : Type 0} (told : A → M → M → Type 0) (all rest later : List A) (x : A) (start now next : M) → rest ≡ x ∷ later → told x now next
    → ToldLeads told all rest start now → ToldLeads told all later start next
told_more {M} {A} told all rest later x start now next is one leads = λ last h.
    leads last (subst (λ (xs : List A). AreToldBy told xs now last) (sym is) (next, one, h))

pub told_all : {M A : Type 0} (told : A → M → M → Type 0) (all rest : List A) (start now : M) → rest ≡ [] → ToldLeads told all rest start now → AreToldBy told all start now
told_all {M} {A} told all rest start now none leads = leads now (subst (λ (xs : List A). AreToldBy told xs now now) (sym none) refl)

-- ---- places that are found

module _ {F : Type 0} (tells_folder : F → StoreName → Bool → Type 0) (lists : F → StoreName → List StoreName → Type 0) (files : F) where
  pub found_push : (names : List StoreName) (ps : List DrivePlace) (name : StoreName) (p : DrivePlace) → ArePlacesFound tells_folder lists files names ps
      → IsPlaceFound tells_folder lists files name p → ArePlacesFound tells_folder lists files (names ++ name ∷ []) (ps ++ p ∷ [])
  found_push [] [] name p h one = (one, tt)
  found_push [] (q ∷ qs) name p h one = absurd h
  found_push (n ∷ ns) [] name p h one = absurd h
  found_push (n ∷ ns) (q ∷ qs) name p h one = (h.0, found_push ns qs name p h.1 one)

  pub found_more : {A : Type 0} (f : A → StoreName) (xs : List A) (i : ℕ) (x : A) (ps all : List DrivePlace) (p : DrivePlace) → i < length xs → all ≡ ps ++ p ∷ []
      → ArePlacesFound tells_folder lists files (map f (take i xs)) ps → IsPlaceFound tells_folder lists files (f (get_or xs i x)) p
      → ArePlacesFound tells_folder lists files (map f (take (i + 1) xs)) all
  found_more {A} f xs i x ps all p within pushed h one =
      let more : map f (take (i + 1) xs) ≡ map f (take i xs) ++ f (get_or xs i x) ∷ [] = ap (map f) (take_more xs i x within) ∙ map-append f (take i xs) (get_or xs i x ∷ []) in
      subst (λ (ns : List StoreName). ArePlacesFound tells_folder lists files ns all) (sym more)
      (subst (λ (qs : List DrivePlace). ArePlacesFound tells_folder lists files (map f (take i xs) ++ f (get_or xs i x) ∷ []) qs) (sym pushed)
      (found_push (map f (take i xs)) ps (f (get_or xs i x)) p h one))

  pub unfound : {A : Type 0} (unlists : F → StoreName → HostError → Type 0) (f : A → StoreName) (xs : List A) (i : ℕ) (x : A) (e : HostError) → i < length xs
      → IsPlaceUnfound tells_folder unlists files (f (get_or xs i x)) e → ArePlacesUnfound tells_folder unlists files (map f xs) e
  unfound {A} unlists f xs i x e within h =
      let y = f (get_or xs i x) in
      inr (y, (i, subst (λ n. i < n) (sym (length-map xs f)) within, get_or-map f xs i x y within), h)
