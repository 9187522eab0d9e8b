-- The first fault of sessions, each behind those before it.
use Rattle.std.proofs.Common.{◌≡◌, ◌<◌, ◌+◌, ℕ, List, [], ◌∷◌, ◌++◌, length, get_or, take, drop, map, Option, Some, None, refl, ap, ◌∙◌, sym}
use Rattle.std.proofs.lemmas.List.{drop_more, map_more}
use Rattle.cpm_config.specs.Entries.{SessionEntries}
use Rattle.cpm_config.specs.Rules.{fault_or, first_fault}
use Rattle.cpm_config.specs.declared.field.Field.{Field}
use Rattle.cpm_config.specs.declared.field.ConfigKey.{ConfigKey}

abbrev pub SessionCheck : Type 0
SessionCheck = List SessionEntries → SessionEntries → Option Field

-- no fault of a session, and none behind it
pub neither : (n : ℕ) (first : Option Field) (next : Option ConfigKey) → fault_or n first next ≡ None → (first ≡ None) × (next ≡ None)
neither n None next none = (refl, none)
neither n (Some f) next none = absurd (cc)

-- a session at a place either has a fault, or the sessions after it are looked at
pub fault_step : {X : Type 0} (view : X → SessionEntries) (fault : SessionCheck) (n : ℕ) (xs : List X) (i : ℕ) (x : X) → i < length xs → x ≡ get_or xs i x
    → first_fault fault n (map view (take i xs)) (map view (drop i xs))
    ≡ fault_or n (fault (map view (take i xs)) (view x)) (first_fault fault (n + 1) (map view (take (i + 1) xs)) (map view (drop (i + 1) xs)))
fault_step {X} view fault n xs i x within is =
    ap (λ (rest : List X). first_fault fault n (map view (take i xs)) (map view rest)) (drop_more xs i x within ∙ ap (λ (y : X). y ∷ drop (i + 1) xs) (sym is))
    ∙ ap (λ (before : List SessionEntries). fault_or n (fault (map view (take i xs)) (view x)) (first_fault fault (n + 1) before (map view (drop (i + 1) xs))))
    (sym (map_more view xs i x within ∙ ap (λ (y : X). map view (take i xs) ++ view y ∷ []) (sym is)))

-- where one kind of fault comes with another, sessions without the other have none of it
pub fewer_faults : (fault fewer : SessionCheck) → ((before : List SessionEntries) (s : SessionEntries) → fault before s ≡ None → fewer before s ≡ None)
    → (n : ℕ) (before ss : List SessionEntries) → first_fault fault n before ss ≡ None → first_fault fewer n before ss ≡ None
fewer_faults fault fewer comes n before [] none = refl
fewer_faults fault fewer comes n before (s ∷ ss) none =
    let apart = neither n (fault before s) _ none in
    ap (λ (o : Option Field). fault_or n o (first_fault fewer (n + 1) (before ++ s ∷ []) ss)) (comes before s apart.0)
    ∙ fewer_faults fault fewer comes (n + 1) (before ++ s ∷ []) ss apart.1

-- where there is no fault, neither a session at a place has one nor those after it
pub faultless_step : {X : Type 0} (view : X → SessionEntries) (fault : SessionCheck) (n : ℕ) (xs : List X) (i : ℕ) (x : X) → i < length xs → x ≡ get_or xs i x
    → first_fault fault n (map view (take i xs)) (map view (drop i xs)) ≡ None
    → (fault (map view (take i xs)) (view x) ≡ None) × (first_fault fault (n + 1) (map view (take (i + 1) xs)) (map view (drop (i + 1) xs)) ≡ None)
faultless_step view fault n xs i x within is none = neither n _ _ (sym (fault_step view fault n xs i x within is) ∙ none)
