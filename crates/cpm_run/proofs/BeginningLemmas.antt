-- A hasher that is told one thing after another.
use Rattle.std.proofs.Common.{◌≡◌, ◌∙◌, ◌<◌, ◌+◌, ℕ, List, [], ◌∷◌, ap, drop, get_or, length, map, refl, subst, sym}
use Rattle.std.proofs.lemmas.List.{drop_more}
use Rattle.sha2.specs.Hashers.{Holds256}
use Rattle.sha2.specs.declared.Sha256.{Sha256}
use Rattle.cpm_run.specs.Beginning.{IsHasherTold, each_behind, number_behind}

-- it has been told all but these of what makes the whole of a message
abbrev pub ToldSome : {A : Type 0} → (behind : List ℕ → A → List ℕ) → (old now : Sha256) → (whole : List ℕ → List ℕ) → (rest : List A) → Type 0
ToldSome {A} behind old now whole rest =
    (message : List ℕ) → Holds256 old message → (said : List ℕ) × Holds256 now said × (each_behind behind said rest ≡ whole message)

pub told-counted : {A : Type 0} (behind : List ℕ → A → List ℕ) (old now : Sha256) (xs : List A) (n : ℕ) → n ≡ length xs → IsHasherTold old now (λ message. number_behind message n)
    → ToldSome behind old now (λ message. each_behind behind (number_behind message (length xs)) xs) xs
told-counted {A} behind old now xs n is told = λ message holds.
    (number_behind message (length xs), subst (λ (m : ℕ). Holds256 now (number_behind message m)) is (told message holds), refl)

pub told-more : {A : Type 0} (behind : List ℕ → A → List ℕ) (old now new : Sha256) (whole : List ℕ → List ℕ) (rest later : List A) (x : A) → rest ≡ x ∷ later
    → ToldSome behind old now whole rest → IsHasherTold now new (λ message. behind message x) → ToldSome behind old new whole later
told-more {A} behind old now new whole rest later x is so_far told = λ message holds.
    let before = so_far message holds in
    (behind before.0 x, told before.0 before.1, ap (λ (xs : List A). each_behind behind before.0 xs) (sym is) ∙ before.2)

pub told-all : {A : Type 0} (behind : List ℕ → A → List ℕ) (old now : Sha256) (whole : List ℕ → List ℕ) (rest : List A) → rest ≡ [] → ToldSome behind old now whole rest → IsHasherTold old now whole
told-all {A} behind old now whole rest is so_far = λ message holds.
    let before = so_far message holds in
    subst (λ (said : List ℕ). Holds256 now said) (ap (λ (xs : List A). each_behind behind before.0 xs) (sym is) ∙ before.2) before.1

pub rest-there : {A : Type 0} (xs : List A) (i : ℕ) (x : A) → i < length xs → x ≡ get_or xs i x → drop i xs ≡ x ∷ drop (i + 1) xs
rest-there {A} xs i x within at = drop_more xs i x within ∙ ap (λ (y : A). y ∷ drop (i + 1) xs) (sym at)
