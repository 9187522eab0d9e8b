-- Keys pressed one after another.
use Rattle.std.proofs.Common.{◌≡◌, ◌∙◌, ap, refl, ℕ, ◌<◌, true, false, List, [], ◌∷◌, Option, Some, None, length, arith}
use Rattle.std.specs.Prelude.{is_some, option_map, unwrap_or, if◌then◌else◌, ◌==◌}
use Rattle.cpm_script.specs.KeyText.{first_key_of_text, keys_of}
use Rattle.cpm_script.proofs.KeyLemmas.{fronted, keys_of-first, keys_of-some, not_empty}
use Rattle.cpm_machine.specs.MachineState.{MachineState}
use Rattle.cpm_machine.specs.Serve.{keyed, takes_key}
use Rattle.cpm_debug.specs.Dialog.{keys_in_text, press, request_pressed}
use Rattle.cpm_debug.specs.Orders.{press_of}

-- the keys of a text that begins with a key
abbrev pub IsFront : ℕ → List ℕ → List ℕ → Type 0
IsFront key after text = keys_of text ≡ option_map (λ ks. key ∷ ks) (keys_of after)

pub front : (text : List ℕ) (key : ℕ) (after : List ℕ) → first_key_of_text text ≡ Some (key, after) → IsFront key after text
front [] key after first = absurd (let bad : ⊥ = cc in bad)
front (b ∷ bs) key after first = keys_of-first (b ∷ bs) (omega arith) ∙ ap fronted first

in_front : (key : ℕ) (text rest : Option (List ℕ)) → text ≡ option_map (λ ks. key ∷ ks) rest → is_some text ≡ true → is_some rest ≡ true
in_front key text None e some = absurd (let bad : ⊥ = cc in bad)
in_front key text (Some ks) e some = refl

pub rest_keys : (text : List ℕ) (key : ℕ) (after : List ℕ) → first_key_of_text text ≡ Some (key, after) → is_some (keys_of text) ≡ true → is_some (keys_of after) ≡ true
rest_keys text key after first some = in_front key (keys_of text) (keys_of after) (front text key after first) some

keys_front : (key : ℕ) (text rest : Option (List ℕ)) → text ≡ option_map (λ ks. key ∷ ks) rest → is_some text ≡ true → unwrap_or text [] ≡ key ∷ unwrap_or rest []
keys_front key text None e some = absurd (let bad : ⊥ = cc in bad)
keys_front key text (Some ks) e some = ap (λ o. unwrap_or o []) e

pub keys_in-front : (text : List ℕ) (key : ℕ) (after : List ℕ) → first_key_of_text text ≡ Some (key, after) → is_some (keys_of text) ≡ true → keys_in_text text ≡ key ∷ keys_in_text after
keys_in-front text key after first some = keys_front key (keys_of text) (keys_of after) (front text key after first) some

-- a key that is accepted, and one that is refused
pub press_accepted : (key : ℕ) (keys : List ℕ) (s : MachineState) → takes_key s ≡ true → press (key ∷ keys) s ≡ press keys (keyed key s)
press_accepted key keys s takes = ap (λ t. if t then press keys (keyed key s) else record { accepted = false; state = s }) takes

pub press_refused : (key : ℕ) (keys : List ℕ) (s : MachineState) → takes_key s ≡ false → press (key ∷ keys) s ≡ record { accepted = false; state = s }
press_refused key keys s full = ap (λ t. if t then press keys (keyed key s) else record { accepted = false; state = s }) full

-- where no key is first there is none
pub none_first : (text : List ℕ) → first_key_of_text text ≡ None → is_some (keys_of text) ≡ true → keys_in_text text ≡ []
none_first [] first some = refl
none_first (b ∷ bs) first some =
    let none : keys_of (b ∷ bs) ≡ None = keys_of-first (b ∷ bs) (omega arith) ∙ ap fronted first in
    absurd (let bad : ⊥ = cc in bad)

-- ---- what becomes of the keys of a text

pub pressed_none : (o : Option (List ℕ)) (s : MachineState) → false ≡ is_some o → request_pressed (press_of o) s ≡ record { accepted = false; state = s }
pressed_none None s e = refl
pressed_none (Some ks) s e = absurd (let bad : ⊥ = cc in bad)

pressed_keys : (o : Option (List ℕ)) (s : MachineState) → ((ks : List ℕ) → o ≡ Some ks → 0 < length ks) → true ≡ is_some o
    → request_pressed (press_of o) s ≡ press (unwrap_or o []) s
pressed_keys None s some e = absurd (let bad : ⊥ = cc in bad)
pressed_keys (Some []) s some e = absurd (omega (arith, some [] refl))
pressed_keys (Some (k ∷ ks)) s some e = refl

pub pressed_some : (text : List ℕ) (s : MachineState) → false ≡ (length text == 0) → true ≡ is_some (keys_of text) → request_pressed (press_of (keys_of text)) s ≡ press (keys_in_text text) s
pressed_some text s some e = pressed_keys (keys_of text) s (λ ks is. keys_of-some text ks (not_empty text some) is) e
