-- Keys of the machine run alone.
use Rattle.std.proofs.Common.{◌≡◌, ℕ, zero, suc, ◌+◌, ◌<◌, ◌≤◌, Bool, true, false, ◌==◌, List, [], ◌∷◌, ◌++◌, refl, sym, ap, ◌∙◌, arith, if◌then◌else◌, add-zero}
use Rattle.std.proofs.lemmas.Bool.Decides.{nat_tests}
use Rattle.std.proofs.lemmas.List.{append_assoc, append-nil}
use Rattle.std.proofs.Math.Nat.{add-suc}
use Rattle.cpm_geom.specs.Disk.{Disk}
use Rattle.cpm_machine.specs.MachineState.{MachineState}
use Rattle.cpm_machine.specs.Step.{step, after}
use Rattle.cpm_machine.specs.Serve.{keyed}
use Rattle.cpm_machine.specs.Alone.{Press, due, with_keys, alone}

-- no keys
pub with_keys-nil : (s : MachineState) → with_keys [] s ≡ s
with_keys-nil s =
    ap (λ (keys : List ℕ). record s { session = record s.session { console = record s.session.console { keys = keys } } }) (append-nil s.session.console.keys)

-- one key more
with_keys-more : (keys : List ℕ) (key : ℕ) (s : MachineState) → with_keys (keys ++ key ∷ []) s ≡ keyed key (with_keys keys s)
with_keys-more keys key s =
    ap (λ (all : List ℕ). record s { session = record s.session { console = record s.session.console { keys = all } } }) (sym (append_assoc s.session.console.keys keys (key ∷ [])))

due_if-append : (b : Bool) (key : ℕ) (xs ys zs : List ℕ) → xs ≡ ys ++ zs → (if b then key ∷ xs else xs) ≡ (if b then key ∷ ys else ys) ++ zs
due_if-append true key xs ys zs h = ap (λ all. key ∷ all) h
due_if-append false key xs ys zs h = h

due-append : (count : ℕ) (xs ys : List Press) → due count (xs ++ ys) ≡ due count xs ++ due count ys
due-append count [] ys = refl
due-append count (x ∷ xs) ys =
    due_if-append (x.after == count) x.key (due count (xs ++ ys)) (due count xs) (due count ys) (due-append count xs ys)

-- a key is due after its number of steps alone
due_if-other : (after count key : ℕ) → (after ≡ count → ⊥) → due count (record { after = after; key = key } ∷ []) ≡ []
due_if-other after count key other = by_test (after == count) refl
  where
    by_test : (b : Bool) → (after == count) ≡ b → (if b then key ∷ [] else []) ≡ []
    by_test true e = absurd (other (grind (arith, nat_tests)))
    by_test false e = refl

due_if-same : (after key : ℕ) → due after (record { after = after; key = key } ∷ []) ≡ key ∷ []
due_if-same after key = by_test (after == after) refl
  where
    by_test : (b : Bool) → (after == after) ≡ b → (if b then key ∷ [] else []) ≡ key ∷ []
    by_test true e = refl
    by_test false e = absurd (grind (arith, nat_tests))

due-none : (count : ℕ) (xs ys : List Press) → due count ys ≡ [] → due count (xs ++ ys) ≡ due count xs
due-none count xs ys none =
    due-append count xs ys ∙ ap (λ zs. due count xs ++ zs) none ∙ append-nil (due count xs)

-- keys that come later make no difference
pub alone-late : (system : Disk) (presses later : List Press) (n : ℕ) (start : MachineState) → ((i : ℕ) → i ≤ n → due i later ≡ []) → alone system (presses ++ later) n start ≡ alone system presses n start
alone-late system presses later zero start none =
    ap (λ keys. with_keys keys start) (due-none 0 presses later (none 0 (omega arith)))
alone-late system presses later (suc n) start none =
    ap (λ keys. with_keys keys (step system (alone system (presses ++ later) n start))) (due-none (suc n) presses later (none (suc n) (omega arith)))
    ∙ ap (λ s. with_keys (due (suc n) presses) (step system s)) (alone-late system presses later n start (λ i below. none i (omega arith)))

-- after so many steps no key is to come
abbrev pub AllCame : List Press → ℕ → Type 0
AllCame presses n = (i : ℕ) → n < i → due i presses ≡ []

-- steps after which no key comes
pub alone-add : (system : Disk) (presses : List Press) (n k : ℕ) (start : MachineState) → AllCame presses n → alone system presses (n + k) start ≡ after system k (alone system presses n start)
alone-add system presses n zero start came = ap (λ m. alone system presses m start) (add-zero n)
alone-add system presses n (suc k) start came =
    ap (λ m. alone system presses m start) (add-suc n k)
    ∙ ap (λ keys. with_keys keys (step system (alone system presses (n + k) start))) (came (suc (n + k)) (omega arith))
    ∙ with_keys-nil (step system (alone system presses (n + k) start))
    ∙ ap (step system) (alone-add system presses n k start came)

-- a key that comes now
pub alone-pressed : (system : Disk) (presses : List Press) (n key : ℕ) (start : MachineState) → alone system (presses ++ record { after = n; key = key } ∷ []) n start ≡ keyed key (alone system presses n start)
alone-pressed system presses zero key start =
    ap (λ keys. with_keys keys start) (due-append 0 presses (record { after = 0; key = key } ∷ []) ∙ ap (λ ys. due 0 presses ++ ys) (due_if-same 0 key))
    ∙ with_keys-more (due 0 presses) key start
alone-pressed system presses (suc n) key start =
    let last : List Press = record { after = suc n; key = key } ∷ [] in
    ap (λ s. with_keys (due (suc n) (presses ++ last)) (step system s)) (alone-late system presses last n start (λ i below. due_if-other (suc n) i key (λ same. omega arith)))
    ∙ ap (λ keys. with_keys keys (step system (alone system presses n start))) (due-append (suc n) presses last ∙ ap (λ ys. due (suc n) presses ++ ys) (due_if-same (suc n) key))
    ∙ with_keys-more (due (suc n) presses) key (step system (alone system presses n start))

-- and none comes after it
pub AllCame-pressed : (presses : List Press) (n key : ℕ) → AllCame presses n → AllCame (presses ++ record { after = n; key = key } ∷ []) n
AllCame-pressed presses n key came i past =
    due-none i presses (record { after = n; key = key } ∷ []) (due_if-other n i key (λ same. omega arith)) ∙ came i past

pub AllCame-later : (presses : List Press) (n k : ℕ) → AllCame presses n → AllCame presses (n + k)
AllCame-later presses n k came i past = came i (omega arith)
