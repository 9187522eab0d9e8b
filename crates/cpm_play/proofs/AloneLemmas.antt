-- The machine run alone for keys of which the last are not pressed, or after it has ended.
use Rattle.std.proofs.Common.{◌≡◌, ℕ, zero, suc, ◌+◌, ◌<◌, ◌≤◌, ◌==◌, Bool, true, false, List, [], ◌∷◌, ◌++◌, length, refl, ap, ◌∙◌, arith, add-zero, add-suc, if◌then◌else◌}
use Rattle.std.proofs.lemmas.Bool.Decides.{nat_tests}
use Rattle.cpm_geom.specs.Disk.{Disk}
use Rattle.cpm_script.specs.declared.script.Key.{Key}
use Rattle.cpm_machine.specs.Alone.{Press, due, alone}
use Rattle.cpm_machine.specs.MachineState.{MachineState}
use Rattle.cpm_machine.specs.Step.{after, step, step_if, is_running}
use Rattle.cpm_machine.proofs.KeyLaws.{keys_leave-step}
use Rattle.cpm_machine.proofs.PressLaws.{alone-late}
use Rattle.cpm_play.specs.Playing.{presses_of, IsInOrder}

-- ---- keys and presses

pub presses-more : (xs : List Key) (k : Key) → presses_of (xs ++ k ∷ []) ≡ presses_of xs ++ record { after = k.count; key = k.byte } ∷ []
presses-more [] k = refl
presses-more (x ∷ xs) k = ap (λ (ps : List Press). record { after = x.count; key = x.byte } ∷ ps) (presses-more xs k)

pub presses-append : (xs ys : List Key) → presses_of (xs ++ ys) ≡ presses_of xs ++ presses_of ys
presses-append [] ys = refl
presses-append (x ∷ xs) ys = ap (λ (ps : List Press). record { after = x.count; key = x.byte } ∷ ps) (presses-append xs ys)

-- keys in order from some count on come no sooner
pub none-due : (n i : ℕ) (keys : List Key) → IsInOrder n keys → i < n → due i (presses_of keys) ≡ []
none-due n i [] order below = refl
none-due n i (k ∷ keys) order below =
    let first : n ≤ k.count = order.0 in
    let rest : due i (presses_of keys) ≡ [] = none-due k.count i keys order.1 (omega arith) in
    by_test (k.count == i) refl (λ same. omega arith) rest
  where
    by_test : (b : Bool) → (k.count == i) ≡ b → (k.count ≡ i → ⊥) → due i (presses_of keys) ≡ [] → (if b then k.byte ∷ due i (presses_of keys) else due i (presses_of keys)) ≡ []
    by_test true e other rest = absurd (other (grind (arith, nat_tests)))
    by_test false e other rest = rest

-- ---- all but the pending keys

abbrev pub keyless : MachineState → MachineState
keyless s = record s { session = record s.session { console = record s.session.console { keys = [] } } }

-- keys that come with the last step or later are pending at most
pub alone-taken : (system : Disk) (pressed later : List Press) (n : ℕ) (start : MachineState) → ((i : ℕ) → i < n → due i later ≡ []) → keyless (alone system (pressed ++ later) n start) ≡ keyless (alone system pressed n start)
alone-taken system pressed later zero start none = refl
alone-taken system pressed later (suc n) start none =
    ap (λ s. keyless (step system s)) (alone-late system pressed later n start (λ i below. none i (omega arith)))

pub step-stays : (system : Disk) (s : MachineState) → is_running s.ended ≡ false → step system s ≡ s
unfolding step
step-stays system s ended = ap (λ b. step_if system b s) ended

pub keyless-ended : (s t : MachineState) → keyless s ≡ keyless t → is_running t.ended ≡ false → is_running s.ended ≡ false
keyless-ended s t same ended = ap (λ (u : MachineState). is_running u.ended) same ∙ ended

keyless-last : (system : Disk) (presses : List Press) (m : ℕ) (start : MachineState) → keyless (alone system presses (suc m) start) ≡ keyless (step system (alone system presses m start))
keyless-last system presses m start = refl

-- after its end only keys are added
pub alone-ended : (system : Disk) (presses : List Press) (n k : ℕ) (start : MachineState) → is_running (alone system presses n start).ended ≡ false → keyless (alone system presses (n + k) start) ≡ keyless (alone system presses n start)
alone-ended system presses n zero start ended = ap (λ m. keyless (alone system presses m start)) (add-zero n)
alone-ended system presses n (suc k) start ended =
    let before : keyless (alone system presses (n + k) start) ≡ keyless (alone system presses n start) = alone-ended system presses n k start ended in
    let stopped : is_running (alone system presses (n + k) start).ended ≡ false = keyless-ended (alone system presses (n + k) start) (alone system presses n start) before ended in
    ap (λ m. keyless (alone system presses m start)) (add-suc n k) ∙ keyless-last system presses (n + k) start ∙ ap keyless (step-stays system (alone system presses (n + k) start) stopped) ∙ before

-- ---- steps alone

pub after-pending : (system : Disk) (n : ℕ) (s : MachineState) → length (after system n s).session.console.keys ≤ length s.session.console.keys
after-pending system zero s = omega arith
after-pending system (suc n) s =
    let before = after-pending system n s in let last = keys_leave-step system (after system n s) in omega arith

pub after-ended : (system : Disk) (n : ℕ) (s : MachineState) → is_running s.ended ≡ false → is_running (after system n s).ended ≡ false
after-ended system zero s ended = ended
after-ended system (suc n) s ended =
    ap (λ (t : MachineState). is_running t.ended) (step-stays system (after system n s) (after-ended system n s ended)) ∙ after-ended system n s ended
