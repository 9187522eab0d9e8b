-- A session that goes on from where another one stands is the machine alone.
use Rattle.std.proofs.Common.{◌≡◌, ◌∙◌, ◌+◌, ◌<◌, ◌==◌, ◌++◌, nat_lt, ℕ, zero, suc, Bool, true, false, List, [], ◌∷◌, refl, sym, ap, ap₂, arith, append_assoc, add-zero, add-suc, if◌then◌else◌}
use Rattle.std.proofs.lemmas.Bool.Decides.{nat_tests}
use Rattle.cpm_geom.specs.Disk.{Disk}
use Rattle.cpm_machine.specs.Alone.{Press, alone, due, with_keys}
use Rattle.cpm_machine.specs.Calls.{state_behind}
use Rattle.cpm_machine.specs.MachineState.{MachineState}
use Rattle.cpm_machine.specs.Step.{is_running, step}
use Rattle.cpm_machine.proofs.AloneLaws.{step-behind}
use Rattle.cpm_machine.proofs.PressLaws.{alone-late}
use Rattle.cpm_play.specs.Live.{AreBy}
use Rattle.cpm_play.specs.Playing.{alone_by, presses_of, runs_at, state_left, without_list, without_text}
use Rattle.cpm_play.proofs.AloneLemmas.{presses-append}
use Rattle.cpm_play.proofs.GoingLemmas.{none-after}
use Rattle.cpm_run.specs.Laws.{later_keys}
use Rattle.cpm_script.specs.declared.script.Key.{Key}

-- ---- keys that are due

due-append : (count : ℕ) (xs ys : List Press) → due count (xs ++ ys) ≡ due count xs ++ due count ys
due-append count [] ys = refl
due-append count (x ∷ xs) ys = by_test (x.after == count) (due-append count xs ys)
  where
    by_test : (b : Bool) → due count (xs ++ ys) ≡ due count xs ++ due count ys
        → (if b then x.key ∷ due count (xs ++ ys) else due count (xs ++ ys)) ≡ (if b then x.key ∷ due count xs else due count xs) ++ due count ys
    by_test true h = ap (λ ks. x.key ∷ ks) h
    by_test false h = h

pub same-later : (n a i : ℕ) → (n + a == n + i) ≡ (a == i)
same-later n a i = by_test (a == i) refl
  where
    by_test : (b : Bool) → (a == i) ≡ b → (n + a == n + i) ≡ b
    by_test true e = grind (arith, nat_tests)
    by_test false e = grind (arith, nat_tests)

pub less-later : (n a i : ℕ) → nat_lt (n + a) (n + i) ≡ nat_lt a i
less-later n a i = by_test (nat_lt a i) refl
  where
    by_test : (b : Bool) → nat_lt a i ≡ b → nat_lt (n + a) (n + i) ≡ b
    by_test true e = grind (arith, nat_tests)
    by_test false e = grind (arith, nat_tests)

other-later : (n a i : ℕ) → i < n → (n + a == i) ≡ false
other-later n a i less = grind (arith, nat_tests)

-- keys that come so many steps later are due so much later, and none before
due-later : (n i : ℕ) (keys : List Key) → due (n + i) (presses_of (later_keys n keys)) ≡ due i (presses_of keys)
due-later n i [] = refl
due-later n i (k ∷ keys) = ap₂ (λ (b : Bool) (ks : List ℕ). if b then k.byte ∷ ks else ks) (same-later n k.count i) (due-later n i keys)

due-before : (n i : ℕ) (keys : List Key) → i < n → due i (presses_of (later_keys n keys)) ≡ []
due-before n i [] less = refl
due-before n i (k ∷ keys) less = ap₂ (λ (b : Bool) (ks : List ℕ). if b then k.byte ∷ ks else ks) (other-later n k.count i less) (due-before n i keys less)

-- keys of which the last come with the last step
with_keys-both : (xs ys : List ℕ) (s : MachineState) → with_keys (xs ++ ys) s ≡ with_keys ys (with_keys xs s)
with_keys-both xs ys s =
    ap (λ (all : List ℕ). record s { session = record s.session { console = record s.session.console { keys = all } } }) (sym (append_assoc s.session.console.keys xs ys))

alone-last : (system : Disk) (xs ys : List Press) (n : ℕ) (start : MachineState) → ((i : ℕ) → i < n → due i ys ≡ []) → alone system (xs ++ ys) n start ≡ with_keys (due n ys) (alone system xs n start)
alone-last system xs ys zero start none =
    ap (λ keys. with_keys keys start) (due-append 0 xs ys) ∙ with_keys-both (due 0 xs) (due 0 ys) start
alone-last system xs ys (suc n) start none =
    ap (λ keys. with_keys keys (step system (alone system (xs ++ ys) n start))) (due-append (suc n) xs ys)
    ∙ with_keys-both (due (suc n) xs) (due (suc n) ys) (step system (alone system (xs ++ ys) n start))
    ∙ ap (λ s. with_keys (due (suc n) ys) (with_keys (due (suc n) xs) (step system s))) (alone-late system xs ys n start (λ i below. none i (omega arith)))

-- ---- one machine

module _ (system : Disk) (early : List Key) (n : ℕ) (console list : List ℕ) (start saved : MachineState) (by : AreBy n early)
    (same : state_behind console list saved ≡ alone_by system early n start) where
  joined : List Key → List Key
  joined later = early ++ later_keys n later

  presses-joined : (later : List Key) → presses_of (early ++ later_keys n later) ≡ presses_of early ++ presses_of (later_keys n later)
  presses-joined later = presses-append early (later_keys n later)

  -- the keys that come with a step behind the saving
  due-joined : (later : List Key) (m : ℕ) → due (suc (n + m)) (presses_of (early ++ later_keys n later)) ≡ due (suc m) (presses_of later)
  due-joined later m =
      ap (due (suc (n + m))) (presses-joined later) ∙ due-append (suc (n + m)) (presses_of early) (presses_of (later_keys n later))
      ∙ ap (λ ks. ks ++ due (suc (n + m)) (presses_of (later_keys n later))) (none-after n (suc (n + m)) early by (omega arith))
      ∙ ap (λ i. due i (presses_of (later_keys n later))) (sym (add-suc n m)) ∙ due-later n (suc m) later

  -- what was taken, put back in front
  pub goes_on : (later : List Key) (m : ℕ) → state_behind console list (alone_by system later m saved) ≡ alone_by system (early ++ later_keys n later) (n + m) start
  goes_on later zero =
      ap (with_keys (due 0 (presses_of later))) same
      ∙ ap (λ keys. with_keys keys (alone_by system early n start)) (sym (due-later n 0 later) ∙ ap (λ i. due i (presses_of (later_keys n later))) (add-zero n))
      ∙ sym (alone-last system (presses_of early) (presses_of (later_keys n later)) n start (λ i less. due-before n i later less))
      ∙ ap (λ ps. alone system ps n start) (sym (presses-joined later))
      ∙ ap (λ k. alone_by system (early ++ later_keys n later) k start) (sym (add-zero n))
  goes_on later (suc m) =
      ap (with_keys (due (suc m) (presses_of later))) (sym (step-behind system console list (alone_by system later m saved)) ∙ ap (step system) (goes_on later m))
      ∙ ap (λ keys. with_keys keys (step system (alone_by system (early ++ later_keys n later) (n + m) start))) (sym (due-joined later m))
      ∙ ap (λ k. alone_by system (early ++ later_keys n later) k start) (sym (add-suc n m))

  pub left_on : (later : List Key) (m : ℕ) → state_left system (early ++ later_keys n later) (n + m) start ≡ state_left system later m saved
  left_on later m = ap (λ (s : MachineState). without_list (without_text s)) (sym (goes_on later m))

  pub runs_on : (later : List Key) (m : ℕ) → runs_at system start (early ++ later_keys n later) (n + m) ≡ runs_at system saved later m
  runs_on later m = ap (λ (s : MachineState). is_running s.ended) (sym (goes_on later m))
