-- Grants that stop before an address.
use Rattle.std.proofs.Common.{◌≡◌, ℕ, ◌+◌, ◌-◌, ◌<◌, ◌≤◌, Bool, true, false, ◌||◌, ◌==◌, refl, ap, sym, ◌∙◌, arith, subst, ⊎_elim}
use Rattle.std.proofs.lemmas.Bool.{cases_lt}
use Rattle.cpm_geom.specs.Disk.{Disk}
use Rattle.cpm_machine.specs.MachineState.{MachineState}
use Rattle.cpm_machine.specs.Step.{after, can_step}
use Rattle.cpm_machine.specs.Serve.{longest}
use Rattle.cpm_machine.specs.Laws.{IsLongest}
use Rattle.cpm_machine.specs.Runner.{IsRun}
use Rattle.cpm_machine.specs.Until.{begins_at, can_go_on, executed_until}
use Rattle.cpm_machine.proofs.GrantLaws.{longest-is, longest-unique, after-add}
use Rattle.cpm_machine.proofs.StepLaws.{IsRun-on}

-- k steps lead from the one state to the other, each of which may be made by such a grant
pub record IsRunUntil (system : Disk) (pc k : ℕ) (start now : MachineState) : Type 0 where
  pub run : IsRun system k start now
  pub each : (i : ℕ) → i < k → can_go_on pc i (after system i start) ≡ true

or-true : (b : Bool) → (b || true) ≡ true
or-true true = refl
or-true false = refl

goes-apart : (pc k : ℕ) (s : MachineState) → can_step s ≡ true → begins_at pc s.session ≡ false → can_go_on pc k s ≡ true
goes-apart pc k s can apart = rw (can, apart) (or-true (k == 0))

-- a run more, of which no step but the first begins at the address
pub IsRunUntil-on : (system : Disk) (pc k l : ℕ) (start now next : MachineState) → IsRunUntil system pc k start now → can_go_on pc k now ≡ true → IsRun system l now next → ((i : ℕ) → 0 < i → i < l → begins_at pc (after system i now).session ≡ false) → IsRunUntil system pc (k + l) start next
IsRunUntil-on system pc k l start now next h goes more apart = record {
  run = IsRun-on system k l start now next h.run more;
  each = λ i below. ⊎_elim (λ lt. h.each i lt)
      (λ ge.
      ⊎_elim (λ (first : i < k + 1).
      let at : k ≡ i = omega arith in
      let here : can_go_on pc k (after system k start) ≡ true = ap (can_go_on pc k) (sym h.run.now_is) ∙ goes in
      subst (λ j. can_go_on pc j (after system j start) ≡ true) at here)
      (λ later.
      let at : k + (i - k) ≡ i = omega arith in
      let is : after system (i - k) now ≡ after system (k + (i - k)) start = ap (after system (i - k)) h.run.now_is ∙ sym (after-add system k (i - k) start) in
      let here : can_go_on pc (k + (i - k)) (after system (i - k) now) ≡ true = goes-apart pc (k + (i - k)) (after system (i - k) now) (more.each (i - k) (omega arith)) (apart (i - k) (omega arith) (omega arith)) in
      subst (λ j. can_go_on pc j (after system j start) ≡ true) at (subst (λ (t : MachineState). can_go_on pc (k + (i - k)) t ≡ true) is here))
      (cases_lt i (k + 1)))
      (cases_lt i k);
}

-- a run that doesn't go on is what such a grant executes
pub IsRunUntil-executed : (system : Disk) (pc n k : ℕ) (start now : MachineState) → IsRunUntil system pc k start now → k ≤ n → (k < n → can_go_on pc k now ≡ false) → k ≡ executed_until system pc n start
unfolding executed_until
IsRunUntil-executed system pc n k start now h within last =
    let test : ℕ → Bool = λ i. can_go_on pc i (after system i start) in
    let is : IsLongest test n k = record { within = within; each = h.each; greatest = λ below. ap (can_go_on pc k) (sym h.run.now_is) ∙ last below } in
    longest-unique test n k (longest test n) is (longest-is test n)
