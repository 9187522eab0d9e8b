-- Grants that stop where a wait begins.
use Rattle.std.proofs.Common.{◌≡◌, ℕ, ◌<◌, ◌≤◌, Bool, true, false, ◌&&◌, not, refl, sym, ap, ap₂, ◌∙◌}
use Rattle.cpm_geom.specs.Disk.{Disk}
use Rattle.cpm_bdos.specs.Waiting.{is_waiting}
use Rattle.cpm_machine.specs.MachineState.{MachineState}
use Rattle.cpm_machine.specs.Step.{can_step, after}
use Rattle.cpm_machine.specs.Serve.{longest}
use Rattle.cpm_machine.specs.Laws.{IsLongest}
use Rattle.cpm_machine.specs.Runner.{IsRun, IsBusy}
use Rattle.cpm_machine.specs.ToWait.{can_work, executed_to_wait}
use Rattle.cpm_machine.proofs.GrantLaws.{longest-is, longest-unique}
use Rattle.cpm_machine.proofs.StepLaws.{and-right}

not-false : (b : Bool) → not b ≡ true → b ≡ false
not-false true h = cc
not-false false h = refl

-- what can be made so waits for no key
pub can-busy : (s : MachineState) → can_work s ≡ true → is_waiting s.session s.memory ≡ false
can-busy s h = not-false (is_waiting s.session s.memory) (and-right (can_step s) (not (is_waiting s.session s.memory)) h)

-- a run of which no step waits, and which doesn't go on so, is what such a grant executes
pub IsBusy-executed : (system : Disk) (n k : ℕ) (start now : MachineState) → IsRun system k start now → IsBusy system k start → k ≤ n → (k < n → can_work now ≡ false) → k ≡ executed_to_wait system n start
unfolding executed_to_wait
IsBusy-executed system n k start now run busy within last =
    let test : ℕ → Bool = λ i. can_work (after system i start) in
    let is : IsLongest test n k = record { within = within; each = λ i below. ap₂ (λ (can : Bool) (waits : Bool). can && not waits) (run.each i below) (busy i below); greatest = λ below. ap can_work (sym run.now_is) ∙ last below } in
    longest-unique test n k (longest test n) is (longest-is test n)
