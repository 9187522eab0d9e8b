use Rattle.std.proofs.Common.{◌≡◌, ◌∙◌, ℕ, Bool, true, Ok, ap, refl, subst, sym}
use Rattle.std.specs.Prelude.{IfErr, Result}
use Rattle.cpm_memory.specs.Contents.{Contents, touched_of}
use Rattle.cpm_memory.specs.Flat.{flat_contents}
use Rattle.cpm_saved.specs.declared.reader.RestoreError.{RestoreError}
use Rattle.cpm_machine.specs.MachineState.{MachineState}
use Rattle.cpm_machine.specs.Runner.{IsRunnerSound, state_of}
use Rattle.cpm_machine.specs.Saving.{IsUnrestored, can_count, can_write, checked, has_count_left, has_pages, saving_with}
use Rattle.cpm_machine.specs.SavingParts.{saving_of_parts}
use Rattle.cpm_machine.proofs.SavingLaws.{checked_fails, checked_is, sound_checked, touched_limit}
use Rattle.cpm_machine.proofs.saving.machine_of.Goals as goal

pub returns-then-not-can_write-clause-refused : goal.returns-then-not-can_write-clause-refused
returns-then-not-can_write-clause-refused c =
    let parts = c.args.parts in
    let n = parts.numbers in
    let x = saving_of_parts parts in
    let count : has_count_left x.state ≡ true =
    ap (λ (r : Bool). can_count r n.count) (sym c.is_running-runs.ensures) ∙ sym c.can_count.ensures.value ∙ c.if-not-can_count.false in
    let pages =
    ap (λ (r : Bool). can_write r (touched_of x.state.memory) n.quota) (sym c.is_running-runs.ensures)
    ∙ ap (λ (k : ℕ). can_write c.is_running-runs.result k n.quota) (touched_limit (flat_contents parts.memory) n.quota ∙ sym c.touched.ensures)
    ∙ sym c.can_write.ensures ∙ c.if-not-can_write.true in
    subst (λ r. IfErr r (λ (fault : RestoreError). IsUnrestored (checked x) fault)) (sym c.damaged-then-not-can_write.ensures) (checked_fails x count pages)

pub returns-clause-read : goal.returns-clause-read
returns-clause-read c =
    let parts = c.args.parts in
    let n = parts.numbers in
    let x = saving_of_parts parts in
    let new = flat_contents c.limit_to.new.self in
    let count : has_count_left x.state ≡ true =
    ap (λ (r : Bool). can_count r n.count) (sym c.is_running-runs.ensures) ∙ sym c.can_count.ensures.value ∙ c.if-not-can_count.false in
    let pages : has_pages x.state ≡ true =
    ap (λ (r : Bool). can_write r (touched_of x.state.memory) n.quota) (sym c.is_running-runs.ensures)
    ∙ ap (λ (k : ℕ). can_write c.is_running-runs.result k n.quota) (touched_limit (flat_contents parts.memory) n.quota ∙ sym c.touched.ensures)
    ∙ sym c.can_write.ensures ∙ c.if-not-can_write.false in
    let of : Contents → MachineState = λ m. record {
      cpu = n.cpu;
      session = parts.session;
      memory = m;
      quota = n.quota;
      count = n.count;
      ended = n.ended;
      with_program = n.with_program;
    } in
    let same : state_of c.in_ok-runner.runner new ≡ x.state = c.in_ok-runner.ensures.state new ∙ ap of c.limit_to.ensures in
    checked_is x count pages ∙ ap (λ (s : MachineState). Ok (saving_with parts.digest s)) (sym same)

pub returns-clause-sound : goal.returns-clause-sound
returns-clause-sound c =
    let parts = c.args.parts in
    let n = parts.numbers in
    let x = saving_of_parts parts in
    let new = flat_contents c.limit_to.new.self in
    let count : has_count_left x.state ≡ true =
    ap (λ (r : Bool). can_count r n.count) (sym c.is_running-runs.ensures) ∙ sym c.can_count.ensures.value ∙ c.if-not-can_count.false in
    let pages : has_pages x.state ≡ true =
    ap (λ (r : Bool). can_write r (touched_of x.state.memory) n.quota) (sym c.is_running-runs.ensures)
    ∙ ap (λ (k : ℕ). can_write c.is_running-runs.result k n.quota) (touched_limit (flat_contents parts.memory) n.quota ∙ sym c.touched.ensures)
    ∙ sym c.can_write.ensures ∙ c.if-not-can_write.false in
    let of : Contents → MachineState = λ m. record {
      cpu = n.cpu;
      session = parts.session;
      memory = m;
      quota = n.quota;
      count = n.count;
      ended = n.ended;
      with_program = n.with_program;
    } in
    let same : state_of c.in_ok-runner.runner new ≡ x.state = c.in_ok-runner.ensures.state new ∙ ap of c.limit_to.ensures in
    subst IsRunnerSound (sym same) (sound_checked x.state refl c.can_count.ensures.fits count pages)
