use Rattle.std.proofs.Common.{ℕ, List, ap, ◌∙◌}
use Rattle.cpm_memory.specs.Contents.{Contents, after_run}
use Rattle.cpm_drives.specs.declared.disks.Disks.{Disks}
use Rattle.cpm_drives.specs.Disks.{drive_at}
use Rattle.cpm_drives.specs.Selecting.{drive_in_use}
use Rattle.cpm_drives.specs.Vectors.{allocation_of}
use Rattle.cpm_bdos.specs.StepResult.{answered}
use Rattle.cpm_bdos.specs.Disks.{with_disks, give_allocation}
use Rattle.cpm_bdos.proofs.Marks.{current-used}
use Rattle.cpm_bdos.proofs.session.Session.give_allocation.Goals as goal

pub returns-clause-step : goal.returns-clause-step
unfolding give_allocation
returns-clause-step g c =
    let s = c.args.self.now in
    let m = g.M.Memory.contents c.args.memory.now in
    let n = g.M.Memory.contents c.change_run.new.memory in
    let system = c.args.system.now in
    let at = c.vector_of-at.result in
    let disks = drive_in_use s.disks system s.disks.current in
    let vector = allocation_of (drive_at disks system s.disks.current) in
    let of_disks = ap (λ (d : Disks). allocation_of (drive_at d system d.current)) c.use_drive.ensures in
    let of_current = ap (λ (k : ℕ). allocation_of (drive_at disks system k)) (current-used s.disks system s.disks.current) in
    let bytes = c.deref.ensures.0 ∙ (c.allocation_vector-vector.ensures.value ∙ (of_disks ∙ of_current)) in
    c.answer.ensures
    ∙ (ap (λ (d : Disks). answered (with_disks s d) n at) c.use_drive.ensures
    ∙ (ap (λ (k : Contents). answered (with_disks s disks) k at) (c.change_run.ensures.contents ∙ ap (λ (bs : List ℕ). after_run m at bs) bytes)
    ∙ ap (λ (k : ℕ). answered (with_disks s disks) (after_run m k vector) k) c.vector_of-at.ensures))
