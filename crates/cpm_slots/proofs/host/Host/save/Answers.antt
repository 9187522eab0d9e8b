use Rattle.std.proofs.Common.{List, Option}
use Rattle.std.specs.Prelude.{slice_get, IfSome}
use Rattle.cpm_memory.specs.Contents.{Contents}
use Rattle.cpm_memory.specs.Frames.{memories}
use Rattle.cpm_machine.specs.Saving.{saving_with}
use Rattle.cpm_slots.specs.Host.{Host}
use Rattle.cpm_slots.specs.Index.{IsAtIndex}
use Rattle.cpm_slots.specs.Restoring.{IsSavingBytes}
use Rattle.cpm_slots.specs.Slots.{slots_of}
use Rattle.cpm_slots.proofs.CallLaws.{same-host}
use Rattle.cpm_slots.proofs.OpenHost.{hosted}
use Rattle.cpm_slots.proofs.RestoreHost.{saved-slot}
use Rattle.cpm_slots.proofs.host.Host.save.Goals as goal
use Rattle.cpm_slots.proofs.host.Host.save.Goals.{in-Ok, in-Err}

pub returns-clause-saved : goal.returns-clause-saved
returns-clause-saved c =
    let s = c.self.inside in
    let h : Host = hosted s.system s.frames s.openings (slots_of (memories s.store) s.slots.items) in
    let all : (m : List (Option Contents)) → IsAtIndex c.args.id.0 (slots_of m s.slots.items) c.in-Some.index = rw c.deref.ensures.value at c.in-Some.ensures in
    elim c.match-saved.branch [
      | in-Ok w ↦ rw w.result-is
          (let saved : IfSome (slice_get h.slots c.in-Some.index) (λ x. IsSavingBytes (saving_with c.digest-digest.result x.state) w.in-Ok.bytes.items) = rw c.deref-2.ensures.value at w.in-Ok.ensures in
          saved-slot h c.args.self.now.host c.args.id.0 c.in-Some.index c.digest-digest.result w.in-Ok.bytes.items (same-host c.self.view_is) c.digest-digest.ensures.digest (all (memories s.store)) saved)
      | in-Err w ↦ rw w.result-is tt
    ]
