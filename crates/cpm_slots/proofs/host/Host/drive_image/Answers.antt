use Rattle.std.proofs.Common.{◌≡◌, List, Option, None, ap, sym, ◌∙◌}
use Rattle.std.specs.Prelude.{slice_get, IfSome, option_map}
use Rattle.cpm_drives.specs.Disks.{image_of, own_drive}
use Rattle.cpm_memory.specs.Contents.{Contents}
use Rattle.cpm_memory.specs.Frames.{memories}
use Rattle.cpm_slots.specs.Drives.{drive_image}
use Rattle.cpm_slots.specs.Host.{SlotState, slot_at}
use Rattle.cpm_slots.specs.HostWithStore.{HostWithStore}
use Rattle.cpm_slots.specs.Index.{IsAtIndex}
use Rattle.cpm_slots.specs.Slots.{slots_of}
use Rattle.cpm_slots.proofs.host.Host.drive_image.Goals as goal

pub returns-in-None : goal.returns-in-None
returns-in-None c =
    let s = c.self.inside in
    let all : (m : List (Option Contents)) → slot_at c.args.id.0 (slots_of m s.slots.items) ≡ None = rw c.deref.ensures.value at c.in-None.ensures in
    ap (drive_image c.args.drive) (sym (all (memories s.store))) ∙ ap (λ (x : HostWithStore). drive_image c.args.drive (slot_at c.args.id.0 x.host.slots)) c.self.view_is

pub returns-in-Some : goal.returns-in-Some
returns-in-Some c =
    let s = c.self.inside in
    let m = memories s.store in
    let all : (m : List (Option Contents)) → IsAtIndex c.args.id.0 (slots_of m s.slots.items) c.in-Some.index = rw c.deref.ensures.value at c.in-Some.ensures in
    let seen : (m : List (Option Contents)) → IfSome (slice_get (slots_of m s.slots.items) c.in-Some.index)
    (λ (x : SlotState). option_map (λ image. image.now) c.image_at.result ≡ image_of (own_drive x.state.session.disks c.args.drive)) = rw c.deref-in-Some.ensures.value at c.image_at.ensures in
    let found = all m in
    let is : option_map (λ image. image.now) c.image_at.result ≡ image_of (own_drive found.found.state.session.disks c.args.drive) = rw found.at at (seen m) in
    is ∙ ap (drive_image c.args.drive) (sym found.slot) ∙ ap (λ (x : HostWithStore). drive_image c.args.drive (slot_at c.args.id.0 x.host.slots)) c.self.view_is
