-- What a closing leaves of a host.
use Rattle.std.proofs.Common.{◌≡◌, ℕ, List, Option, Some, sym, ap, ◌∙◌, subst}
use Rattle.std.specs.Prelude.{slice_get, remove, IfSome}
use Rattle.cpm_geom.specs.Disk.{Disk}
use Rattle.cpm_drives.specs.Disks.{images_of}
use Rattle.cpm_memory.specs.Contents.{Contents}
use Rattle.cpm_machine.specs.declared.reply.Look.{Look}
use Rattle.cpm_machine.specs.MachineState.{MachineState}
use Rattle.cpm_machine.specs.Serve.{look_of}
use Rattle.cpm_slots.specs.declared.event.Reply.TheVariants as reply
use Rattle.cpm_slots.specs.declared.slots.Slot.{Slot}
use Rattle.cpm_slots.specs.Host.{Host, SlotState, reply_at, after_ask, IsHost}
use Rattle.cpm_slots.specs.Index.{IsAtIndex}
use Rattle.cpm_slots.specs.Serving.{Closes}
use Rattle.cpm_slots.specs.Slots.{slot_of, slots_of}
use Rattle.cpm_slots.proofs.OrderLaws.{IsHost-ask}
use Rattle.cpm_slots.proofs.OpenIndexes.{slots-at}
use Rattle.cpm_slots.proofs.CloseSlots.{closed-reply, closed-slots}
use Rattle.cpm_slots.proofs.CallLaws.{with_slots}

-- what is left of a session that was closed
abbrev pub IsLeft : Look → List (Option Disk) → MachineState → Type 0
IsLeft look drives s = (look ≡ look_of s) × (drives ≡ images_of s.session.disks)

pub left-at : (m : List (Option Contents)) (slots : List Slot) (i : ℕ) (s : Slot) (look : Look) (drives : List (Option Disk)) → slice_get slots i ≡ Some s → IfSome (slice_get (slots_of m slots) i) (λ x. look ≡ look_of x.state) → drives ≡ images_of s.runner.session.disks → IfSome (slice_get (slots_of m slots) i) (λ x. IsLeft look drives x.state)
left-at m slots i s look drives at h is =
    let e = slots-at m slots i s at in
    let seen : look ≡ look_of (slot_of m s).state = rw e at h in
    rw e (seen, is)

-- a closing at a place is one of the number
pub close-reply : (h now : Host) (id index : ℕ) → h ≡ now → IsAtIndex id h.slots index → reply.Done ≡ reply_at now id Closes
close-reply h now id index e l = closed-reply h.system id index h.slots l ∙ ap (λ g. reply_at g id Closes) e

pub close-host : (h now : Host) (id index : ℕ) (slots : List SlotState) → h ≡ now → IsHost h → IsAtIndex id h.slots index → slots ≡ remove h.slots index → with_slots h slots ≡ after_ask now id Closes
close-host h now id index slots e host l is =
    ap (with_slots h) (is ∙ closed-slots h.system id index h.slots host.ordered l) ∙ ap (λ g. after_ask g id Closes) e

pub close-keeps : (h : Host) (id index : ℕ) (slots : List SlotState) → IsHost h → IsAtIndex id h.slots index → slots ≡ remove h.slots index → IsHost (with_slots h slots)
close-keeps h id index slots host l is =
    subst (λ xs. IsHost (with_slots h xs)) (sym (is ∙ closed-slots h.system id index h.slots host.ordered l)) (IsHost-ask h id Closes host)
