-- A slot since its opening stands alone.
use Rattle.std.proofs.Common.{ℕ, ◌+◌, ◌<◌, List, Some, ap, ◌∙◌, arith}
use Rattle.cpm_geom.specs.Disk.{Disk}
use Rattle.cpm_machine.specs.declared.opening.Opening.{Opening}
use Rattle.cpm_slots.specs.Host.{Happening, new_host, opened_slot, with_opened, slot_at, host_after, replies_told, told_of, own}
use Rattle.cpm_slots.specs.Account.{slot_after, replies_of}
use Rattle.cpm_slots.specs.Laws.{StandsAlone}
use Rattle.cpm_slots.proofs.SlotLaws.{slot_at-new}
use Rattle.cpm_slots.proofs.EventLaws.{slot-after, told-after, system-after, AllBelow-after}
use Rattle.cpm_slots.proofs.AccountLaws.{alone-asked}

pub stands-alone : (system : Disk) (frames : ℕ) (before : List Happening) (opening : Opening) (events : List Happening) →
    let h = host_after before (new_host system frames) in
    let now = with_opened h opening in
    StandsAlone system opening (own h.openings events) (told_of h.openings (replies_told events now)) (slot_at h.openings (host_after events now).slots)
stands-alone system frames before opening events =
    let h = host_after before (new_host system frames) in
    let id = h.openings in
    let asks = own id events in
    let start = opened_slot opening in
    let below : id < id + 1 = omega arith in
    let is = slot_at-new id start h.slots (AllBelow-after before (new_host system frames) tt) in
    let drive = system-after before (new_host system frames) in
    let state = slot-after id events (with_opened h opening) below ∙ ap (λ o. slot_after h.system asks o) is ∙ ap (λ d. slot_after d asks (Some start)) drive in
    let replied = told-after id events (with_opened h opening) below ∙ ap (λ o. replies_of h.system asks o) is ∙ ap (λ d. replies_of d asks (Some start)) drive in
    record {
      replied = replied;
      left = state;
      state = rw (replied, state) (alone-asked system asks start);
    }
