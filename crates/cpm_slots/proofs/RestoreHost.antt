-- What a slot that is restored leaves of a host, and what is saved of one.
use Rattle.std.proofs.Common.{◌≡◌, false, true, List, Option, None, Some, Result, Ok, Err, get_or, set, ℕ, is_some, refl, sym, ap, ◌∙◌, subst}
use Rattle.std.specs.Prelude.{IfOk, IfSome, slice_get}
use Rattle.std.proofs.lemmas.List.{get_or-set_same, set-set}
use Rattle.cpm_memory.specs.Contents.{Contents}
use Rattle.cpm_memory.specs.Frames.{Frames, IsTableTaken, memories, memory_at, memory_of}
use Rattle.cpm_memory.specs.Opening.{opening}
use Rattle.cpm_machine.specs.MachineState.{MachineState}
use Rattle.cpm_machine.specs.Saving.{Saving, bytes_of_saving, restored, saving_with}
use Rattle.cpm_machine.specs.SystemDigest.{system_digest}
use Rattle.cpm_slots.specs.Host.{Host, lacks_frames, lacks_slot}
use Rattle.cpm_slots.specs.Index.{IsAtIndex}
use Rattle.cpm_slots.specs.Restoring.{IsSavingBytes, IsSlotSaved}
use Rattle.cpm_slots.specs.Slots.{contents_at}
use Rattle.cpm_slots.proofs.OpenSlots.{contents-added, none-at, taken-within}
use Rattle.cpm_slots.proofs.OrderLaws.{HasPlace, has-fork}
use Rattle.cpm_slots.proofs.ViewLaws.{contents-of}

-- what a slot of this state finds where neither is lacking
pub place-for : (h : Host) (s : MachineState) → lacks_slot h ≡ false → lacks_frames h s.quota ≡ false → HasPlace h s.quota
place-for h s slot frames = has-fork h s (rw slot (rw frames refl))

-- the memory of a table that was just reserved
pub fresh-memory : (old new : Frames) (t quota : ℕ) → memory_at old t ≡ None → memories new ≡ set (memories old) t (Some (opening quota)) → IsTableTaken new t → memory_of new t ≡ opening quota
fresh-memory old new t quota free is taken =
    sym (contents-of new t taken)
    ∙ ap (λ m. contents_at m t) is
    ∙ contents-added (memories old) t (opening quota) (none-at old t free) (subst (λ m. is_some (get_or m t None) ≡ true) is taken)

-- the memory that a table gets is that of the one to which it is set last
pub filled-memories : (old reserved new : List (Option Contents)) (t : ℕ) (first last : Contents) → reserved ≡ set old t (Some first) → new ≡ set reserved t (Some last) → new ≡ set old t (Some last)
filled-memories old reserved new t first last e f = f ∙ ap (λ m. set m t (Some last)) e ∙ set-set old t (Some first) (Some last)

-- and the table stays taken
pub filled-taken : (reserved new : List (Option Contents)) (t : ℕ) (memory : Contents) → is_some (get_or reserved t None) ≡ true → new ≡ set reserved t (Some memory) → is_some (get_or new t None) ≡ true
filled-taken reserved new t memory taken e =
    ap (λ m. is_some (get_or m t None)) e ∙ ap is_some (get_or-set_same reserved t (Some memory) None (taken-within reserved t taken))

-- the bytes of a saving, by what they are and what is restored of them
pub saving-bytes : {A F : Type 0} (bytes : A → List ℕ) (r : Result A F) (x : Saving) → IfOk r (λ a. bytes a ≡ bytes_of_saving x) → IfOk r (λ a. restored (bytes a) ≡ Ok x) → IfOk r (λ a. IsSavingBytes x (bytes a))
saving-bytes bytes (Ok a) x saved restores = record { saved = saved; restores = restores }
saving-bytes bytes (Err fault) x saved restores = tt

-- bytes of the slot at a place, with the digest of the host's system drive
pub saved-slot : (h now : Host) (id index : ℕ) (digest bytes : List ℕ) → h ≡ now → digest ≡ system_digest h.system → IsAtIndex id h.slots index →
    IfSome (slice_get h.slots index) (λ x. IsSavingBytes (saving_with digest x.state) bytes) → IsSlotSaved now id bytes
saved-slot h now id index digest bytes same is l k =
    let bytes_are : IsSavingBytes (saving_with digest l.found.state) bytes = rw l.at at k in
    subst (λ g. IsSlotSaved g id bytes) same (record {
      state = l.found.state;
      there = l.slot;
      saving = subst (λ d. IsSavingBytes (saving_with d l.found.state) bytes) is bytes_are;
    })
