-- A slot that goes on from a saving is as the slot that was saved.
use Rattle.std.proofs.Common.{◌≡◌, ℕ, ◌<◌, Bool, true, false, not, List, Some, None, Ok, refl, sym, ap, ◌∙◌, arith, if◌then◌else◌, subst}
use Rattle.std.proofs.lemmas.Cmp.{nat_list_eq_equiv}
use Rattle.cpm_geom.specs.Disk.{Disk}
use Rattle.cpm_machine.specs.Saving.{Saving, restored}
use Rattle.cpm_machine.specs.SystemDigest.{system_digest}
use Rattle.cpm_slots.specs.declared.event.ForkError.TheVariants as fork
use Rattle.cpm_slots.specs.declared.event.HostRestoreError.{HostRestoreError}
use Rattle.cpm_slots.specs.declared.event.HostRestoreError.TheVariants as restore
use Rattle.cpm_slots.specs.Host.{Host, Happening, Forks, Restores, slot_at, lacks_slot, lacks_frames, fork_fault, forked_if, with_forked, saving_of, are_same, restore_fault, restored_if, with_slot_restored, with_added, after_one, host_after, replies_told, told_of, own, IsHost}
use Rattle.cpm_slots.specs.Lives.{Life}
use Rattle.cpm_slots.specs.Restoring.{IsSlotSaved}
use Rattle.cpm_slots.specs.Laws.{StandsAlone, ComesFrom, GoesOnAsSaved}
use Rattle.cpm_slots.proofs.SlotLaws.{open-below, slot_at-new}
use Rattle.cpm_slots.proofs.EventLaws.{added-slot, two-worlds}

pub savings-have-lives : (system : Disk) (h : Host) (id : ℕ) (life : Life) (bytes : List ℕ) → IsSlotSaved h id bytes → StandsAlone system life.opening life.asks life.replies (slot_at id h.slots) → ComesFrom system life (restored bytes)
savings-have-lives system h id life bytes k stands =
    subst (ComesFrom system life) (sym k.saving.restores) (subst (StandsAlone system life.opening life.asks life.replies) k.there stands)

restored-host : (h : Host) (bytes : List ℕ) (x : Saving) → restored bytes ≡ Ok x → restore_fault h (restored bytes) ≡ None → after_one h (Restores bytes) ≡ with_added h x.state
restored-host h bytes x at e = ap (λ r. restored_if r h (restored bytes)) e ∙ ap (with_slot_restored h) at

pub goes-as-saved : (g h : Host) (id : ℕ) (bytes : List ℕ) (es ds : List Happening) → IsHost g → IsHost h → g.system ≡ h.system → IsSlotSaved g id bytes → restore_fault h (restored bytes) ≡ None → own id es ≡ own h.openings ds →
    GoesOnAsSaved g h id bytes es ds
goes-as-saved g h id bytes es ds saved host system k e asks =
    let s = k.state in
    let added = with_added h s in
    let after = restored-host h bytes (saving_of g s) k.saving.restores e in
    let new : slot_at h.openings added.slots ≡ Some s = slot_at-new h.openings s h.slots host.below in
    let below : id < g.openings = open-below g.openings id s g.slots saved.below k.there in
    let both = two-worlds g added id h.openings es ds below (omega arith) system (k.there ∙ sym new) asks in
    record {
      number = ap (λ (f : Host). f.openings) after;
      state = ap (λ (f : Host). slot_at h.openings f.slots) after ∙ new ∙ sym k.there;
      others = λ other l. ap (λ (f : Host). slot_at other f.slots) after ∙ added-slot other h s l;
      replied = both.0 ∙ ap (λ (f : Host). told_of h.openings (replies_told ds f)) (sym after);
      goes = both.1 ∙ ap (λ (f : Host). slot_at h.openings (host_after ds f).slots) (sym after);
    }

pub no-restored : (h : Host) (bytes : List ℕ) (fault : HostRestoreError) → restore_fault h (restored bytes) ≡ Some fault → after_one h (Restores bytes) ≡ h
no-restored h bytes fault e = ap (λ r. restored_if r h (restored bytes)) e

-- where the digests are the same, what is left of the tests are those of a fork
fork-tests : (h : Host) (id : ℕ) (x : Saving) (same slot frame : Bool) → slot_at id h.slots ≡ Some x.state → same ≡ true →
    forked_if (if slot then Some fork.NoSlot else if frame then Some fork.NoFrames else None) h id
    ≡ restored_if (if not same then Some restore.OtherSystem else if slot then Some restore.NoSlot else if frame then Some restore.NoFrames else None) h (Ok x)
fork-tests h id x false slot frame at e = cc
fork-tests h id x true true frame at e = refl
fork-tests h id x true false true at e = refl
fork-tests h id x true false false at e = ap (with_forked h) at

pub fork-restored : (h : Host) (id : ℕ) (bytes : List ℕ) → IsSlotSaved h id bytes → after_one h (Forks id) ≡ after_one h (Restores bytes)
fork-restored h id bytes k =
    let s = k.state in
    let digest = system_digest h.system in
    let same : are_same digest digest ≡ true = nat_list_eq_equiv.refl digest in
    ap (λ o. forked_if (fork_fault h o) h id) k.there
    ∙ fork-tests h id (saving_of h s) (are_same digest digest) (lacks_slot h) (lacks_frames h s.quota) k.there same
    ∙ ap (λ r. restored_if (restore_fault h r) h r) (sym k.saving.restores)
