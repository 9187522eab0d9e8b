-- A slot that is refused, and a slot that is closed.
use Rattle.std.proofs.Common.{◌≡◌, ◌≢◌, ◌∙◌, ℕ, Bool, true, false, ◌∷◌, List, Option, Some, None, ap, refl, subst, sym}
use Rattle.std.specs.Prelude.{⊤, IfSome, Result, Ok, Err, if◌then◌else◌, not, option_map}
use Rattle.std.proofs.lemmas.Option.{same_Some}
use Rattle.cpm_drives.specs.Disks.{images_of}
use Rattle.cpm_slots.specs.Host.{Host, IsRestoreRefusal, after_ask, are_same, close_reply, lacks_frames, lacks_slot, reply_at, restore_fault, slot_at, system_fault, with_added, with_slot_restored}
use Rattle.cpm_slots.specs.declared.event.HostRestoreError.{HostRestoreError}
use Rattle.cpm_slots.specs.declared.event.HostRestoreError.TheVariants as restore
use Rattle.cpm_saved.specs.declared.part.SavingDamage.{SavingDamage}
use Rattle.cpm_slots.specs.Restoring.{IsSlotSaved}
use Rattle.cpm_slots.specs.Serving.{Closes, serve_slot}
use Rattle.cpm_slots.specs.declared.event.Refusal.{Refusal}
use Rattle.cpm_slots.specs.declared.event.Reply.{Reply}
use Rattle.cpm_slots.specs.declared.event.Reply.TheVariants as reply
use Rattle.cpm_slots.proofs.EventLaws.{apart}
use Rattle.cpm_machine.specs.MachineState.{MachineState}
use Rattle.cpm_machine.specs.Opening.{IsRefusal}
use Rattle.cpm_machine.specs.Saving.{Saving, restored, saving_with}
use Rattle.cpm_machine.specs.Serve.{look_of}
use Rattle.cpm_machine.specs.SystemDigest.{system_digest}
use Rattle.cpm_machine.specs.declared.opening.OpenError.{OpenError}
use Rattle.cpm_machine.specs.declared.opening.OpenError.TheVariants.{NoFrames, NoSlot, OutOfMemory}
use Rattle.cpm_machine.specs.declared.reply.Closed.{Closed}
use Rattle.cpm_play.specs.declared.player.Player.{Player}
use Rattle.cpm_play.specs.declared.player.Player.TheVariants.{Playing}
use Rattle.cpm_play.specs.declared.scripted_slot.ScriptedSlot.{ScriptedSlot}
use Rattle.cpm_run.specs.Ending.{ending_of}
use Rattle.cpm_run.specs.Playing.{IsClosed, saved_bytes, saving_if}
use Rattle.cpm_run.specs.Run.{restoring_fault, saving_over}
use Rattle.cpm_run.specs.declared.ending.Ending.{Ending}
use Rattle.cpm_run.specs.declared.error.StartFault.{StartFault}
use Rattle.cpm_run.specs.declared.error.StartFault.TheVariants.{Elsewhere, Unopened}
use Rattle.cpm_run.specs.declared.finish.EndedSlot.{EndedSlot}

-- a fault that isn't the want of memory is the opening's
pub fault_of : (o : Option OpenError) (e : OpenError) → IsRefusal o e → e ≢ OutOfMemory → o ≡ Some e
fault_of None e r other = absurd (other r)
fault_of (Some f) e r other = ap (λ (x : OpenError). Some x) (sym r)

-- why a saving is refused
pub why_of : HostRestoreError → StartFault
why_of restore.OtherSystem = Elsewhere
why_of restore.NoSlot = Unopened NoSlot
why_of restore.NoFrames = Unopened NoFrames
why_of _ = Elsewhere

why_by : (same lacks over : Bool) → (if not same then Some Elsewhere else option_map Unopened (if lacks then Some NoSlot else (if over then Some NoFrames else None)))
    ≡ option_map why_of (if not same then Some restore.OtherSystem else (if lacks then Some restore.NoSlot else (if over then Some restore.NoFrames else None)))
unfolding why_of
why_by false lacks over = refl
why_by true true over = refl
why_by true false true = refl
why_by true false false = refl

restoring_is : (h : Host) (x : Saving) → restoring_fault h x ≡ option_map why_of (system_fault h x.system_digest x.state.quota)
restoring_is h x = why_by (are_same x.system_digest (system_digest h.system)) (lacks_slot h) (lacks_frames h x.state.quota)

pub restoring_refused : (h : Host) (x : Saving) (fault : HostRestoreError) (why : StartFault) → why_of fault ≡ why → system_fault h x.system_digest x.state.quota ≡ Some fault → restoring_fault h x ≡ Some why
restoring_refused h x fault why is refused = restoring_is h x ∙ ap (option_map why_of) refused ∙ ap Some is

pub saved_elsewhere : (h : Host) (x : Saving) → system_fault h x.system_digest x.state.quota ≡ Some restore.OtherSystem → restoring_fault h x ≡ Some Elsewhere
unfolding why_of
saved_elsewhere h x refused = restoring_refused h x restore.OtherSystem Elsewhere refl refused

pub saved_no_slot : (h : Host) (x : Saving) → system_fault h x.system_digest x.state.quota ≡ Some restore.NoSlot → restoring_fault h x ≡ Some (Unopened NoSlot)
unfolding why_of
saved_no_slot h x refused = restoring_refused h x restore.NoSlot (Unopened NoSlot) refl refused

pub saved_no_frames : (h : Host) (x : Saving) → system_fault h x.system_digest x.state.quota ≡ Some restore.NoFrames → restoring_fault h x ≡ Some (Unopened NoFrames)
unfolding why_of
saved_no_frames h x refused = restoring_refused h x restore.NoFrames (Unopened NoFrames) refl refused

-- a saving whose bytes these are is restored, or refused
pub restored_so : (h new : Host) (x : Saving) (read : Result Saving SavingDamage) → read ≡ Ok x → restore_fault h read ≡ None → new ≡ with_slot_restored h read → (restoring_fault h x ≡ None) × (new ≡ with_added h x.state)
restored_so h new x read is fits made = (
  restoring_is h x ∙ ap (option_map why_of) (ap (restore_fault h) (sym is) ∙ fits),
  made ∙ ap (with_slot_restored h) is,
)

pub refused_so : (h : Host) (x : Saving) (read : Result Saving SavingDamage) (fault : HostRestoreError) → read ≡ Ok x → IsRestoreRefusal (restore_fault h read) fault → IsRestoreRefusal (system_fault h x.system_digest x.state.quota) fault
refused_so h x read fault is r = subst (λ (y : Result Saving SavingDamage). IsRestoreRefusal (restore_fault h y) fault) is r

-- what is restored of a saving that a host made
pub saved_restores : (h : Host) (id : ℕ) (bytes : List ℕ) (s : MachineState) → IsSlotSaved h id bytes → slot_at id h.slots ≡ Some s
    → restored (saving_over h.system s) ≡ Ok (saving_with (system_digest h.system) s)
saved_restores h id bytes s saved at =
    let same : saved.state ≡ s = same_Some saved.state s (sym saved.there ∙ at) in
    let there : restored (saving_over h.system saved.state) ≡ Ok (saving_with (system_digest h.system) saved.state) = ap restored (sym saved.saving.saved) ∙ saved.saving.restores in
    subst (λ (t : MachineState). restored (saving_over h.system t) ≡ Ok (saving_with (system_digest h.system) t)) same there

-- of a slot that nothing has changed yet, whose ending was read, and which was saved, if it is to be
pub first_closed : (p : ScriptedSlot) (left : EndedSlot) (ps rest all : List Player) (s : MachineState) (is_saved : Bool) (old looked saved new : Host) (c : Closed) → all ≡ Playing p ∷ ps → all ≡ Playing left.slot ∷ rest
    → slot_at p.id.0 old.slots ≡ Some s → ((t : MachineState) → slot_at left.slot.id.0 old.slots ≡ Some t → Some left.ending ≡ Some (ending_of t)) → looked ≡ old
    → ((t : MachineState) → slot_at left.slot.id.0 looked.slots ≡ Some t → saved_bytes left.saved ≡ saving_if is_saved looked.system t)
    → ((t : MachineState) → slot_at left.slot.id.0 looked.slots ≡ Some t → is_saved ≡ true → restored (saving_over looked.system t) ≡ Ok (saving_with (system_digest looked.system) t)) → saved ≡ looked
    → IfSome (slot_at left.slot.id.0 saved.slots) (λ s. (c.look ≡ look_of s) × (c.drives ≡ images_of s.session.disks)) → left.drives ≡ c.drives → new ≡ after_ask saved left.slot.id.0 Closes
    → IsClosed p ps s is_saved old new (Some left) rest
first_closed p left ps rest all s is_saved old looked saved new c is first at reads stays saves restores kept closed drives closes =
    let same : left.slot ≡ p = cc in
    let behind : rest ≡ ps = cc in
    let here : slot_at left.slot.id.0 old.slots ≡ Some s = ap (λ (x : ScriptedSlot). slot_at x.id.0 old.slots) same ∙ at in
    let there : slot_at left.slot.id.0 looked.slots ≡ Some s = ap (λ (h : Host). slot_at left.slot.id.0 h.slots) stays ∙ here in
    let still : slot_at left.slot.id.0 saved.slots ≡ Some s = ap (λ (h : Host). slot_at left.slot.id.0 h.slots) kept ∙ there in
    let of_it : (c.look ≡ look_of s) × (c.drives ≡ images_of s.session.disks) =
    subst (λ (o : Option MachineState). IfSome o (λ s. (c.look ≡ look_of s) × (c.drives ≡ images_of s.session.disks))) still closed in
    let unchanged : saved ≡ old = kept ∙ stays in
    let so : new ≡ after_ask old p.id.0 Closes = closes ∙ ap (λ (h : Host). after_ask h left.slot.id.0 Closes) unchanged ∙ ap (λ (x : ScriptedSlot). after_ask old x.id.0 Closes) same in
    record {
      left = left;
      result = refl;
      slot = same;
      ending = let both = reads s here in cc;
      drives = drives ∙ of_it.1;
      saved = saves s there ∙ ap (λ (h : Host). saving_if is_saved h.system s) stays;
      restores = λ yes. subst (λ (h : Host). restored (saving_over h.system s) ≡ Ok (saving_with (system_digest h.system) s)) stays (restores s there yes);
      others_play = behind;
      others = λ id away. ap (λ (h : Host). slot_at id h.slots) so ∙ apart old p.id.0 id Closes away;
    }

-- an open slot has an ending
pub ending_there : (p q : ScriptedSlot) (ps rest all : List Player) (s : MachineState) (h : Host) (ending : Option Ending) → all ≡ Playing p ∷ ps → all ≡ Playing q ∷ rest → slot_at p.id.0 h.slots ≡ Some s
    → ((t : MachineState) → slot_at q.id.0 h.slots ≡ Some t → ending ≡ Some (ending_of t)) → ((e : Ending) → ending ≡ Some e → ⊥) → ⊥
ending_there p q ps rest all s h ending is first at reads none =
    let same : q ≡ p = cc in
    none (ending_of s) (reads s (ap (λ (x : ScriptedSlot). slot_at x.id.0 h.slots) same ∙ at))

abbrev IsDone : Reply → Type 0
IsDone reply.Done = ⊤
IsDone _ = ⊥

-- an open slot can be closed
can_close : (h : Host) (id : ℕ) (s : MachineState) (fault : Refusal) → slot_at id h.slots ≡ Some s → close_reply (Err fault) ≡ reply_at h id Closes → ⊥
unfolding serve_slot
can_close h id s fault at r = subst IsDone (sym (r ∙ ap (λ o. (serve_slot h.system Closes o).reply) at)) tt

pub first_closes : (p q : ScriptedSlot) (ps rest all : List Player) (s : MachineState) (old h : Host) (fault : Refusal) → all ≡ Playing p ∷ ps → all ≡ Playing q ∷ rest → slot_at p.id.0 old.slots ≡ Some s → h ≡ old
    → close_reply (Err fault) ≡ reply_at h q.id.0 Closes → ⊥
first_closes p q ps rest all s old h fault is first at stays r =
    let same : q ≡ p = cc in
    can_close h p.id.0 s fault (ap (λ (x : Host). slot_at p.id.0 x.slots) stays ∙ at) (subst (λ (x : ScriptedSlot). close_reply (Err fault) ≡ reply_at h x.id.0 Closes) same r)
