-- What the parts of a turn leave of a scripted slot and its slot.
use Rattle.std.proofs.Common.{◌≡◌, ℕ, ◌+◌, ◌<◌, ◌≤◌, min, Bool, true, false, ◌⊎◌, inl, inr, ⊎_elim, Option, Some, None, Ok, Err, List, [], ◌∷◌, ◌++◌, length, take, drop, refl, sym, ap, ◌∙◌, subst, arith, slice_get, length-drop}
use Rattle.std.specs.Prelude.{option_map}
use Rattle.std.proofs.Math.Seq.{drop-nil, take-nil}
use Rattle.std.proofs.lemmas.List.{length-take-le}
use Rattle.std.proofs.lemmas.Option.{slice_get_within}
use Rattle.cpm_console.specs.declared.device.Device.{Device}
use Rattle.cpm_console.specs.declared.device.Device.TheVariants as device
use Rattle.cpm_console.specs.Terminal.{waiting_on}
use Rattle.cpm_geom.specs.Disk.{Disk}
use Rattle.cpm_script.specs.declared.script.Key.{Key}
use Rattle.cpm_slots.specs.declared.event.Reply.{Reply}
use Rattle.cpm_slots.specs.declared.event.Reply.TheVariants as reply
use Rattle.cpm_slots.specs.declared.event.Refusal.{Refusal}
use Rattle.cpm_slots.specs.declared.event.SlotId.{SlotId}
use Rattle.cpm_slots.specs.Host.{Host, slot_at, after_ask, reply_at, grant_reply, take_reply}
use Rattle.cpm_slots.specs.Serving.{Calls, reply_of, serve_slot, take_call}
use Rattle.cpm_machine.specs.declared.reply.Granted.{Granted}
use Rattle.cpm_machine.specs.Calls.{Call, Key as Pressed, Grant, ServedCall, serve, served_key}
use Rattle.cpm_machine.specs.MachineState.{MachineState}
use Rattle.cpm_machine.specs.Serve.{executed, keyed, takes_key}
use Rattle.cpm_machine.specs.Step.{after, can_step, is_running}
use Rattle.cpm_machine.proofs.GrantLaws.{longest-is}
use Rattle.cpm_slots.proofs.ServeLaws.{serve-take, taken_from}
use Rattle.cpm_slots.proofs.SlotLaws.{slot_at-same}
use Rattle.cpm_play.specs.declared.pace.Pace.{Pace}
use Rattle.cpm_play.specs.declared.scripted_slot.ScriptedSlot.{ScriptedSlot}
use Rattle.cpm_play.specs.Pacing.{due_at, turn_of, IsOn}
use Rattle.cpm_play.specs.Players.{AllBefore}
use Rattle.cpm_play.specs.Playing.{HaveRoom}
use Rattle.cpm_play.specs.ScriptedSlots.{console_with, script_keys, list_with, steps_of, waits_in, AreTaken, HasAdded, IsPlaying, IsResting, Moves}
use Rattle.cpm_play.proofs.HostLemmas.{moves-ask, reply-served, slot-served}
use Rattle.cpm_play.proofs.PaceLemmas.{due-key, key-more, on-advance, on-key, on-take, takes-due, IsAdvanced, IsDue}

-- a scripted slot whose slot is in a new state
abbrev pub playing-at : (steps : ℕ) (start s next : MachineState) (p q : ScriptedSlot) (old new : Host) (call : Call) → new ≡ after_ask old p.id.0 (Calls call) → (serve old.system call s).state ≡ next →
    slot_at p.id.0 old.slots ≡ Some s → q.id ≡ p.id → script_keys q ≡ script_keys p → HaveRoom old.system start (script_keys p) → IsOn old.system (script_keys p) steps start q.pace q.console.items q.list.items next →
    IsPlaying steps start q new
playing-at steps start s next p q old new call is state at id keys room on = record {
  now = next;
  stands = ap (λ (x : SlotId). slot_at x.0 new.slots) id ∙ ap (λ (h : Host). slot_at p.id.0 h.slots) is ∙ slot-served old p.id.0 call s at ∙ ap Some state;
  room = subst (λ (ks : List Key). HaveRoom new.system start ks) (sym keys)
      (subst (λ (d : Disk). HaveRoom d start (script_keys p)) (sym (ap (λ (h : Host). h.system) is)) room);
  on = subst (λ (ks : List Key). IsOn new.system ks steps start q.pace q.console.items q.list.items next) (sym keys)
      (subst (λ (d : Disk). IsOn d (script_keys p) steps start q.pace q.console.items q.list.items next) (sym (ap (λ (h : Host). h.system) is)) on);
}

-- ---- keys

pub resting-key : (steps byte : ℕ) (start : MachineState) (p q : ScriptedSlot) (old new : Host) → due_at p.pace.done (slice_get (script_keys p) p.pace.pressed) ≡ Some byte →
    0 < steps_of p → ((s : MachineState) → slot_at p.id.0 old.slots ≡ Some s → is_running s.ended ≡ true) → new ≡ after_ask old p.id.0 (Calls (Pressed byte)) →
    q ≡ record p { pace = record p.pace { pressed = p.pace.pressed + 1 } } → IsResting steps start p old → IsResting steps start q new
unfolding serve
resting-key steps byte start p q old new due left runs is moved resting =
    let playing = resting.playing in
    let s = playing.now in
    let key : IsDue (script_keys p) p.pace byte = due-key (slice_get (script_keys p) p.pace.pressed) (script_keys p) p.pace byte refl due in
    let room : takes_key s ≡ true = takes-due old.system (script_keys p) steps byte start p.pace p.console.items p.list.items s playing.room key playing.on in
    let state : (serve old.system (Pressed byte) s).state ≡ keyed byte s = ap (λ b. (served_key b byte s).state) room in
    let r : ScriptedSlot = record p { pace = record p.pace { pressed = p.pace.pressed + 1 } } in
    subst (λ (x : ScriptedSlot). IsResting steps start x new) (sym moved) (record {
      playing = playing-at steps start s (keyed byte s) p r old new (Pressed byte) is state playing.stands refl refl playing.room
          (on-key old.system (script_keys p) steps byte start p.pace p.console.items p.list.items s key left (runs s playing.stands) playing.on);
      quiet = record { screen = resting.quiet.screen; printer = resting.quiet.printer };
    })

-- there is a key that is due
pub pressed-within : (keys : List Key) (pace : Pace) (byte : ℕ) → due_at pace.done (slice_get keys pace.pressed) ≡ Some byte → pace.pressed < length keys
pressed-within keys pace byte due = let is : IsDue keys pace byte = due-key (slice_get keys pace.pressed) keys pace byte refl due in slice_get_within keys pace.pressed is.key is.at

-- keys that come before a count, and one more that does
before-more : (at : ℕ) (keys : List Key) (key : Key) → key.count < at → AllBefore at keys → AllBefore at (keys ++ key ∷ [])
before-more at [] key early before = (early, tt)
before-more at (x ∷ keys) key early before = (before.0, before-more at keys key early before.1)

-- a key that is due comes before every count above the steps done so far
pub early-key : (at byte : ℕ) (keys : List Key) (pace : Pace) → due_at pace.done (slice_get keys pace.pressed) ≡ Some byte → pace.done < at → AllBefore at (take pace.pressed keys) → AllBefore at (take (pace.pressed + 1) keys)
early-key at byte keys pace due above before =
    let is : IsDue keys pace byte = due-key (slice_get keys pace.pressed) keys pace byte refl due in
    let low = is.early in
    subst (λ (ks : List Key). AllBefore at ks) (sym (key-more keys pace byte is)) (before-more at (take pace.pressed keys) is.key (omega arith) before)

-- ---- steps

pub executed-within : (system : Disk) (n : ℕ) (s : MachineState) → executed system n s ≤ n
unfolding executed
executed-within system n s = (longest-is (λ k. can_step (after system k s)) n).within

abbrev steps_in : Reply → ℕ
steps_in (reply.Granted granted) = granted.executed
steps_in _ = 0

pub granted-executed : (h : Host) (id most : ℕ) (g : Granted) (s : MachineState) → grant_reply (Ok g) ≡ reply_at h id (Calls (Grant most)) → slot_at id h.slots ≡ Some s → g.executed ≡ executed h.system most s
unfolding serve
granted-executed h id most g s replied at = ap steps_in (replied ∙ reply-served h id (Grant most) s at)

reply-none : (h : Host) (id : ℕ) (call : Call) → slot_at id h.slots ≡ None → steps_in (reply_at h id (Calls call)) ≡ 0
unfolding serve_slot
reply-none h id call at = ap (λ o. steps_in (serve_slot h.system (Calls call) o).reply) at

pub granted-within : (h : Host) (id most : ℕ) (g : Granted) → grant_reply (Ok g) ≡ reply_at h id (Calls (Grant most)) → g.executed ≤ most
granted-within h id most g replied = go (slot_at id h.slots) refl
  where
    go : (o : Option MachineState) → slot_at id h.slots ≡ o → g.executed ≤ most
    go None at = let none : g.executed ≡ 0 = ap steps_in replied ∙ reply-none h id (Grant most) at in omega arith
    go (Some s) at = let is = granted-executed h id most g s replied at in let within = executed-within h.system most s in omega arith

pub granted-none : (h : Host) (id most : ℕ) (fault : Refusal) (s : MachineState) → grant_reply (Err fault) ≡ reply_at h id (Calls (Grant most)) → slot_at id h.slots ≡ Some s → 0 ≡ executed h.system most s
unfolding serve
granted-none h id most fault s replied at = ap steps_in (replied ∙ reply-served h id (Grant most) s at)

pub playing-turn : (steps k quantum : ℕ) (start : MachineState) (p q : ScriptedSlot) (old new : Host) →
    (due_at p.pace.done (slice_get (script_keys p) p.pace.pressed) ≡ None) ⊎ ((s : MachineState) → slot_at p.id.0 old.slots ≡ Some s → is_running s.ended ≡ false) → 1 ≤ quantum → k ≤ turn_of p.pace (script_keys p) quantum →
    ((s : MachineState) → slot_at p.id.0 old.slots ≡ Some s → k ≡ executed old.system (turn_of p.pace (script_keys p) quantum) s) →
    new ≡ after_ask old p.id.0 (Calls (Grant (turn_of p.pace (script_keys p) quantum))) → IsAdvanced k p.pace q.pace → q ≡ record p { pace = q.pace } →
    IsResting steps start p old → IsPlaying steps start q new
unfolding serve
playing-turn steps k quantum start p q old new none some turn is asked moves same resting =
    let playing = resting.playing in
    let s = playing.now in
    let most = turn_of p.pace (script_keys p) quantum in
    let count : k ≡ executed old.system most s = is s playing.stands in
    let state : (serve old.system (Grant most) s).state ≡ after old.system k s = ap (λ n. after old.system n s) (sym count) in
    let r : ScriptedSlot = record p { pace = q.pace } in
    subst (λ (x : ScriptedSlot). IsPlaying steps start x new) (sym same)
    (playing-at steps start s (after old.system k s) p r old new (Grant most) asked state playing.stands refl refl playing.room
    (on-advance old.system (script_keys p) steps k quantum start p.pace q.pace p.console.items p.list.items s resting.quiet
    (⊎_elim (λ free. inl free) (λ ended. inr (ended s playing.stands)) none) some count turn moves playing.on))

-- ---- bytes

abbrev bytes_in : Reply → List ℕ
bytes_in (reply.Bytes bytes) = bytes.items
bytes_in _ = []

abbrev is_bytes : Reply → Bool
is_bytes (reply.Bytes bytes) = true
is_bytes _ = false

took-count : (n room : ℕ) (out waiting : List ℕ) → n ≤ length out → take n out ≡ take (min room (length waiting)) waiting → AreTaken n room out waiting
took-count n room out waiting fits bytes = record {
  bytes = bytes;
  count = sym (length-take-le n out fits) ∙ ap length bytes ∙ length-take-le (min room (length waiting)) waiting (omega arith);
}

-- a slot that is open gives its bytes
take-served : (h : Host) (id room : ℕ) (on : Device) (s : MachineState) → slot_at id h.slots ≡ Some s →
    let waits = waiting_on on s.session.console in
    reply_at h id (Calls (take_call on room)) ≡ reply.Bytes (record { items = take (min room (length waits)) waits })
take-served h id room on s at = reply-served h id (take_call on room) s at ∙ ap (λ (x : ServedCall). reply_of x.answer) (serve-take h.system on room s)

-- and one that is not gives none
bytes-none : (h : Host) (id : ℕ) (call : Call) → slot_at id h.slots ≡ None → is_bytes (reply_at h id (Calls call)) ≡ false
unfolding serve_slot
bytes-none h id call at = ap (λ o. is_bytes (serve_slot h.system (Calls call) o).reply) at

pub bytes-taken : (h : Host) (id room n : ℕ) (on : Device) (out : List ℕ) → take_reply (Ok n) out ≡ reply_at h id (Calls (take_call on room)) → n ≤ length out → AreTaken n room out (waits_in on (slot_at id h.slots))
bytes-taken h id room n on out replied fits = go (slot_at id h.slots) refl
  where
    go : (o : Option MachineState) → slot_at id h.slots ≡ o → AreTaken n room out (waits_in on o)
    go None at = let bad : true ≡ false = ap is_bytes replied ∙ bytes-none h id (take_call on room) at in absurd (let no : ⊥ = cc in no)
    go (Some s) at = took-count n room out (waiting_on on s.session.console) fits (ap bytes_in (replied ∙ take-served h id room on s at))

pub bytes-refused : (h : Host) (id room : ℕ) (on : Device) (out : List ℕ) (fault : Refusal) → take_reply (Err fault) out ≡ reply_at h id (Calls (take_call on room)) → AreTaken 0 room out (waits_in on (slot_at id h.slots))
bytes-refused h id room on out fault replied = go (slot_at id h.slots) refl
  where
    go : (o : Option MachineState) → slot_at id h.slots ≡ o → AreTaken 0 room out (waits_in on o)
    go None at = took-count 0 room out [] (omega arith) (sym (take-nil (min room 0)))
    go (Some s) at = let bad : false ≡ true = ap is_bytes (replied ∙ take-served h id room on s at) in absurd (let no : ⊥ = cc in no)

-- what a take leaves of a slot, and what waits in it then
serve-taken : (system : Disk) (on : Device) (room : ℕ) (o : Option MachineState) → (serve_slot system (Calls (take_call on room)) o).slot ≡ option_map (taken_from on room) o
unfolding serve_slot
serve-taken system on room None = refl
serve-taken system on room (Some s) = ap (λ (x : ServedCall). Some x.state) (serve-take system on room s)

slot-taken : (h new : Host) (id room : ℕ) (on : Device) → new ≡ after_ask h id (Calls (take_call on room)) → slot_at id new.slots ≡ option_map (taken_from on room) (slot_at id h.slots)
slot-taken h new id room on is =
    ap (λ (g : Host). slot_at id g.slots) is ∙ slot_at-same id (Calls (take_call on room)) h.system h.slots (slot_at id h.slots) refl ∙ serve-taken h.system on room (slot_at id h.slots)

waits-left : (on : Device) (room : ℕ) (o : Option MachineState) → waits_in on (option_map (taken_from on room) o) ≡ drop (min room (length (waits_in on o))) (waits_in on o)
waits-left on room None = sym (drop-nil (min room 0))
waits-left device.Console room (Some s) = refl
waits-left device.List room (Some s) = refl

waits-stay : (on other : Device) (room : ℕ) (o : Option MachineState) → waits_in other o ≡ [] → waits_in other (option_map (taken_from on room) o) ≡ []
waits-stay on other room None none = refl
waits-stay device.Console device.Console room (Some s) none = ap (drop _) none ∙ drop-nil _
waits-stay device.Console device.List room (Some s) none = none
waits-stay device.List device.Console room (Some s) none = none
waits-stay device.List device.List room (Some s) none = ap (drop _) none ∙ drop-nil _

-- one chunk more went to the scripted slot `p`, which is `q` then
after-chunk : (room : ℕ) (on other : Device) (bytes : List ℕ) (p q : ScriptedSlot) (old new : Host) → new ≡ after_ask old p.id.0 (Calls (take_call on room)) → HasAdded on bytes p q →
    waits_in other (slot_at q.id.0 new.slots) ≡ waits_in other (option_map (taken_from on room) (slot_at p.id.0 old.slots))
after-chunk room on other bytes p q old new is added =
    ap (λ (x : ScriptedSlot). waits_in other (slot_at x.id.0 new.slots)) added.same ∙ ap (waits_in other) (slot-taken old new p.id.0 room on is)

pub moves-chunk : (room : ℕ) (on : Device) (bytes : List ℕ) (p q : ScriptedSlot) (old new : Host) → new ≡ after_ask old p.id.0 (Calls (take_call on room)) → HasAdded on bytes p q → Moves p q old new
moves-chunk room on bytes p q old new is added =
    moves-ask p q old new (take_call on room) (ap (λ (x : ScriptedSlot). x.id) added.same) (ap script_keys added.same) is

pub stays-empty : (room : ℕ) (on other : Device) (bytes : List ℕ) (p q : ScriptedSlot) (old new : Host) → new ≡ after_ask old p.id.0 (Calls (take_call on room)) → HasAdded on bytes p q →
    waits_in other (slot_at p.id.0 old.slots) ≡ [] → waits_in other (slot_at q.id.0 new.slots) ≡ []
stays-empty room on other bytes p q old new is added none = after-chunk room on other bytes p q old new is added ∙ waits-stay on other room (slot_at p.id.0 old.slots) none

-- some were taken, and fewer wait
pub fewer-wait : (n room : ℕ) (on : Device) (out bytes : List ℕ) (p q : ScriptedSlot) (old new : Host) → AreTaken n room out (waits_in on (slot_at p.id.0 old.slots)) → (n ≡ 0 → ⊥) →
    new ≡ after_ask old p.id.0 (Calls (take_call on room)) → HasAdded on bytes p q → length (waits_in on (slot_at q.id.0 new.slots)) < length (waits_in on (slot_at p.id.0 old.slots))
fewer-wait n room on out bytes p q old new took some is added =
    let waits = waits_in on (slot_at p.id.0 old.slots) in
    let count = took.count in
    let left = length-drop (min room (length waits)) waits in
    let now = ap length (after-chunk room on on bytes p q old new is added ∙ waits-left on room (slot_at p.id.0 old.slots)) in
    omega (arith, some)

-- or none waited
nothing : (room : ℕ) (out waiting : List ℕ) → 0 < room → AreTaken 0 room out waiting → waiting ≡ []
nothing room out [] some t = refl
nothing room out (x ∷ waiting) some t = let count = t.count in absurd (let no : ⊥ = omega arith in no)

pub none-wait : (n room : ℕ) (on : Device) (out bytes : List ℕ) (p q : ScriptedSlot) (old new : Host) → AreTaken n room out (waits_in on (slot_at p.id.0 old.slots)) → n ≡ 0 → 0 < room →
    new ≡ after_ask old p.id.0 (Calls (take_call on room)) → HasAdded on bytes p q → waits_in on (slot_at q.id.0 new.slots) ≡ []
none-wait n room on out bytes p q old new took zero_bytes some is added =
    let waits = waits_in on (slot_at p.id.0 old.slots) in
    stays-empty room on on bytes p q old new is added (nothing room out waits some (subst (λ m. AreTaken m room out waits) zero_bytes took))

-- bytes went to the scripted slot
pub playing-take : (steps n room : ℕ) (start : MachineState) (on : Device) (out : List ℕ) (p q : ScriptedSlot) (old new : Host) → AreTaken n room out (waits_in on (slot_at p.id.0 old.slots)) →
    new ≡ after_ask old p.id.0 (Calls (take_call on room)) → HasAdded on (take n out) p q → IsPlaying steps start p old → IsPlaying steps start q new
playing-take steps n room start on out p q old new took is added playing =
    let s = playing.now in
    let waits = waiting_on on s.session.console in
    let next = taken_from on room s in
    let t : AreTaken n room out waits = subst (λ o. AreTaken n room out (waits_in on o)) playing.stands took in
    let bytes = take (min room (length waits)) waits in
    let shown = console_with on bytes p.console.items in
    let console : q.console.items ≡ shown = added.console ∙ ap (λ xs. console_with on xs p.console.items) t.bytes in
    let list : q.list.items ≡ list_with on bytes p.list.items = added.list ∙ ap (λ xs. list_with on xs p.list.items) t.bytes in
    let r : ScriptedSlot = record p { console = q.console; list = q.list } in
    subst (λ (x : ScriptedSlot). IsPlaying steps start x new) (sym added.same)
    (playing-at steps start s next p r old new (take_call on room) is (ap (λ (x : ServedCall). x.state) (serve-take old.system on room s)) playing.stands refl refl playing.room
    (subst (λ (xs : List ℕ). IsOn old.system (script_keys p) steps start p.pace xs q.list.items next) (sym console)
    (subst (λ (xs : List ℕ). IsOn old.system (script_keys p) steps start p.pace shown xs next) (sym list)
    (on-take old.system (script_keys p) steps room start p.pace p.console.items p.list.items s on playing.on))))

-- where nothing waits it rests
pub resting-empty : (steps : ℕ) (start : MachineState) (p : ScriptedSlot) (h : Host) → ((on : Device) → waits_in on (slot_at p.id.0 h.slots) ≡ []) → IsPlaying steps start p h → IsResting steps start p h
resting-empty steps start p h empty playing = record {
  playing = playing;
  quiet = record {
    screen = sym (ap (waits_in device.Console) playing.stands) ∙ empty device.Console;
    printer = sym (ap (waits_in device.List) playing.stands) ∙ empty device.List;
  };
}
