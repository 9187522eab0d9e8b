-- A request of a slot, by what the host replied to its parts.
use Rattle.std.proofs.Common.{◌≡◌, ◌<◌, ◌≤◌, ◌+◌, ◌-◌, ◌%◌, ℕ, suc, List, [], ◌∷◌, length, take, min, cond, ◌++◌, append_assoc, true, false, Bool, Option, Some, None, refl, sym, ap, ap₂, ◌∙◌, arith}
use Rattle.std.specs.Prelude.{⊤, Result, Ok, Err, is_ok, IfSome}
use Rattle.std.specs.Result.{result_unwrap_or}
use Rattle.std.proofs.lemmas.Bool.Decides.{nat_tests}
use Rattle.std.proofs.lemmas.Grind.{common_steps}
use Rattle.cpm_flags.specs.declared.regs.Cpu.{Cpu}
use Rattle.cpm_console.specs.declared.device.Device.{Device}
use Rattle.cpm_console.specs.declared.device.Device.TheVariants as device
use Rattle.cpm_geom.specs.Disk.{Disk}
use Rattle.cpm_memory.specs.Contents.{Contents, byte_at, run_at}
use Rattle.cpm_machine.specs.declared.reply.Closed.{Closed}
use Rattle.cpm_machine.specs.declared.reply.Granted.{Granted}
use Rattle.cpm_machine.specs.declared.reply.Look.{Look as SessionSeen}
use Rattle.cpm_machine.specs.MachineState.{MachineState}
use Rattle.cpm_machine.specs.Calls.{Grant as GrantCall, GrantUntil, Key as KeyCall, LookAt, Peek as PeekCall, Take as TakeCall, TakeList, granted, serve, served_key}
use Rattle.cpm_machine.specs.Serve.{look_of, takes_key}
use Rattle.cpm_machine.specs.Step.{after}
use Rattle.cpm_machine.specs.ToWait.{executed_to_wait}
use Rattle.cpm_machine.specs.Until.{granted_until}
use Rattle.cpm_slots.specs.declared.event.Refusal.{Refusal}
use Rattle.cpm_slots.specs.declared.event.Refusal.TheVariants as slots
use Rattle.cpm_slots.specs.declared.event.Reply.{Reply}
use Rattle.cpm_slots.specs.declared.event.Reply.TheVariants as reply
use Rattle.cpm_slots.specs.Host.{Host, after_ask, close_reply, cpu_reply, grant_reply, key_reply, look_reply, peek_reply, reply_at, slot_at, take_reply, work_reply}
use Rattle.cpm_slots.specs.Serving.{Calls, Closes, reply_of, serve_slot, take_call}
use Rattle.cpm_slots.proofs.ServeLaws.{works}
use Rattle.cpm_protocol.specs.Replies.{Answered, Looked, Refused, Text}
use Rattle.cpm_protocol.specs.Requests.{WireAsked, Grant, ListTake, Look, Take}
use Rattle.cpm_protocol.specs.declared.request.GrantGoal.TheVariants as goal
use Rattle.cpm_protocol.specs.declared.word.GrantStop.{GrantStop}
use Rattle.cpm_protocol.specs.declared.word.WireRefusal.TheVariants as refusal
use Rattle.cpm_serve.specs.Seen.{grant_result, look_seen}
use Rattle.cpm_serve.specs.Served.{after_asks, asked_slot, outcome, served, slot_served}
use Rattle.cpm_serve.specs.Slot.{accepted_in, accepted_of, asks_of, slot_answer, device_asked, wait_answer, wait_result, wait_stop}
use Rattle.cpm_serve.proofs.AskLemmas.{closed-host, closed-reply, grant-known, grant-unknown, look-known, open-reply, open-slot}

pub same-outcome : {h g : Host} {a b : Answered} → h ≡ g → a ≡ b → outcome h a ≡ outcome g b
same-outcome e f = ap₂ (λ (h : Host) (a : Answered). outcome h a) e f

-- a request of a slot is served where what becomes of the host, and the reply, are right for a slot that is not open and for one that is
pub by-slot : (h new : Host) (id : ℕ) (r : WireAsked) (a : Answered) →
    (slot_at id h.slots ≡ None → (new ≡ h) × (a ≡ Refused refusal.NoSuchSlot)) →
    ((s : MachineState) → slot_at id h.slots ≡ Some s → (new ≡ after_asks id (asks_of h.system r s) h) × (a ≡ slot_answer h.system r s)) →
    outcome new a ≡ asked_slot h id r
by-slot h new id r a closed is = by_case (slot_at id h.slots) refl
  where
    by_case : (o : Option MachineState) → slot_at id h.slots ≡ o → outcome new a ≡ slot_served h id r o
    by_case None e = let k = closed e in same-outcome k.0 k.1
    by_case (Some s) e = let k = is s e in same-outcome k.0 k.1

-- ---- grants

pub grant-served : (h new : Host) (id steps : ℕ) (r : Result Granted Refusal) → grant_reply r ≡ reply_at h id (Calls (GrantCall steps)) → new ≡ after_ask h id (Calls (GrantCall steps)) →
    outcome new (grant_result r) ≡ asked_slot h id (Grant id steps goal.Steps)
unfolding serve
grant-served h new id steps r said host = by-slot h new id (Grant id steps goal.Steps) (grant_result r)
    (λ none. (host ∙ closed-host h id (Calls (GrantCall steps)) none, ap grant_result (grant-unknown r (said ∙ closed-reply h id (Calls (GrantCall steps)) none))))
    (λ s at. (host, ap grant_result (grant-known r (granted h.system steps s) (said ∙ open-reply h id (GrantCall steps) s at))))

pub until-served : (h new : Host) (id steps pc : ℕ) (r : Result Granted Refusal) → grant_reply r ≡ reply_at h id (Calls (GrantUntil steps pc)) → new ≡ after_ask h id (Calls (GrantUntil steps pc)) →
    outcome new (grant_result r) ≡ asked_slot h id (Grant id steps (goal.Address pc))
unfolding serve
until-served h new id steps pc r said host = by-slot h new id (Grant id steps (goal.Address pc)) (grant_result r)
    (λ none. (host ∙ closed-host h id (Calls (GrantUntil steps pc)) none, ap grant_result (grant-unknown r (said ∙ closed-reply h id (Calls (GrantUntil steps pc)) none))))
    (λ s at. (host, ap grant_result (grant-known r (granted_until h.system pc steps s) (said ∙ open-reply h id (GrantUntil steps pc) s at))))

-- ---- grants to a wait

worked : (k steps : ℕ) (system : Disk) (o : Option MachineState) → let r : Result ℕ Refusal = Ok k in r ≡ work_reply system steps o → (s : MachineState) × (o ≡ Some s) × (k ≡ executed_to_wait system steps s)
worked k steps system None e = absurd cc
worked k steps system (Some s) e = (s, refl, cc)

-- the slot after such a grant
pub worked-slot : (h new : Host) (id k steps : ℕ) (s : MachineState) → slot_at id h.slots ≡ Some s → k ≡ executed_to_wait h.system steps s → new ≡ after_ask h id (Calls (GrantCall k)) →
    slot_at id new.slots ≡ Some (after h.system k s)
worked-slot h new id k steps s at e host =
    ap (λ (g : Host). slot_at id g.slots) host ∙ open-slot h id (GrantCall k) s at ∙ ap Some (sym (works h.system steps k s (after h.system k s) e refl).state)

pub seen : (new : Host) (id : ℕ) (s : MachineState) (r : Result SessionSeen Refusal) → slot_at id new.slots ≡ Some s → look_reply r ≡ reply_at new id (Calls LookAt) → r ≡ Ok (look_of s)
unfolding serve
seen new id s r at said = look-known r (look_of s) (said ∙ open-reply new id LookAt s at)

pub waited : (h new : Host) (id steps k : ℕ) (look : SessionSeen) (stop : GrantStop) → let r : Result ℕ Refusal = Ok k in let l : Result SessionSeen Refusal = Ok look in
    r ≡ work_reply h.system steps (slot_at id h.slots) → new ≡ after_ask h id (Calls (GrantCall k)) → look_reply l ≡ reply_at new id (Calls LookAt) → stop ≡ wait_stop steps k look →
    let w : Result (ℕ × GrantStop) Refusal = Ok (k, stop) in w ≡ wait_result h.system steps (slot_at id h.slots)
waited h new id steps k look stop work host said is =
    let d = worked k steps h.system (slot_at id h.slots) work in
    let s = d.0 in
    let l : Result SessionSeen Refusal = Ok look in
    let known : l ≡ Ok (look_of (after h.system k s)) = seen new id (after h.system k s) l (worked-slot h new id k steps s d.1 d.2 host) said in
    let same : look ≡ look_of (after h.system k s) = cc in
    let p : Result (ℕ × GrantStop) Refusal = Ok (k, stop) in
    let q : Result (ℕ × GrantStop) Refusal = Ok (k, wait_stop steps k (look_of (after h.system k s))) in
    let first : p ≡ q = ap (λ (x : GrantStop). let w : Result (ℕ × GrantStop) Refusal = Ok (k, x) in w) (is ∙ ap (λ (x : SessionSeen). wait_stop steps k x) same) in
    first ∙ ap (λ (n : ℕ). let w : Result (ℕ × GrantStop) Refusal = Ok (n, wait_stop steps n (look_of (after h.system n s))) in w) d.2 ∙ ap (wait_result h.system steps) (sym d.1)

pub not-waited : (h new : Host) (id steps k : ℕ) (fault : Refusal) → let r : Result ℕ Refusal = Ok k in let l : Result SessionSeen Refusal = Err fault in
    r ≡ work_reply h.system steps (slot_at id h.slots) → new ≡ after_ask h id (Calls (GrantCall k)) → look_reply l ≡ reply_at new id (Calls LookAt) → ⊥
not-waited h new id steps k fault work host said =
    let d = worked k steps h.system (slot_at id h.slots) work in
    let s = d.0 in
    let l : Result SessionSeen Refusal = Err fault in
    let known : l ≡ Ok (look_of (after h.system k s)) = seen new id (after h.system k s) l (worked-slot h new id k steps s d.1 d.2 host) said in
    cc

pub wait-served : (h new : Host) (id steps : ℕ) (r : Result (ℕ × GrantStop) Refusal) → r ≡ wait_result h.system steps (slot_at id h.slots) →
    ((k : ℕ) (stop : GrantStop) → r ≡ Ok (k, stop) → new ≡ after_ask h id (Calls (GrantCall k))) → ((fault : Refusal) → r ≡ Err fault → new ≡ h) →
    outcome new (wait_answer r) ≡ asked_slot h id (Grant id steps goal.Wait)
wait-served h new id steps r said host kept = by-slot h new id (Grant id steps goal.Wait) (wait_answer r)
    (λ none. let is : r ≡ Err slots.NoSuchSlot = said ∙ ap (wait_result h.system steps) none in (kept slots.NoSuchSlot is, ap wait_answer is))
    (λ s at.
    let k = executed_to_wait h.system steps s in
    let is : r ≡ Ok (k, wait_stop steps k (look_of (after h.system k s))) = said ∙ ap (wait_result h.system steps) at in
    (host k (wait_stop steps k (look_of (after h.system k s))) is, ap wait_answer is))

-- ---- looks

pub look-served : (h new : Host) (id : ℕ) (cpu : Cpu) (look : SessionSeen) → let r : Result Cpu Refusal = Ok cpu in let l : Result SessionSeen Refusal = Ok look in
    r ≡ cpu_reply (slot_at id h.slots) → look_reply l ≡ reply_at h id (Calls LookAt) → new ≡ h → outcome new (Looked (look_seen cpu look)) ≡ asked_slot h id (Look id)
look-served h new id cpu look c said same = by-slot h new id (Look id) (Looked (look_seen cpu look))
    (λ none. let no : (let r : Result Cpu Refusal = Ok cpu in r ≡ Err slots.NoSuchSlot) = c ∙ ap cpu_reply none in absurd cc)
    (λ s at.
    let l : Result SessionSeen Refusal = Ok look in
    let r : Result Cpu Refusal = Ok cpu in
    let known : l ≡ Ok (look_of s) = seen h id s l at said in
    let is : look ≡ look_of s = cc in
    let of : r ≡ Ok s.cpu = c ∙ ap cpu_reply at in
    let by : cpu ≡ s.cpu = cc in
    (same, ap₂ (λ (p : Cpu) (x : SessionSeen). Looked (look_seen p x)) by is))

pub look-not-served : (h new : Host) (id : ℕ) (fault : Refusal) (a : Answered) → let l : Result SessionSeen Refusal = Err fault in
    look_reply l ≡ reply_at h id (Calls LookAt) → new ≡ h → a ≡ Refused refusal.NoSuchSlot → outcome new a ≡ asked_slot h id (Look id)
look-not-served h new id fault a said same is = by-slot h new id (Look id) a
    (λ none. (same, is))
    (λ s at.
    let l : Result SessionSeen Refusal = Err fault in
    let known : l ≡ Ok (look_of s) = seen h id s l at said in absurd cc)

-- ---- bytes of a device

pub take-min : (n : ℕ) (xs : List ℕ) → take (min n (length xs)) xs ≡ take n xs
take-min n xs = grind (arith, common_steps)

-- what was taken, in front of a buffer
abbrev pub taken_answer : Result ℕ Refusal → List ℕ → Answered
taken_answer (Ok count) bytes = Text (take count bytes)
taken_answer (Err fault) bytes = Refused refusal.NoSuchSlot

unfoldable pub bytes_in : Reply → List ℕ
bytes_in (reply.Bytes bytes) = bytes.items
bytes_in _ = []

taken-known : (r : Result ℕ Refusal) (out bytes : List ℕ) → take_reply r out ≡ reply.Bytes (record { items = bytes }) → taken_answer r out ≡ Text bytes
unfolding bytes_in
taken-known (Ok count) out bytes e = ap Text (ap bytes_in e)
taken-known (Err fault) out bytes e = cc

taken-unknown : (r : Result ℕ Refusal) (out : List ℕ) → take_reply r out ≡ reply.Refused slots.NoSuchSlot → taken_answer r out ≡ Refused refusal.NoSuchSlot
taken-unknown (Ok count) out e = cc
taken-unknown (Err fault) out e = refl

pub take-served : (h new : Host) (device : Device) (id most : ℕ) (r : Result ℕ Refusal) (out : List ℕ) →
    take_reply r out ≡ reply_at h id (Calls (take_call device most)) → new ≡ after_ask h id (Calls (take_call device most)) →
    outcome new (taken_answer r out) ≡ served h (device_asked device id most)
unfolding serve
take-served h new device.Console id most r out said host = by-slot h new id (Take id most) (taken_answer r out)
    (λ none. (host ∙ closed-host h id (Calls (TakeCall most)) none, taken-unknown r out (said ∙ closed-reply h id (Calls (TakeCall most)) none)))
    (λ s at. (host, taken-known r out (take (min most (length s.session.console.screen)) s.session.console.screen) (said ∙ open-reply h id (TakeCall most) s at) ∙ ap Text (take-min most s.session.console.screen)))
take-served h new device.List id most r out said host = by-slot h new id (ListTake id most) (taken_answer r out)
    (λ none. (host ∙ closed-host h id (Calls (TakeList most)) none, taken-unknown r out (said ∙ closed-reply h id (Calls (TakeList most)) none)))
    (λ s at. (host, taken-known r out (take (min most (length s.session.console.printer)) s.session.console.printer) (said ∙ open-reply h id (TakeList most) s at) ∙ ap Text (take-min most s.session.console.printer)))

-- ---- a slot that is closed

pub closed-unknown : (fault : Refusal) (s : MachineState) (h : Host) (id : ℕ) → slot_at id h.slots ≡ Some s → let r : Result Closed Refusal = Err fault in close_reply r ≡ reply_at h id Closes → ⊥
unfolding serve_slot
closed-unknown fault s h id at said =
    let r : Result Closed Refusal = Err fault in
    let e : close_reply r ≡ reply.Done = said ∙ ap (λ o. (serve_slot h.system Closes o).reply) at in cc

-- ---- keys

key-served : (system : Disk) (key : ℕ) (s : MachineState) → reply_of (serve system (KeyCall key) s).answer ≡ reply_of (served_key (takes_key s) key s).answer
unfolding serve
key-served system key s = refl

key-state : (system : Disk) (key : ℕ) (s : MachineState) → Some (serve system (KeyCall key) s).state ≡ Some (served_key (takes_key s) key s).state
unfolding serve
key-state system key s = refl

accepted-one : (key : ℕ) (rest : List ℕ) (s : MachineState) (b : Bool) → takes_key s ≡ b → accepted_of (key ∷ rest) s ≡ cond {A = ℕ} b 1 0 + accepted_of rest (served_key b key s).state
accepted-one key rest s true e =
    let p = s.session.console.keys in
    let below : length p < 4096 = grind (arith, nat_tests) in
    let more : length (p ++ key ∷ []) ≡ length p + 1 = grind (arith, common_steps) in
    rw more (omega (arith, below))
accepted-one key rest s false e =
    let p = s.session.console.keys in
    let above : 4096 ≤ length p = grind (arith, nat_tests) in
    omega (arith, above)

key-ok : (r : Result ⊤ Refusal) (b : Bool) (key : ℕ) (s : MachineState) → key_reply r ≡ reply_of (served_key b key s).answer → is_ok r ≡ b
key-ok (Ok done) true key s e = refl
key-ok (Ok done) false key s e = cc
key-ok (Err fault) true key s e = cc
key-ok (Err fault) false key s e = refl

key-refused : (r : Result ⊤ Refusal) → key_reply r ≡ reply.Refused slots.NoSuchSlot → is_ok r ≡ false
key-refused (Ok done) e = cc
key-refused (Err fault) e = refl

-- a key that is offered finds room where it is accepted
pub accepted-step : (h new : Host) (id key : ℕ) (rest : List ℕ) (r : Result ⊤ Refusal) → key_reply r ≡ reply_at h id (Calls (KeyCall key)) → new ≡ after_ask h id (Calls (KeyCall key)) →
    accepted_in (key ∷ rest) (slot_at id h.slots) ≡ cond {A = ℕ} (is_ok r) 1 0 + accepted_in rest (slot_at id new.slots)
accepted-step h new id key rest r said host = by_case (slot_at id h.slots) refl
  where
    by_case : (o : Option MachineState) → slot_at id h.slots ≡ o → accepted_in (key ∷ rest) o ≡ cond {A = ℕ} (is_ok r) 1 0 + accepted_in rest (slot_at id new.slots)
    by_case None none =
        let same : new ≡ h = host ∙ closed-host h id (Calls (KeyCall key)) none in
        let no : is_ok r ≡ false = key-refused r (said ∙ closed-reply h id (Calls (KeyCall key)) none) in
        let still : slot_at id new.slots ≡ None = ap (λ (g : Host). slot_at id g.slots) same ∙ none in
        rw (no, still) refl
    by_case (Some s) at =
        let b = takes_key s in
        let is : is_ok r ≡ b = key-ok r b key s (said ∙ open-reply h id (KeyCall key) s at ∙ key-served h.system key s) in
        let now : slot_at id new.slots ≡ Some (served_key b key s).state = ap (λ (g : Host). slot_at id g.slots) host ∙ open-slot h id (KeyCall key) s at ∙ key-state h.system key s in
        rw (is, now) (accepted-one key rest s b refl)

-- ---- bytes of a memory

byte_in : Reply → ℕ
byte_in (reply.Peeked byte) = byte
byte_in _ = 0

peek-known : (r : Result ℕ Refusal) (byte : ℕ) → peek_reply r ≡ reply.Peeked byte → result_unwrap_or r 0 ≡ byte
unfolding byte_in
peek-known (Ok x) byte e = ap byte_in e
peek-known (Err fault) byte e = cc

pub run-step : (m : Contents) (place n k : ℕ) → k < n → run_at m place (n - k) ≡ byte_at m place ∷ run_at m ((place + 1) % 65536) (n - (k + 1))
unfolding run_at
run-step m place n k below = let e : n - k ≡ suc (n - (k + 1)) = omega (arith, below) in ap (run_at m place) e

pub if-open : (o : Option MachineState) (P : MachineState → Type 0) → ((s : MachineState) → o ≡ Some s → P s) → IfSome o P
if-open None P f = tt
if-open (Some s) P f = f s refl

pub peek-byte : (h : Host) (id address : ℕ) (s : MachineState) (r : Result ℕ Refusal) → slot_at id h.slots ≡ Some s → peek_reply r ≡ reply_at h id (Calls (PeekCall address)) → result_unwrap_or r 0 ≡ byte_at s.memory address
unfolding serve
peek-byte h id address s r at said = peek-known r (byte_at s.memory address) (said ∙ open-reply h id (PeekCall address) s at)

-- a byte more, and those to come
pub bytes-step : (m : Contents) (bytes now : List ℕ) (byte place n k : ℕ) → k < n → now ≡ bytes ++ byte ∷ [] → byte ≡ byte_at m place →
    now ++ run_at m ((place + 1) % 65536) (n - (k + 1)) ≡ bytes ++ run_at m place (n - k)
bytes-step m bytes now byte place n k below e is =
    rw (e, is, run-step m place n k below) (append_assoc bytes (byte_at m place ∷ []) (run_at m ((place + 1) % 65536) (n - (k + 1))))

pub all-bytes : (m : Contents) (bytes whole : List ℕ) (place n k : ℕ) → n ≤ k → bytes ++ run_at m place (n - k) ≡ whole → bytes ≡ whole
unfolding run_at
all-bytes m bytes whole place n k done e =
    let none : n - k ≡ 0 = omega (arith, done) in
    let nothing : run_at m place (n - k) ≡ [] = ap (run_at m place) none in
    let same : bytes ++ [] ≡ bytes = grind (arith, common_steps) in
    sym same ∙ ap (λ xs. bytes ++ xs) (sym nothing) ∙ e
