-- The parts of a turn, and the whole.
use Rattle.std.proofs.Common.{◌≡◌, ℕ, List, [], ◌∷◌, ◌++◌, length, take, min, Bool, Option, Some, refl, sym, ap, ap₂, ◌∙◌, subst}
use Rattle.std.specs.Prelude.{IfSome, Result, Ok, Err}
use Rattle.std.specs.Result.{result_unwrap_or}
use Rattle.cpm_console.specs.Terminal.{waiting_on}
use Rattle.cpm_console.specs.declared.device.Device.{Device}
use Rattle.cpm_console.specs.declared.device.Device.TheVariants as device
use Rattle.cpm_geom.specs.Disk.{Disk}
use Rattle.cpm_machine.specs.Calls.{Grant, Key, LookAt, Take, TakeList, serve}
use Rattle.cpm_machine.specs.MachineState.{MachineState}
use Rattle.cpm_machine.specs.Serve.{look_of, taken, taken_list}
use Rattle.cpm_machine.specs.Step.{after}
use Rattle.cpm_machine.specs.declared.reply.Look.{Look}
use Rattle.cpm_slots.specs.Host.{Host, after_ask, look_reply, reply_at, slot_at, take_reply}
use Rattle.cpm_slots.specs.Serving.{Ask, Calls, take_call}
use Rattle.cpm_slots.specs.declared.event.Refusal.{Refusal}
use Rattle.cpm_slots.specs.declared.event.Reply.TheVariants as reply
use Rattle.cpm_protocol.specs.Replies.{Accepted, Granted, Text, Turned}
use Rattle.cpm_protocol.specs.Requests.{Grant as GrantAsked, Key as KeyAsked, ListTake, Look as LookAsked, Take as TakeAsked, Turn, WireAsked}
use Rattle.cpm_protocol.specs.declared.request.GrantGoal.TheVariants as goal
use Rattle.cpm_protocol.specs.declared.word.GrantStop.{GrantStop}
use Rattle.cpm_protocol.specs.declared.word.WireEnd.{WireEnd}
use Rattle.cpm_serve.specs.Laws.{TurnsAreParts, host_behind}
use Rattle.cpm_serve.specs.Seen.{end_seen, look_seen}
use Rattle.cpm_serve.specs.Served.{Served, after_asks, asked_slot, outcome, served, slot_served}
use Rattle.cpm_serve.specs.Slot.{accepted_in, accepted_of, asks_of, look_answer, slot_answer, granted_to_wait, key_asks, keys_offered, seen_behind, turn_asks, turn_bytes}
use Rattle.cpm_serve.specs.Turns.{IsMoved, IsSeen, IsWorked}
use Rattle.cpm_serve.proofs.AskLemmas.{open-reply, open-slot}
use Rattle.cpm_serve.proofs.ServedLemmas.{bytes_in, same-outcome, seen, take-min, worked-slot}

-- ---- a look

pub look-is : (h : Host) (id : ℕ) (s : MachineState) (look : Look) → let l : Result Look Refusal = Ok look in slot_at id h.slots ≡ Some s → look_reply l ≡ reply_at h id (Calls LookAt) → look ≡ look_of s
look-is h id s look at said = let l : Result Look Refusal = Ok look in let known : l ≡ Ok (look_of s) = seen h id s l at said in cc

pub look-not : (h : Host) (id : ℕ) (s : MachineState) (fault : Refusal) → let l : Result Look Refusal = Err fault in slot_at id h.slots ≡ Some s → look_reply l ≡ reply_at h id (Calls LookAt) → ⊥
look-not h id s fault at said = let l : Result Look Refusal = Err fault in let known : l ≡ Ok (look_of s) = seen h id s l at said in cc

-- ---- bytes of a device

moved-bytes : (r : Result ℕ Refusal) (out bytes : List ℕ) → take_reply r out ≡ reply.Bytes (record { items = bytes }) → take (result_unwrap_or r 0) out ≡ bytes
unfolding bytes_in
moved-bytes (Ok count) out bytes e = ap bytes_in e
moved-bytes (Err fault) out bytes e = cc

pub moved : (h : Host) (id n : ℕ) (device : Device) (s : MachineState) (r : Result ℕ Refusal) (out : List ℕ) → slot_at id h.slots ≡ Some s → take_reply r out ≡ reply_at h id (Calls (take_call device n)) →
    take (result_unwrap_or r 0) out ≡ take n (waiting_on device s.session.console)
unfolding serve
moved h id n device.Console s r out at said =
    moved-bytes r out (take (min n (length s.session.console.screen)) s.session.console.screen) (said ∙ open-reply h id (Take n) s at) ∙ take-min n s.session.console.screen
moved h id n device.List s r out at said =
    moved-bytes r out (take (min n (length s.session.console.printer)) s.session.console.printer) (said ∙ open-reply h id (TakeList n) s at) ∙ take-min n s.session.console.printer

taken-slot : (h new : Host) (id n : ℕ) (s : MachineState) → slot_at id h.slots ≡ Some s → new ≡ after_ask h id (Calls (Take n)) → slot_at id new.slots ≡ Some (taken n s)
unfolding serve
taken-slot h new id n s at host = ap (λ (g : Host). slot_at id g.slots) host ∙ open-slot h id (Take n) s at

listed-slot : (h new : Host) (id n : ℕ) (s : MachineState) → slot_at id h.slots ≡ Some s → new ≡ after_ask h id (Calls (TakeList n)) → slot_at id new.slots ≡ Some (taken_list n s)
unfolding serve
listed-slot h new id n s at host = ap (λ (g : Host). slot_at id g.slots) host ∙ open-slot h id (TakeList n) s at

-- ---- keys

pub asks-append : (id : ℕ) (xs ys : List Ask) (h : Host) → after_asks id (xs ++ ys) h ≡ after_asks id ys (after_asks id xs h)
asks-append id [] ys h = refl
asks-append id (x ∷ xs) ys h = asks-append id xs ys (after_ask h id x)

pub asks-system : (id : ℕ) (asks : List Ask) (h : Host) → (after_asks id asks h).system ≡ h.system
asks-system id [] h = refl
asks-system id (x ∷ xs) h = asks-system id xs (after_ask h id x)

offered-slot : (id : ℕ) (keys : List ℕ) (h : Host) (s : MachineState) → slot_at id h.slots ≡ Some s → slot_at id (after_asks id (key_asks keys) h).slots ≡ Some (keys_offered h.system keys s)
offered-slot id [] h s at = at
offered-slot id (key ∷ keys) h s at = offered-slot id keys (after_ask h id (Calls (Key key))) (serve h.system (Key key) s).state (open-slot h id (Key key) s at)

-- ---- the whole

open-part : (o : Option MachineState) (s : MachineState) (P : MachineState → Type 0) → o ≡ Some s → IfSome o P → P s
open-part o s P at k = subst (λ (x : Option MachineState). IfSome x P) at k

pub turn-served : (h h1 h2 h3 h4 h5 : Host) (id steps accepted : ℕ) (keys text list : List ℕ) (granted : ℕ × GrantStop) (look : Bool × WireEnd) (s : MachineState) →
    slot_at id h.slots ≡ Some s → h1 ≡ after_asks id (key_asks keys) h → accepted ≡ accepted_in keys (slot_at id h.slots) →
    IfSome (slot_at id h1.slots) (IsWorked id steps granted h1 h2) → IfSome (slot_at id h2.slots) (IsMoved id device.Console text h2 h3) →
    IfSome (slot_at id h3.slots) (IsMoved id device.List list h3 h4) → IfSome (slot_at id h4.slots) (IsSeen look h4 h5) →
    outcome h5 (Turned (record { accepted = accepted; executed = granted.0; why = granted.1; text = text; list = list; waiting = look.0; end = look.1 }))
    ≡ asked_slot h id (Turn id keys steps)
turn-served h h1 h2 h3 h4 h5 id steps accepted keys text list granted look s at keyed room works screen printer seen =
    let system = h.system in
    let s1 = keys_offered system keys s in
    let at1 : slot_at id h1.slots ≡ Some s1 = ap (λ (g : Host). slot_at id g.slots) keyed ∙ offered-slot id keys h s at in
    let sys1 : h1.system ≡ system = ap (λ (g : Host). g.system) keyed ∙ asks-system id (key_asks keys) h in
    let w = open-part (slot_at id h1.slots) s1 (IsWorked id steps granted h1 h2) at1 works in
    let g = granted_to_wait system steps s1 in
    let is : granted ≡ g = w.made_is ∙ ap (λ (d : Disk). granted_to_wait d steps s1) sys1 in
    let n : granted.0 ≡ g.0 = ap (λ (p : ℕ × GrantStop). p.0) is in
    let left = after system g.0 s1 in
    let at2 : slot_at id h2.slots ≡ Some left =
    worked-slot h1 h2 id granted.0 steps s1 at1 (ap (λ (p : ℕ × GrantStop). p.0) w.made_is) w.host ∙ ap₂ (λ (d : Disk) (k : ℕ). Some (after d k s1)) sys1 n in
    let a = open-part (slot_at id h2.slots) left (IsMoved id device.Console text h2 h3) at2 screen in
    let at3 = taken-slot h2 h3 id turn_bytes left at2 a.host in
    let b = open-part (slot_at id h3.slots) (taken turn_bytes left) (IsMoved id device.List list h3 h4) at3 printer in
    let rest = taken_list turn_bytes (taken turn_bytes left) in
    let at4 = listed-slot h3 h4 id turn_bytes (taken turn_bytes left) at3 b.host in
    let c = open-part (slot_at id h4.slots) rest (IsSeen look h4 h5) at4 seen in
    let host : h5 ≡ after_asks id (turn_asks system keys steps s) h =
    c.host ∙ b.host ∙ ap (λ (x : Host). after_ask x id (Calls (TakeList turn_bytes))) a.host
    ∙ ap (λ (x : Host). after_ask (after_ask x id (Calls (Take turn_bytes))) id (Calls (TakeList turn_bytes)))
    (w.host ∙ ap₂ (λ (x : Host) (k : ℕ). after_ask x id (Calls (Grant k))) keyed n)
    ∙ sym (asks-append id (key_asks keys) (Calls (Grant g.0) ∷ Calls (Take turn_bytes) ∷ Calls (TakeList turn_bytes) ∷ []) h) in
    let some : accepted ≡ accepted_of keys s = room ∙ ap (accepted_in keys) at in
    same-outcome host
    (ap (λ (k : ℕ). Turned (record { accepted = k; executed = granted.0; why = granted.1; text = text; list = list; waiting = look.0; end = look.1 })) some
    ∙ ap (λ (p : ℕ × GrantStop). Turned (record { accepted = accepted_of keys s; executed = p.0; why = p.1; text = text; list = list; waiting = look.0; end = look.1 })) is
    ∙ ap₂ (λ (x y : List ℕ). Turned (record { accepted = accepted_of keys s; executed = g.0; why = g.1; text = x; list = y; waiting = look.0; end = look.1 })) a.bytes_are b.bytes_are
    ∙ ap (λ (p : Bool × WireEnd). Turned (record { accepted = accepted_of keys s; executed = g.0; why = g.1; text = take turn_bytes left.session.console.screen; list = take turn_bytes left.session.console.printer; waiting = p.0; end = p.1 })) c.seen_is)
    ∙ ap (slot_served h id (Turn id keys steps)) (sym at)

-- ---- its parts, one after another

-- a request of an open slot
open-served : (h : Host) (id : ℕ) (r : WireAsked) (s : MachineState) → slot_at id h.slots ≡ Some s → asked_slot h id r ≡ outcome (after_asks id (asks_of h.system r s) h) (slot_answer h.system r s)
open-served h id r s at = ap (slot_served h id r) at

pub turn-parts : TurnsAreParts
turn-parts h slot keys steps s at =
    let system = h.system in
    let s1 = keys_offered system keys s in
    let h1 = after_asks slot (key_asks keys) h in
    let at1 : slot_at slot h1.slots ≡ Some s1 = offered-slot slot keys h s at in
    let sys1 : h1.system ≡ system = asks-system slot (key_asks keys) h in
    let g = granted_to_wait system steps s1 in
    let left = after system g.0 s1 in
    let h2 = after_ask h1 slot (Calls (Grant g.0)) in
    let known : g ≡ granted_to_wait h1.system steps s1 = ap (λ (d : Disk). granted_to_wait d steps s1) (sym sys1) in
    let at2 : slot_at slot h2.slots ≡ Some left =
    worked-slot h1 h2 slot g.0 steps s1 at1 (ap (λ (p : ℕ × GrantStop). p.0) known) refl ∙ ap (λ (d : Disk). Some (after d g.0 s1)) sys1 in
    let h3 = after_ask h2 slot (Calls (Take turn_bytes)) in
    let at3 = taken-slot h2 h3 slot turn_bytes left at2 refl in
    let h4 = after_ask h3 slot (Calls (TakeList turn_bytes)) in
    let at4 = listed-slot h3 h4 slot turn_bytes (taken turn_bytes left) at3 refl in
    let rest = taken_list turn_bytes (taken turn_bytes left) in
    let a1 : served h (KeyAsked slot keys) ≡ outcome h1 (Accepted (accepted_of keys s)) = open-served h slot (KeyAsked slot keys) s at in
    let a2 : served h1 (GrantAsked slot steps goal.Wait) ≡ outcome h2 (Granted g.0 g.1) =
    open-served h1 slot (GrantAsked slot steps goal.Wait) s1 at1
    ∙ ap (λ (p : ℕ × GrantStop). outcome (after_ask h1 slot (Calls (Grant p.0))) (Granted p.0 p.1)) (sym known) in
    let a3 : served h2 (TakeAsked slot turn_bytes) ≡ outcome h3 (Text (take turn_bytes left.session.console.screen)) = open-served h2 slot (TakeAsked slot turn_bytes) left at2 in
    let a4 : served h3 (ListTake slot turn_bytes) ≡ outcome h4 (Text (take turn_bytes left.session.console.printer)) = open-served h3 slot (ListTake slot turn_bytes) (taken turn_bytes left) at3 in
    let a5 : served h4 (LookAsked slot) ≡ outcome h4 (look_answer rest) = open-served h4 slot (LookAsked slot) rest at4 in
    let turned = open-served h slot (Turn slot keys steps) s at in
    record {
      turn = record {
        accepted = accepted_of keys s;
        executed = g.0;
        why = g.1;
        text = take turn_bytes left.session.console.screen;
        list = take turn_bytes left.session.console.printer;
        waiting = (seen_behind left).waiting;
        end = end_seen (seen_behind left).ended;
      };
      reply = ap (λ (x : Served). x.reply) turned;
      parts = record {
        look = look_seen rest.cpu (look_of rest);
        are = rw (a1, a2, a3, a4, a5) refl;
        waiting = refl;
        end = refl;
      };
      host = ap (λ (x : Served). x.host) turned ∙ asks-append slot (key_asks keys) (Calls (Grant g.0) ∷ Calls (Take turn_bytes) ∷ Calls (TakeList turn_bytes) ∷ []) h
          ∙ sym (
          ap (λ (x : Served). host_behind x.host (GrantAsked slot steps goal.Wait ∷ TakeAsked slot turn_bytes ∷ ListTake slot turn_bytes ∷ LookAsked slot ∷ [])) a1
          ∙ ap (λ (x : Served). host_behind x.host (TakeAsked slot turn_bytes ∷ ListTake slot turn_bytes ∷ LookAsked slot ∷ [])) a2
          ∙ ap (λ (x : Served). host_behind x.host (ListTake slot turn_bytes ∷ LookAsked slot ∷ [])) a3
          ∙ ap (λ (x : Served). host_behind x.host (LookAsked slot ∷ [])) a4
          ∙ ap (λ (x : Served). x.host) a5);
    }
