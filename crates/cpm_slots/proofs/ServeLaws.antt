-- What the code does to a runner is what the machine's serving does.
use Rattle.std.proofs.Common.{◌≡◌, ℕ, Bool, ◌&&◌, true, false, refl, Option, Some, None, List, ◌++◌, length, take, drop, min, sym, ap, ◌∙◌, subst, arith}
use Rattle.std.specs.Prelude.{⊤, Result, Ok, Err, IfOk, IfErr}
use Rattle.std.proofs.lemmas.List.{length-take}
use Rattle.std.proofs.Math.Seq.{take-append_seam}
use Rattle.cpm_geom.specs.Disk.{Disk}
use Rattle.cpm_console.specs.Terminal.{Terminal, pressed, waiting_on, with_waiting}
use Rattle.cpm_console.specs.declared.device.Device.{Device}
use Rattle.cpm_console.specs.declared.device.Device.TheVariants as device
use Rattle.cpm_machine.specs.declared.reply.Granted.{Granted}
use Rattle.cpm_machine.specs.MachineState.{MachineState}
use Rattle.std.proofs.lemmas.Bool.{eq-eqb}
use Rattle.cpm_machine.specs.Laws.{IsLongest}
use Rattle.cpm_machine.specs.Step.{after, can_step}
use Rattle.cpm_machine.specs.ToWait.{can_work, executed_to_wait}
use Rattle.cpm_machine.specs.declared.reply.Why.TheVariants.{All}
use Rattle.cpm_machine.proofs.GrantLaws.{longest-is, longest-unique}
use Rattle.cpm_machine.specs.Serve.{executed, longest, takes_key}
use Rattle.cpm_machine.specs.Calls.{Key, Grant, Bytes, Grants, ServedCall, served_key, serve}
use Rattle.cpm_slots.specs.declared.event.Reply.TheVariants as reply
use Rattle.cpm_slots.specs.declared.event.Refusal.{Refusal}
use Rattle.cpm_slots.specs.declared.event.Refusal.TheVariants as refusal
use Rattle.cpm_slots.specs.Serving.{all_granted, reply_of, take_call, grant_call, executed_to, why_to}
use Rattle.cpm_slots.specs.Host.{key_reply}
use Rattle.cpm_slots.specs.Index.{Serves}

-- a key that was pressed
pub key-result : (system : Disk) (key : ℕ) (s : MachineState) (r : Result ⊤ Refusal) (now : Terminal) →
    IfOk r (λ _. (takes_key s ≡ true) × (now ≡ pressed s.session.console key)) →
    IfErr r (λ fault. (fault ≡ refusal.KeysFull) × (takes_key s ≡ false) × (now ≡ s.session.console)) →
    Serves system (Key key) (key_reply r) s (record s { session = record s.session { console = now } })
unfolding serve
key-result system key s (Ok done) now accepted refused = record {
  replied = ap (λ b. reply_of (served_key b key s).answer) (sym accepted.0);
  state = ap (λ con. record s { session = record s.session { console = con } }) accepted.1 ∙ ap (λ b. (served_key b key s).state) (sym accepted.0);
}
key-result system key s (Err fault) now accepted refused = record {
  replied = ap (λ (x : Refusal). reply.Refused x) refused.0 ∙ ap (λ b. reply_of (served_key b key s).answer) (sym refused.1);
  state = ap (λ con. record s { session = record s.session { console = con } }) refused.2 ∙ ap (λ b. (served_key b key s).state) (sym refused.1);
}

pub taken-front : (n k : ℕ) (xs ys : List ℕ) → k ≡ min n (length xs) → take k (take k xs ++ ys) ≡ take (min n (length xs)) xs
taken-front n k xs ys h =
    let long : length (take k xs) ≡ k = omega (arith, length-take k xs) in
    let P : ℕ → Type 0 = λ m. take m (take k xs ++ ys) ≡ take k xs in
    subst P long (take-append_seam (take k xs) ys) ∙ ap (λ m. take m xs) h

-- the state after up to so many bytes of a device were taken
abbrev pub taken_from : Device → ℕ → MachineState → MachineState
taken_from on room s =
    let waits = waiting_on on s.session.console in
    record s { session = record s.session { console = with_waiting on (drop (min room (length waits)) waits) s.session.console } }

-- bytes that were taken into some room
pub serve-take : (system : Disk) (on : Device) (room : ℕ) (s : MachineState) →
    let waits = waiting_on on s.session.console in
    let served : ServedCall = record { answer = Bytes (take (min room (length waits)) waits); state = taken_from on room s } in
    serve system (take_call on room) s ≡ served
unfolding serve
serve-take system device.Console room s = refl
serve-take system device.List room s = refl

pub takes : (system : Disk) (on : Device) (room k : ℕ) (out rest : List ℕ) (s : MachineState) (now : Terminal) → k ≡ min room (length (waiting_on on s.session.console)) →
    out ≡ take k (waiting_on on s.session.console) ++ rest → now ≡ with_waiting on (drop k (waiting_on on s.session.console)) s.session.console →
    Serves system (take_call on room) (reply.Bytes (record { items = take k out })) s (record s { session = record s.session { console = now } })
takes system on room k out rest s now e h is =
    let waits = waiting_on on s.session.console in
    record {
      replied = ap (λ bytes. reply.Bytes (record { items = bytes })) (ap (take k) h ∙ taken-front room k waits rest e)
          ∙ ap (λ (x : ServedCall). reply_of x.answer) (sym (serve-take system on room s));
      state = ap (λ con. record s { session = record s.session { console = con } }) (is ∙ ap (λ n. with_waiting on (drop n waits) s.session.console) e)
          ∙ ap (λ (x : ServedCall). x.state) (sym (serve-take system on room s));
    }

-- steps that were executed
serve-grant : (system : Disk) (stop : Option ℕ) (steps : ℕ) (s : MachineState) →
    let k = executed_to system stop steps s in
    let made : ServedCall = record { answer = Grants (record { executed = k; why = why_to stop steps k (after system k s) }); state = after system k s } in
    serve system (grant_call stop steps) s ≡ made
unfolding serve
serve-grant system None steps s = refl
serve-grant system (Some pc) steps s = refl

pub grants : (system : Disk) (stop : Option ℕ) (steps : ℕ) (g : Granted) (s now : MachineState) → g.executed ≡ executed_to system stop steps s → now ≡ after system g.executed s → g.why ≡ why_to stop steps g.executed now →
    Serves system (grant_call stop steps) (reply.Granted g) s now
grants system stop steps g s now e is w =
    let k = executed_to system stop steps s in
    let state : now ≡ after system k s = is ∙ ap (λ n. after system n s) e in
    let reason : g.why ≡ why_to stop steps k (after system k s) = w ∙ ap (λ n. why_to stop steps n now) e ∙ ap (why_to stop steps k) state in
    record {
      replied = ap (λ (x : Granted). reply.Granted x) (ap (λ n. let x : Granted = record { executed = n; why = g.why } in x) e ∙ ap (λ r. let x : Granted = record { executed = k; why = r } in x) reason)
          ∙ ap (λ (x : ServedCall). reply_of x.answer) (sym (serve-grant system stop steps s));
      state = state ∙ ap (λ (x : ServedCall). x.state) (sym (serve-grant system stop steps s));
    }

-- steps that can be made and wait for no key can be made
and-left : (a b : Bool) → a && b ≡ true → a ≡ true
and-left true b h = refl
and-left false b h = h

all-made : (system : Disk) (steps k : ℕ) (s : MachineState) → k ≡ executed_to_wait system steps s → k ≡ executed system k s
unfolding executed executed_to_wait
all-made system steps k s e =
    let test : ℕ → Bool = λ i. can_step (after system i s) in
    let works : ℕ → Bool = λ i. can_work (after system i s) in
    let is : IsLongest test k k = record {
      within = omega arith;
      each = λ i below. and-left (can_step (after system i s)) _ ((longest-is works steps).each i (rw e at below));
      greatest = λ below. absurd (omega (arith, below));
    } in
    longest-unique test k k (longest test k) is (longest-is test k)

-- what a grant up to a wait executes is a grant of so many steps
pub works : (system : Disk) (steps k : ℕ) (s now : MachineState) → k ≡ executed_to_wait system steps s → now ≡ after system k s → Serves system (Grant k) (all_granted k) s now
works system steps k s now executed state =
    grants system None k (record { executed = k; why = All }) s now (all-made system steps k s executed) state (rw (eq-eqb k k refl) refl)
