-- No more steps are executed than are granted.
use Rattle.std.proofs.Common.{ℕ, ◌≤◌, Bool, true, false, List, [], ◌∷◌, sum_by, Option, Some, None, arith}
use Rattle.std.proofs.lemmas.List.Sums.{sum_by-cons}
use Rattle.cpm_geom.specs.Disk.{Disk}
use Rattle.cpm_machine.specs.MachineState.{MachineState}
use Rattle.cpm_machine.specs.Step.{after, can_step}
use Rattle.cpm_machine.specs.Serve.{executed, takes_key}
use Rattle.cpm_machine.specs.Until.{can_go_on, executed_until}
use Rattle.cpm_machine.specs.Calls.{Call, Key, Grant, GrantUntil, Take, TakeList, LookAt, Peek, served_key, serve}
use Rattle.cpm_machine.proofs.GrantLaws.{longest-is}
use Rattle.cpm_slots.specs.Serving.{Ask, Calls, Closes, reply_of, serve_slot}
use Rattle.cpm_slots.specs.Host.{Host, Happening, Opens, Forks, Restores, Asks, SlotReply, slot_at, reply_at, after_one, replies_told}
use Rattle.cpm_slots.specs.Laws.{executed_in, granted_in, granted_by}

executed-within : (system : Disk) (n : ℕ) (s : MachineState) → executed system n s ≤ n
unfolding executed
executed-within system n s = (longest-is (λ k. can_step (after system k s)) n).within

until-within : (system : Disk) (pc n : ℕ) (s : MachineState) → executed_until system pc n s ≤ n
unfolding executed_until
until-within system pc n s = (longest-is (λ k. can_go_on pc k (after system k s)) n).within

key-within : (b : Bool) (key : ℕ) (s : MachineState) → executed_in (reply_of (served_key b key s).answer) ≤ 0
key-within true key s = omega arith
key-within false key s = omega arith

call-within : (system : Disk) (call : Call) (s : MachineState) → executed_in (reply_of (serve system call s).answer) ≤ granted_in (Calls call)
unfolding serve
call-within system (Key key) s = key-within (takes_key s) key s
call-within system (Grant steps) s = executed-within system steps s
call-within system (GrantUntil steps pc) s = until-within system pc steps s
call-within system (Take room) s = omega arith
call-within system (TakeList room) s = omega arith
call-within system LookAt s = omega arith
call-within system (Peek address) s = omega arith

ask-within : (system : Disk) (ask : Ask) (o : Option MachineState) → executed_in (serve_slot system ask o).reply ≤ granted_in ask
unfolding serve_slot
ask-within system ask None = omega arith
ask-within system (Calls call) (Some s) = call-within system call s
ask-within system Closes (Some s) = omega arith

abbrev executed_by : SlotReply → ℕ
executed_by t = executed_in t.reply

pub within : (h : Host) (events : List Happening) → sum_by (λ t. executed_in t.reply) (replies_told events h) ≤ sum_by granted_by events
within h [] = omega arith
within h (Opens opening ∷ xs) =
    let rest = within (after_one h (Opens opening)) xs in
    let all = sum_by-cons granted_by (Opens opening) xs in
    omega arith
within h (Forks id ∷ xs) =
    let rest = within (after_one h (Forks id)) xs in
    let all = sum_by-cons granted_by (Forks id) xs in
    omega arith
within h (Restores bytes ∷ xs) =
    let rest = within (after_one h (Restores bytes)) xs in
    let all = sum_by-cons granted_by (Restores bytes) xs in
    omega arith
within h (Asks id ask ∷ xs) =
    let rest = within (after_one h (Asks id ask)) xs in
    let one = ask-within h.system ask (slot_at id h.slots) in
    let all = sum_by-cons granted_by (Asks id ask) xs in
    let said = sum_by-cons executed_by (record { id = id; reply = reply_at h id ask }) (replies_told xs (after_one h (Asks id ask))) in
    omega arith
