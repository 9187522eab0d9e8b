-- A slot stays the machine alone, by the account of its replies.
use Rattle.std.proofs.Common.{◌≡◌, List, [], ◌∷◌, Option, Some, None, refl, sym, ap, ◌∙◌, subst}
use Rattle.std.specs.Prelude.{IfSome}
use Rattle.cpm_geom.specs.Disk.{Disk}
use Rattle.cpm_machine.specs.MachineState.{MachineState}
use Rattle.cpm_machine.specs.Calls.{Call, CallAnswer, Accepted, KeysFull, Grants, Bytes, Looked, Peeked, Account, no_account, entered, serve, state_after, account_after}
use Rattle.cpm_machine.proofs.AloneLaws.{alone-after}
use Rattle.cpm_slots.specs.Serving.{Ask, Calls, Closes, reply_of, serve_slot}
use Rattle.cpm_slots.specs.Account.{answer_of, account_by, slot_after, replies_of, IsRunAlone}
use Rattle.cpm_slots.proofs.EventLaws.{slot_after-none}

-- no answer is lost in its reply
answer-reply : (x : CallAnswer) → answer_of (reply_of x) ≡ x
answer-reply Accepted = refl
answer-reply KeysFull = refl
answer-reply (Grants granted) = refl
answer-reply (Bytes bytes) = refl
answer-reply (Looked look) = refl
answer-reply (Peeked byte) = refl

-- what was asked while the slot stayed open were calls of its machine
record IsCalled (system : Disk) (asks : List Ask) (a : Account) (start : MachineState) (now : MachineState) : Type 0 where
  calls : List Call
  account : account_by a asks (replies_of system asks (Some start)) ≡ account_after system calls a start
  state : now ≡ state_after system calls start

called : (system : Disk) (asks : List Ask) (a : Account) (start : MachineState) → IfSome (slot_after system asks (Some start)) (IsCalled system asks a start)
unfolding serve_slot
called system [] a start = record { calls = []; account = refl; state = refl }
called system (Calls call ∷ asks) a start =
    let served = serve system call start in
    let same : entered a call (answer_of (reply_of served.answer)) ≡ entered a call served.answer = ap (entered a call) (answer-reply served.answer) in
    weaker (slot_after system asks (Some served.state)) _ _
    (λ now k. record {
      calls = call ∷ k.calls;
      account = ap (λ b. account_by b asks (replies_of system asks (Some served.state))) same ∙ k.account;
      state = k.state;
    })
    (called system asks (entered a call served.answer) served.state)
  where
    weaker : (o : Option MachineState) (P Q : MachineState → Type 0) → ((s : MachineState) → P s → Q s) → IfSome o P → IfSome o Q
    weaker None P Q f h = tt
    weaker (Some s) P Q f h = f s h
called system (Closes ∷ asks) a start = subst (λ o. IfSome o (IsCalled system (Closes ∷ asks) a start)) (sym (slot_after-none system asks)) tt

IsAlone-called : (system : Disk) (asks : List Ask) (start : MachineState) (now : Option MachineState) → IfSome now (IsCalled system asks no_account start) → IsRunAlone system start (account_by no_account asks (replies_of system asks (Some start))) now
IsAlone-called system asks start None h = tt
IsAlone-called system asks start (Some s) h =
    rw (h.account, h.state) (alone-after system h.calls start)

pub alone-asked : (system : Disk) (asks : List Ask) (start : MachineState) → IsRunAlone system start (account_by no_account asks (replies_of system asks (Some start))) (slot_after system asks (Some start))
alone-asked system asks start = IsAlone-called system asks start (slot_after system asks (Some start)) (called system asks no_account start)
