-- A list of events, event by event.
use Rattle.std.proofs.Common.{◌≡◌, ℕ, ◌==◌, true, false, List, [], ◌∷◌, length, map, filter, cond, if◌then◌else◌, take, refl, sym, ap, ◌∙◌, subst, Some}
use Rattle.cpm_slots.specs.declared.event.Event.{Event}
use Rattle.cpm_slots.specs.declared.event.Reply.{Reply}
use Rattle.cpm_machine.specs.MachineState.{MachineState}
use Rattle.cpm_machine.specs.Calls.{no_account}
use Rattle.cpm_slots.specs.Serving.{ask_of}
use Rattle.cpm_slots.specs.Account.{account_by, slot_after, replies_of, IsRunAlone}
use Rattle.cpm_slots.specs.Host.{Host, SlotReply, happening_of, slot_at, reply_at, after_ask, host_after, own, replies_told, told_of, replies_to}
use Rattle.cpm_slots.proofs.AccountLaws.{alone-asked}
use Rattle.cpm_slots.proofs.EventLaws.{slot-asked, told-asked}

-- what is replied to events
abbrev pub replies_by : List Event → Host → List Reply
replies_by events h = map (λ t. t.reply) (replies_told (map happening_of events) h)

-- the replies of one slot are what it is told
pub replies_to-told : (id : ℕ) (events : List Event) (h : Host) (replies : List Reply) → take (length events) replies ≡ replies_by events h → replies_to id events replies ≡ told_of id (replies_told (map happening_of events) h)
replies_to-told id [] h replies e = refl
replies_to-told id (x ∷ xs) h [] e = cc
replies_to-told id (x ∷ xs) h (r ∷ rs) e =
    let ask = ask_of x.request in
    let first : r ≡ reply_at h x.slot.0 ask = cc in
    let rest : take (length xs) rs ≡ replies_by xs (after_ask h x.slot.0 ask) = cc in
    let more = replies_to-told id xs (after_ask h x.slot.0 ask) rs rest in
    let ts = replies_told (map happening_of xs) (after_ask h x.slot.0 ask) in
    elim (x.slot.0 == id) as (λ b. (if b then r ∷ replies_to id xs rs else replies_to id xs rs) ≡ map (λ (t : SlotReply). t.reply) (cond b (record { id = x.slot.0; reply = reply_at h x.slot.0 ask } ∷ filter (λ t. t.id == id) ts) (filter (λ t. t.id == id) ts)))
    [ true ↦ rw (first, more) refl | false ↦ more ]

-- and so those of the slot by itself, by its own events
pub own-replies : (id : ℕ) (events : List Event) (h : Host) (replies : List Reply) → take (length events) replies ≡ replies_by events h → replies_to id events replies ≡ replies_of h.system (own id (map happening_of events)) (slot_at id h.slots)
own-replies id events h replies e = replies_to-told id events h replies e ∙ told-asked id events h

-- a slot that was open is the machine run alone from there, by the account of its own replies
pub own-account : (id : ℕ) (events : List Event) (h now : Host) (replies : List Reply) (start : MachineState) → take (length events) replies ≡ replies_by events h → now ≡ host_after (map happening_of events) h → slot_at id h.slots ≡ Some start →
    IsRunAlone h.system start (account_by no_account (own id (map happening_of events)) (replies_to id events replies)) (slot_at id now.slots)
own-account id events h now replies start e after at =
    let asks = own id (map happening_of events) in
    let replied : replies_to id events replies ≡ replies_of h.system asks (Some start) = own-replies id events h replies e ∙ ap (replies_of h.system asks) at in
    let left : slot_at id now.slots ≡ slot_after h.system asks (Some start) = ap (λ (g : Host). slot_at id g.slots) after ∙ slot-asked id events h ∙ ap (slot_after h.system asks) at in
    subst (λ rs. IsRunAlone h.system start (account_by no_account asks rs) (slot_at id now.slots)) (sym replied)
    (subst (IsRunAlone h.system start (account_by no_account asks (replies_of h.system asks (Some start)))) (sym left) (alone-asked h.system asks start))
