-- What a call leaves of a host.
use Rattle.std.proofs.Common.{◌≡◌, ℕ, List, sym, ap, ◌∙◌, subst, None}
use Rattle.cpm_machine.specs.Calls.{Call}
use Rattle.cpm_slots.specs.declared.event.Reply.{Reply}
use Rattle.cpm_slots.specs.declared.event.Reply.TheVariants as reply
use Rattle.cpm_slots.specs.declared.event.Refusal.TheVariants as refusal
use Rattle.cpm_slots.specs.Serving.{Ask, Calls}
use Rattle.cpm_slots.specs.Host.{Host, SlotState, slot_at, reply_at, after_ask, IsHost}
use Rattle.cpm_slots.specs.HostWithStore.{HostWithStore}
use Rattle.cpm_slots.specs.Index.{IsAtIndex, IsServed}
use Rattle.cpm_slots.proofs.OrderLaws.{IsHost-ask}
use Rattle.cpm_slots.proofs.IndexLaws.{refused-reply, refused-slots, served-reply, served-slots}

-- the host of what is seen with its store
pub same-host : {a b : HostWithStore} → a ≡ b → a.host ≡ b.host
same-host e = ap (λ (x : HostWithStore). x.host) e

-- a host with these slots
abbrev pub with_slots : Host → List SlotState → Host
with_slots h slots = record h { slots = slots }

-- what is asked of a slot that is not open is refused, and changes nothing
pub no-slot-reply : (h now : Host) (id : ℕ) (ask : Ask) → h ≡ now → slot_at id h.slots ≡ None → reply.Refused refusal.NoSuchSlot ≡ reply_at now id ask
no-slot-reply h now id ask e none = refused-reply h.system id ask h.slots none ∙ ap (λ g. reply_at g id ask) e

pub no-slot-host : (h now : Host) (id : ℕ) (ask : Ask) → h ≡ now → slot_at id h.slots ≡ None → now ≡ after_ask now id ask
no-slot-host h now id ask e none =
    sym e ∙ ap (with_slots h) (refused-slots h.system id ask h.slots none) ∙ ap (λ g. after_ask g id ask) e

-- a call at a place is one to the slot of the number
pub call-reply : (h now : Host) (id index : ℕ) (call : Call) (r : Reply) (slots : List SlotState) → h ≡ now → IsAtIndex id h.slots index → IsServed h.system call index r h.slots slots → r ≡ reply_at now id (Calls call)
call-reply h now id index call r slots e l k =
    served-reply h.system id index call r h.slots slots l k ∙ ap (λ g. reply_at g id (Calls call)) e

pub call-host : (h now : Host) (id index : ℕ) (call : Call) (r : Reply) (slots : List SlotState) → h ≡ now → IsHost h → IsAtIndex id h.slots index → IsServed h.system call index r h.slots slots → with_slots h slots ≡ after_ask now id (Calls call)
call-host h now id index call r slots e host l k =
    ap (with_slots h) (served-slots h.system id index call r h.slots slots host.ordered l k) ∙ ap (λ g. after_ask g id (Calls call)) e

pub call-keeps : (h : Host) (id index : ℕ) (call : Call) (r : Reply) (slots : List SlotState) → IsHost h → IsAtIndex id h.slots index → IsServed h.system call index r h.slots slots → IsHost (with_slots h slots)
call-keeps h id index call r slots host l k =
    subst (λ xs. IsHost (with_slots h xs)) (sym (served-slots h.system id index call r h.slots slots host.ordered l k)) (IsHost-ask h id (Calls call) host)
