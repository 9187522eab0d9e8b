use Rattle.std.proofs.Common.{◌≡◌, ◌∙◌, sym, List, Option, None}
use Rattle.std.specs.Prelude.{slice_get, IfSome}
use Rattle.cpm_memory.specs.Contents.{Contents, byte_at}
use Rattle.cpm_memory.specs.Frames.{memories}
use Rattle.cpm_machine.specs.Calls.{Peek}
use Rattle.cpm_slots.specs.declared.event.Reply.TheVariants as reply
use Rattle.cpm_slots.specs.Serving.{Calls}
use Rattle.cpm_slots.specs.Host.{Host, slot_at}
use Rattle.cpm_slots.specs.Index.{IsAtIndex}
use Rattle.cpm_slots.specs.Slots.{slots_of}
use Rattle.cpm_slots.proofs.IndexLaws.{peeked}
use Rattle.cpm_slots.proofs.CallLaws.{same-host, no-slot-reply, no-slot-host, call-reply, call-host}
use Rattle.cpm_slots.proofs.host.Host.peek.Goals as goal

pub returns-in-None-clause-reply : goal.returns-in-None-clause-reply
returns-in-None-clause-reply c =
    let s = c.self.inside in
    let m = memories s.store in
    let h : Host = record { system = s.system; frames = s.frames; openings = s.openings; slots = slots_of m s.slots.items } in
    let all : (m : List (Option Contents)) → slot_at c.args.id.0 (slots_of m s.slots.items) ≡ None = rw c.deref.ensures.value at c.in-None.ensures in
    no-slot-reply h c.args.self.now.host c.args.id.0 (Calls (Peek c.args.address)) (same-host c.self.view_is) (all m)

pub returns-in-None-clause-unchanged : goal.returns-in-None-clause-unchanged
returns-in-None-clause-unchanged c =
    let s = c.self.inside in
    let m = memories s.store in
    let h : Host = record { system = s.system; frames = s.frames; openings = s.openings; slots = slots_of m s.slots.items } in
    let all : (m : List (Option Contents)) → slot_at c.args.id.0 (slots_of m s.slots.items) ≡ None = rw c.deref.ensures.value at c.in-None.ensures in
    sym (no-slot-host h c.args.self.now.host c.args.id.0 (Calls (Peek c.args.address)) (same-host c.self.view_is) (all m))

pub returns-in-Some-clause-reply : goal.returns-in-Some-clause-reply
returns-in-Some-clause-reply c =
    let s = c.self.inside in
    let m = memories s.store in
    let slots = slots_of m s.slots.items in
    let h : Host = record { system = s.system; frames = s.frames; openings = s.openings; slots = slots } in
    let all : (m : List (Option Contents)) → IsAtIndex c.args.id.0 (slots_of m s.slots.items) c.in-Some.index = rw c.deref.ensures.value at c.in-Some.ensures in
    let seen : IfSome (slice_get slots c.in-Some.index) (λ x. c.peek_at.result ≡ byte_at x.state.memory c.args.address) = rw c.deref-in-Some.ensures.value at c.peek_at.ensures in
    call-reply h c.args.self.now.host c.args.id.0 c.in-Some.index (Peek c.args.address) (reply.Peeked c.peek_at.result) slots (same-host c.self.view_is) (all m) (peeked s.system c.in-Some.index c.args.address c.peek_at.result slots seen)

pub returns-in-Some-clause-unchanged : goal.returns-in-Some-clause-unchanged
returns-in-Some-clause-unchanged c =
    let s = c.self.inside in
    let m = memories s.store in
    let slots = slots_of m s.slots.items in
    let h : Host = record { system = s.system; frames = s.frames; openings = s.openings; slots = slots } in
    let all : (m : List (Option Contents)) → IsAtIndex c.args.id.0 (slots_of m s.slots.items) c.in-Some.index = rw c.deref.ensures.value at c.in-Some.ensures in
    let seen : IfSome (slice_get slots c.in-Some.index) (λ x. c.peek_at.result ≡ byte_at x.state.memory c.args.address) = rw c.deref-in-Some.ensures.value at c.peek_at.ensures in
    sym (call-host h c.args.self.now.host c.args.id.0 c.in-Some.index (Peek c.args.address) (reply.Peeked c.peek_at.result) slots (same-host c.self.view_is) c.self.invariant.0 (all m) (peeked s.system c.in-Some.index c.args.address c.peek_at.result slots seen)) ∙ (same-host c.self.view_is)
