use Rattle.std.proofs.Common.{◌≡◌, ◌∙◌, ap, List, Option, None}
use Rattle.std.specs.Prelude.{slice_get, IfSome}
use Rattle.cpm_memory.specs.Contents.{Contents}
use Rattle.cpm_memory.specs.Frames.{memories}
use Rattle.cpm_machine.specs.Serve.{look_of}
use Rattle.cpm_machine.specs.Calls.{LookAt}
use Rattle.cpm_slots.specs.declared.event.Reply.TheVariants as reply
use Rattle.cpm_slots.specs.Serving.{Calls}
use Rattle.cpm_slots.specs.Host.{Host, slot_at}
use Rattle.cpm_slots.specs.Index.{IsAtIndex}
use Rattle.cpm_slots.specs.Slots.{slots_of}
use Rattle.cpm_slots.proofs.IndexLaws.{looked}
use Rattle.cpm_slots.proofs.CallLaws.{same-host, with_slots, no-slot-reply, no-slot-host, call-reply, call-host}
use Rattle.cpm_slots.proofs.host.Host.look.Goals as goal

pub returns-in-None-clause-reply : goal.returns-in-None-clause-reply
returns-in-None-clause-reply c =
    let s = c.self.inside in
    let m = memories s.store in
    let h : Host = record { system = s.system; frames = s.frames; openings = s.openings; slots = slots_of m s.slots.items } in
    let all : (m : List (Option Contents)) → slot_at c.args.id.0 (slots_of m s.slots.items) ≡ None = rw c.deref.ensures.value at c.in-None.ensures in
    no-slot-reply h c.args.self.now.host c.args.id.0 (Calls (LookAt)) (same-host c.self.view_is) (all m)

pub returns-in-None-clause-host : goal.returns-in-None-clause-host
returns-in-None-clause-host c =
    let s = c.self.inside in
    let m = memories s.store in
    let h : Host = record { system = s.system; frames = s.frames; openings = s.openings; slots = slots_of m s.slots.items } in
    let all : (m : List (Option Contents)) → slot_at c.args.id.0 (slots_of m s.slots.items) ≡ None = rw c.deref.ensures.value at c.in-None.ensures in
    no-slot-host h c.args.self.now.host c.args.id.0 (Calls (LookAt)) (same-host c.self.view_is) (all m)

pub returns-in-Some-clause-reply : goal.returns-in-Some-clause-reply
returns-in-Some-clause-reply c =
    let s = c.self.inside in
    let m = memories s.store in
    let slots = slots_of m s.slots.items in
    let h : Host = record { system = s.system; frames = s.frames; openings = s.openings; slots = slots } in
    let all : (m : List (Option Contents)) → IsAtIndex c.args.id.0 (slots_of m s.slots.items) c.in-Some.index = rw c.deref.ensures.value at c.in-Some.ensures in
    let seen : IfSome (slice_get slots c.in-Some.index) (λ x. c.look_at.result ≡ look_of x.state) = rw c.deref-in-Some.ensures.value at c.look_at.ensures.look in
    call-reply h c.args.self.now.host c.args.id.0 c.in-Some.index (LookAt) (reply.Looked c.look_at.result) slots (same-host c.self.view_is) (all m) (looked s.system c.in-Some.index c.look_at.result slots seen)

pub returns-in-Some-clause-host : goal.returns-in-Some-clause-host
returns-in-Some-clause-host c =
    let s = c.self.inside in
    let m = memories s.store in
    let slots = slots_of m s.slots.items in
    let h : Host = record { system = s.system; frames = s.frames; openings = s.openings; slots = slots } in
    let all : (m : List (Option Contents)) → IsAtIndex c.args.id.0 (slots_of m s.slots.items) c.in-Some.index = rw c.deref.ensures.value at c.in-Some.ensures in
    let seen : IfSome (slice_get slots c.in-Some.index) (λ x. c.look_at.result ≡ look_of x.state) = rw c.deref-in-Some.ensures.value at c.look_at.ensures.look in
    ap (λ x. with_slots h (slots_of (memories x) s.slots.items)) c.look_at.ensures.unchanged
    ∙ call-host h c.args.self.now.host c.args.id.0 c.in-Some.index (LookAt) (reply.Looked c.look_at.result) slots (same-host c.self.view_is) c.self.invariant.0 (all m) (looked s.system c.in-Some.index c.look_at.result slots seen)
