use Rattle.std.proofs.Common.{◌≡◌, length, take, List, Option, None}
use Rattle.cpm_memory.specs.Contents.{Contents}
use Rattle.cpm_memory.specs.Frames.{memories}
use Rattle.cpm_slots.specs.declared.event.Reply.TheVariants as reply
use Rattle.cpm_slots.specs.Serving.{Calls, take_call}
use Rattle.cpm_slots.specs.Host.{Host, slot_at}
use Rattle.cpm_slots.specs.Index.{IsAtIndex}
use Rattle.cpm_slots.specs.Slots.{slots_of}
use Rattle.cpm_slots.proofs.CallLaws.{same-host, no-slot-reply, no-slot-host, call-reply, call-host, call-keeps}
use Rattle.cpm_slots.proofs.host.Host.take_from.Goals as goal

pub returns-in-None-clause-reply : goal.returns-in-None-clause-reply
returns-in-None-clause-reply c =
    let s = c.self.inside in
    let m = memories s.store in
    let h : Host = record { system = s.system; frames = s.frames; openings = s.openings; slots = slots_of m s.slots.items } in
    let all : (m : List (Option Contents)) → slot_at c.args.id.0 (slots_of m s.slots.items) ≡ None = rw c.deref.ensures.value at c.in-None.ensures in
    no-slot-reply h c.args.self.now.host c.args.id.0 (Calls (take_call c.args.device (length c.args.out.now))) (same-host c.self.view_is) (all m)

pub returns-in-None-clause-host : goal.returns-in-None-clause-host
returns-in-None-clause-host c =
    let s = c.self.inside in
    let m = memories s.store in
    let h : Host = record { system = s.system; frames = s.frames; openings = s.openings; slots = slots_of m s.slots.items } in
    let all : (m : List (Option Contents)) → slot_at c.args.id.0 (slots_of m s.slots.items) ≡ None = rw c.deref.ensures.value at c.in-None.ensures in
    no-slot-host h c.args.self.now.host c.args.id.0 (Calls (take_call c.args.device (length c.args.out.now))) (same-host c.self.view_is) (all m)

pub returns-in-Some-clause-reply : goal.returns-in-Some-clause-reply
returns-in-Some-clause-reply c =
    let s = c.self.inside in
    let m = memories s.store in
    let h : Host = record { system = s.system; frames = s.frames; openings = s.openings; slots = slots_of m s.slots.items } in
    let all : (m : List (Option Contents)) → IsAtIndex c.args.id.0 (slots_of m s.slots.items) c.in-Some.index = rw c.deref.ensures.value at c.in-Some.ensures in
    call-reply h c.args.self.now.host c.args.id.0 c.in-Some.index (take_call c.args.device (length c.args.out.now)) (reply.Bytes (record { items = take c.take_at.result c.take_at.new.out })) (slots_of m c.take_at.new.slots.items) (same-host c.self.view_is) (all m) (c.take_at.ensures.served s.system m)

pub returns-in-Some-clause-host : goal.returns-in-Some-clause-host
returns-in-Some-clause-host c =
    let s = c.self.inside in
    let m = memories s.store in
    let h : Host = record { system = s.system; frames = s.frames; openings = s.openings; slots = slots_of m s.slots.items } in
    let all : (m : List (Option Contents)) → IsAtIndex c.args.id.0 (slots_of m s.slots.items) c.in-Some.index = rw c.deref.ensures.value at c.in-Some.ensures in
    call-host h c.args.self.now.host c.args.id.0 c.in-Some.index (take_call c.args.device (length c.args.out.now)) (reply.Bytes (record { items = take c.take_at.result c.take_at.new.out })) (slots_of m c.take_at.new.slots.items) (same-host c.self.view_is) c.self.invariant.0 (all m) (c.take_at.ensures.served s.system m)

pub invariant_of-self : goal.invariant_of-self
invariant_of-self c =
    let s = c.self.inside in
    let m = memories s.store in
    let h : Host = record { system = s.system; frames = s.frames; openings = s.openings; slots = slots_of m s.slots.items } in
    let all : (m : List (Option Contents)) → IsAtIndex c.args.id.0 (slots_of m s.slots.items) c.in-Some.index = rw c.deref.ensures.value at c.in-Some.ensures in
    (call-keeps h c.args.id.0 c.in-Some.index (take_call c.args.device (length c.args.out.now)) (reply.Bytes (record { items = take c.take_at.result c.take_at.new.out })) (slots_of m c.take_at.new.slots.items) c.self.invariant.0 (all m) (c.take_at.ensures.served s.system m), c.take_at.ensures.have_tables m c.self.invariant.1, c.self.invariant.2, c.self.invariant.3, c.take_at.ensures.cached m s.store.stamps c.self.invariant.4)
