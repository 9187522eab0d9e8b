use Rattle.std.proofs.Common.{◌≡◌, ◌∙◌, List, Option, None}
use Rattle.cpm_memory.specs.Contents.{Contents}
use Rattle.cpm_memory.specs.Frames.{memories}
use Rattle.cpm_slots.specs.declared.event.Reply.TheVariants as reply
use Rattle.cpm_slots.specs.Serving.{Calls, grant_call}
use Rattle.cpm_slots.specs.Host.{Host, slot_at}
use Rattle.cpm_slots.specs.Index.{IsAtIndex, IsServed}
use Rattle.cpm_slots.specs.Slots.{slots_of}
use Rattle.cpm_slots.proofs.CallLaws.{same-host, no-slot-reply, no-slot-host, call-reply, call-host, call-keeps}
use Rattle.cpm_slots.proofs.host.Host.grant_to.Goals as goal

pub returns-in-None-clause-reply : goal.returns-in-None-clause-reply
returns-in-None-clause-reply c =
    let s = c.self.inside in
    let m = memories s.store in
    let h : Host = record { system = s.system; frames = s.frames; openings = s.openings; slots = slots_of m s.slots.items } in
    let all : (m : List (Option Contents)) → slot_at c.args.id.0 (slots_of m s.slots.items) ≡ None = rw c.deref.ensures.value at c.in-None.ensures in
    no-slot-reply h c.args.self.now.host c.args.id.0 (Calls (grant_call c.args.stop c.args.steps)) (same-host c.self.view_is) (all m)

pub returns-in-None-clause-host : goal.returns-in-None-clause-host
returns-in-None-clause-host c =
    let s = c.self.inside in
    let m = memories s.store in
    let h : Host = record { system = s.system; frames = s.frames; openings = s.openings; slots = slots_of m s.slots.items } in
    let all : (m : List (Option Contents)) → slot_at c.args.id.0 (slots_of m s.slots.items) ≡ None = rw c.deref.ensures.value at c.in-None.ensures in
    no-slot-host h c.args.self.now.host c.args.id.0 (Calls (grant_call c.args.stop c.args.steps)) (same-host c.self.view_is) (all m)

pub returns-in-Some-clause-reply : goal.returns-in-Some-clause-reply
returns-in-Some-clause-reply c =
    let s = c.self.inside in
    let m = memories s.store in
    let h : Host = record { system = s.system; frames = s.frames; openings = s.openings; slots = slots_of m s.slots.items } in
    let all : (m : List (Option Contents)) → IsAtIndex c.args.id.0 (slots_of m s.slots.items) c.in-Some.index = rw c.deref.ensures.value at c.in-Some.ensures in
    let served : IsServed s.system (grant_call c.args.stop c.args.steps) c.in-Some.index (reply.Granted c.grant_at.result) (slots_of m s.slots.items) (slots_of (memories c.grant_at.new.store) c.grant_at.new.slots.items) = rw c.image.ensures at c.grant_at.ensures.served in
    call-reply h c.args.self.now.host c.args.id.0 c.in-Some.index (grant_call c.args.stop c.args.steps) (reply.Granted c.grant_at.result) (slots_of (memories c.grant_at.new.store) c.grant_at.new.slots.items) (same-host c.self.view_is) (all m) served

pub returns-in-Some-clause-host : goal.returns-in-Some-clause-host
returns-in-Some-clause-host c =
    let s = c.self.inside in
    let m = memories s.store in
    let h : Host = record { system = s.system; frames = s.frames; openings = s.openings; slots = slots_of m s.slots.items } in
    let all : (m : List (Option Contents)) → IsAtIndex c.args.id.0 (slots_of m s.slots.items) c.in-Some.index = rw c.deref.ensures.value at c.in-Some.ensures in
    let served : IsServed s.system (grant_call c.args.stop c.args.steps) c.in-Some.index (reply.Granted c.grant_at.result) (slots_of m s.slots.items) (slots_of (memories c.grant_at.new.store) c.grant_at.new.slots.items) = rw c.image.ensures at c.grant_at.ensures.served in
    call-host h c.args.self.now.host c.args.id.0 c.in-Some.index (grant_call c.args.stop c.args.steps) (reply.Granted c.grant_at.result) (slots_of (memories c.grant_at.new.store) c.grant_at.new.slots.items) (same-host c.self.view_is) c.self.invariant.0 (all m) served

pub invariant_of-self : goal.invariant_of-self
invariant_of-self c =
    let s = c.self.inside in
    let m = memories s.store in
    let h : Host = record { system = s.system; frames = s.frames; openings = s.openings; slots = slots_of m s.slots.items } in
    let all : (m : List (Option Contents)) → IsAtIndex c.args.id.0 (slots_of m s.slots.items) c.in-Some.index = rw c.deref.ensures.value at c.in-Some.ensures in
    let served : IsServed s.system (grant_call c.args.stop c.args.steps) c.in-Some.index (reply.Granted c.grant_at.result) (slots_of m s.slots.items) (slots_of (memories c.grant_at.new.store) c.grant_at.new.slots.items) = rw c.image.ensures at c.grant_at.ensures.served in
    (call-keeps h c.args.id.0 c.in-Some.index (grant_call c.args.stop c.args.steps) (reply.Granted c.grant_at.result) (slots_of (memories c.grant_at.new.store) c.grant_at.new.slots.items) c.self.invariant.0 (all m) served, c.grant_at.ensures.have_tables, c.grant_at.ensures.frames ∙ c.self.invariant.2, c.grant_at.ensures.store, c.grant_at.ensures.cached)
