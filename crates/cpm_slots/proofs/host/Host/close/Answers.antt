use Rattle.std.proofs.Common.{◌≡◌, ◌∙◌, List, Option, None}
use Rattle.cpm_memory.specs.Contents.{Contents}
use Rattle.cpm_memory.specs.Frames.{memories}
use Rattle.cpm_slots.specs.Serving.{Closes}
use Rattle.cpm_slots.specs.Host.{Host, slot_at}
use Rattle.cpm_slots.specs.Index.{IsAtIndex}
use Rattle.cpm_slots.specs.Slots.{slots_of}
use Rattle.cpm_slots.proofs.CallLaws.{same-host, no-slot-reply, no-slot-host}
use Rattle.cpm_slots.proofs.CloseHost.{close-reply, close-host, close-keeps}
use Rattle.cpm_slots.proofs.host.Host.close.Goals as goal

pub returns-in-None-clause-reply : goal.returns-in-None-clause-reply
returns-in-None-clause-reply c =
    let s = c.self.inside in
    let m = memories s.store in
    let h : Host = record { system = s.system; frames = s.frames; openings = s.openings; slots = slots_of m s.slots.items } in
    let all : (m : List (Option Contents)) → slot_at c.args.id.0 (slots_of m s.slots.items) ≡ None = rw c.deref.ensures.value at c.in-None.ensures in
    no-slot-reply h c.args.self.now.host c.args.id.0 Closes (same-host c.self.view_is) (all m)

pub returns-in-None-clause-host : goal.returns-in-None-clause-host
returns-in-None-clause-host c =
    let s = c.self.inside in
    let m = memories s.store in
    let h : Host = record { system = s.system; frames = s.frames; openings = s.openings; slots = slots_of m s.slots.items } in
    let all : (m : List (Option Contents)) → slot_at c.args.id.0 (slots_of m s.slots.items) ≡ None = rw c.deref.ensures.value at c.in-None.ensures in
    no-slot-host h c.args.self.now.host c.args.id.0 Closes (same-host c.self.view_is) (all m)

pub returns-in-Some-clause-reply : goal.returns-in-Some-clause-reply
returns-in-Some-clause-reply c =
    let s = c.self.inside in
    let m = memories s.store in
    let h : Host = record { system = s.system; frames = s.frames; openings = s.openings; slots = slots_of m s.slots.items } in
    let all : (m : List (Option Contents)) → IsAtIndex c.args.id.0 (slots_of m s.slots.items) c.in-Some.index = rw c.deref.ensures.value at c.in-Some.ensures in
    close-reply h c.args.self.now.host c.args.id.0 c.in-Some.index (same-host c.self.view_is) (all m)

pub returns-in-Some-clause-host : goal.returns-in-Some-clause-host
returns-in-Some-clause-host c =
    let s = c.self.inside in
    let m = memories s.store in
    let h : Host = record { system = s.system; frames = s.frames; openings = s.openings; slots = slots_of m s.slots.items } in
    let all : (m : List (Option Contents)) → IsAtIndex c.args.id.0 (slots_of m s.slots.items) c.in-Some.index = rw c.deref.ensures.value at c.in-Some.ensures in
    close-host h c.args.self.now.host c.args.id.0 c.in-Some.index (slots_of (memories c.close_at.new.store) c.close_at.new.slots.items) (same-host c.self.view_is) c.self.invariant.0 (all m) c.close_at.ensures.slots

pub invariant_of-self : goal.invariant_of-self
invariant_of-self c =
    let s = c.self.inside in
    let m = memories s.store in
    let h : Host = record { system = s.system; frames = s.frames; openings = s.openings; slots = slots_of m s.slots.items } in
    let all : (m : List (Option Contents)) → IsAtIndex c.args.id.0 (slots_of m s.slots.items) c.in-Some.index = rw c.deref.ensures.value at c.in-Some.ensures in (
      close-keeps h c.args.id.0 c.in-Some.index (slots_of (memories c.close_at.new.store) c.close_at.new.slots.items) c.self.invariant.0 (all m) c.close_at.ensures.slots,
      c.close_at.ensures.have_tables,
      c.close_at.ensures.frames ∙ c.self.invariant.2,
      c.close_at.ensures.store,
      c.close_at.ensures.cached,
    )
