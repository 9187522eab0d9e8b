use Rattle.std.proofs.Common.{◌∙◌, List, Option}
use Rattle.cpm_memory.specs.Contents.{Contents}
use Rattle.cpm_memory.specs.Frames.{memories}
use Rattle.cpm_machine.specs.Calls.{Grant}
use Rattle.cpm_slots.specs.Serving.{all_granted}
use Rattle.cpm_slots.specs.Host.{Host}
use Rattle.cpm_slots.specs.Index.{IsAtIndex, IsServed}
use Rattle.cpm_slots.specs.Slots.{slots_of}
use Rattle.cpm_slots.proofs.CallLaws.{same-host, call-host, call-keeps}
use Rattle.cpm_slots.proofs.host.Host.grant_to_wait.Goals as goal

pub returns-in-Some-clause-host : goal.returns-in-Some-clause-host
returns-in-Some-clause-host c =
    let s = c.self.inside in
    let m = memories s.store in
    let h : Host = record { system = s.system; frames = s.frames; openings = s.openings; slots = slots_of m s.slots.items } in
    let all : (m : List (Option Contents)) → IsAtIndex c.args.id.0 (slots_of m s.slots.items) c.in-Some.index = rw c.deref.ensures.value at c.in-Some.ensures in
    let k = c.work_at.result in
    let served : IsServed s.system (Grant k) c.in-Some.index (all_granted k) (slots_of m s.slots.items) (slots_of (memories c.work_at.new.store) c.work_at.new.slots.items) = rw c.image.ensures at c.work_at.ensures.served in
    call-host h c.args.self.now.host c.args.id.0 c.in-Some.index (Grant k) (all_granted k) (slots_of (memories c.work_at.new.store) c.work_at.new.slots.items) (same-host c.self.view_is) c.self.invariant.0 (all m) served

pub invariant_of-self : goal.invariant_of-self
invariant_of-self c =
    let s = c.self.inside in
    let m = memories s.store in
    let h : Host = record { system = s.system; frames = s.frames; openings = s.openings; slots = slots_of m s.slots.items } in
    let all : (m : List (Option Contents)) → IsAtIndex c.args.id.0 (slots_of m s.slots.items) c.in-Some.index = rw c.deref.ensures.value at c.in-Some.ensures in
    let k = c.work_at.result in
    let served : IsServed s.system (Grant k) c.in-Some.index (all_granted k) (slots_of m s.slots.items) (slots_of (memories c.work_at.new.store) c.work_at.new.slots.items) = rw c.image.ensures at c.work_at.ensures.served in
    (call-keeps h c.args.id.0 c.in-Some.index (Grant k) (all_granted k) (slots_of (memories c.work_at.new.store) c.work_at.new.slots.items) c.self.invariant.0 (all m) served, c.work_at.ensures.have_tables, c.work_at.ensures.frames ∙ c.self.invariant.2, c.work_at.ensures.store, c.work_at.ensures.cached)
