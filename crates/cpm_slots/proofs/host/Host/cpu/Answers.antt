use Rattle.std.proofs.Common.{◌≡◌, List, Option, None, ap, sym, ◌∙◌}
use Rattle.std.specs.Prelude.{slice_get, IfSome, Result, Ok}
use Rattle.cpm_flags.specs.declared.regs.Cpu.{Cpu}
use Rattle.cpm_memory.specs.Contents.{Contents}
use Rattle.cpm_memory.specs.Frames.{memories}
use Rattle.cpm_slots.specs.Host.{SlotState, cpu_reply, slot_at}
use Rattle.cpm_slots.specs.HostWithStore.{HostWithStore}
use Rattle.cpm_slots.specs.Index.{IsAtIndex}
use Rattle.cpm_slots.specs.Slots.{slots_of}
use Rattle.cpm_slots.specs.declared.event.Refusal.{Refusal}
use Rattle.cpm_slots.proofs.host.Host.cpu.Goals as goal

pub returns-in-None : goal.returns-in-None
returns-in-None c =
    let s = c.self.inside in
    let all : (m : List (Option Contents)) → slot_at c.args.id.0 (slots_of m s.slots.items) ≡ None = rw c.deref.ensures.value at c.in-None.ensures in
    ap cpu_reply (sym (all (memories s.store))) ∙ ap (λ (x : HostWithStore). cpu_reply (slot_at c.args.id.0 x.host.slots)) c.self.view_is

pub returns-in-Some : goal.returns-in-Some
returns-in-Some c =
    let s = c.self.inside in
    let m = memories s.store in
    let all : (m : List (Option Contents)) → IsAtIndex c.args.id.0 (slots_of m s.slots.items) c.in-Some.index = rw c.deref.ensures.value at c.in-Some.ensures in
    let seen : (m : List (Option Contents)) → IfSome (slice_get (slots_of m s.slots.items) c.in-Some.index) (λ (x : SlotState). c.cpu_at.result ≡ x.state.cpu) = rw c.deref-in-Some.ensures.value at c.cpu_at.ensures in
    let found = all m in
    let is : c.cpu_at.result ≡ found.found.state.cpu = rw found.at at (seen m) in
    ap (λ (cpu : Cpu). let r : Result Cpu Refusal = Ok cpu in r) is ∙ ap cpu_reply (sym found.slot) ∙ ap (λ (x : HostWithStore). cpu_reply (slot_at c.args.id.0 x.host.slots)) c.self.view_is
