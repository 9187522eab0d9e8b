use Rattle.std.proofs.Common.{◌≡◌, ap, ◌∙◌, inr}
use Rattle.cpm_memory.specs.Contents.{Contents}
use Rattle.cpm_memory.specs.Flat.{flat_contents, flat_stamps}
use Rattle.cpm_decode.specs.Cached.{stays-right}
use Rattle.cpm_ccp.proofs.StartLemmas.{limit_started}
use Rattle.cpm_machine.specs.MachineState.{MachineState, with_tail}
use Rattle.cpm_machine.specs.Runner.{state_of}
use Rattle.cpm_machine.proofs.machine.Machine.leave_tail.Goals as goal

abbrev with_memory : MachineState → Contents → MachineState
with_memory s m = record s { memory = m }

pub leave_tail-requires : goal.leave_tail-requires
leave_tail-requires c =
    inr (c.self.invariant.0.limit ∙ ap (λ (s : MachineState). s.quota) c.self.view_is ∙ c.requires)

pub invariant_of-self : goal.invariant_of-self
invariant_of-self c =
    let old = c.self.inside.memory in
    let new = c.leave_tail.new.memory in
    let limit : (flat_contents new).limit ≡ c.self.inside.runner.quota = ap (λ (m : Contents). m.limit) c.leave_tail.ensures.contents
    ∙ limit_started c.args.tail.now (flat_contents old)
    ∙ c.self.invariant.0.limit in (
      record {
        limit = limit;
        count = c.self.invariant.0.count;
        room = λ h. inr (limit ∙ ap (λ (s : MachineState). s.quota) c.self.view_is ∙ c.requires);
      },
      stays-right (flat_contents old) (flat_contents new) (flat_stamps old) (flat_stamps new) old.stamped c.leave_tail.ensures.leads.stamps c.self.inside.runner.cache c.self.invariant.1,
    )

pub returns : goal.returns
returns c =
    ap (with_memory (state_of c.self.inside.runner (flat_contents c.self.inside.memory))) c.leave_tail.ensures.contents ∙ ap (with_tail c.args.tail.now) c.self.view_is
