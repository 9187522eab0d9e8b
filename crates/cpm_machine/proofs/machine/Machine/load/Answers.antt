use Rattle.std.proofs.Common.{◌≡◌, sym, ap, ◌∙◌, inr, true}
use Rattle.cpm_memory.specs.Contents.{Contents, run_puts, word_puts, after_sets}
use Rattle.cpm_memory.specs.Flat.{flat_contents, flat_stamps}
use Rattle.cpm_decode.specs.Cache.{IsRightFor}
use Rattle.cpm_decode.specs.Cached.{stays-right}
use Rattle.cpm_memory.specs.Room.{limit-after_sets}
use Rattle.cpm_memory.specs.Sets.{after_sets-append}
use Rattle.cpm_machine.specs.MachineState.{MachineState, program_loaded, program_puts}
use Rattle.cpm_machine.specs.Runner.{state_of}
use Rattle.cpm_machine.proofs.machine.Machine.load.Goals as goal
use Rattle.cpm_machine.proofs.machine.Machine.load.Goals.{After-set_word}

-- a machine with this memory, which begins at 0100h
abbrev begun : MachineState → Contents → MachineState
begun s m =
    record s { session = record s.session { regs = record s.session.regs { pc = 256 } }; memory = m; with_program = true }

pub set_word-requires : goal.set_word-requires
set_word-requires c =
    inr (ap (λ (m : Contents). m.limit) c.set_run.ensures.contents
    ∙ limit-after_sets (flat_contents c.self.inside.memory) (run_puts 256 c.args.program.now)
    ∙ c.self.invariant.0.limit
    ∙ ap (λ (s : MachineState). s.quota) c.self.view_is
    ∙ c.requires)

-- the program's stores leave the cache right
kept : (c : After-set_word) → IsRightFor (flat_contents c.set_word.new.memory) (flat_stamps c.set_word.new.memory) c.self.inside.runner.cache
kept c =
    let old = c.self.inside.memory in
    let between = c.set_run.new.memory in
    let new = c.set_word.new.memory in
    stays-right (flat_contents between) (flat_contents new) (flat_stamps between) (flat_stamps new) between.stamped c.set_word.ensures.leads.stamps c.self.inside.runner.cache
    (stays-right (flat_contents old) (flat_contents between) (flat_stamps old) (flat_stamps between) old.stamped c.set_run.ensures.leads.stamps c.self.inside.runner.cache c.self.invariant.1)

pub invariant_of-self : goal.invariant_of-self
invariant_of-self c =
    let limit : (flat_contents c.set_word.new.memory).limit ≡ c.self.inside.runner.quota = ap (λ (m : Contents). m.limit) c.set_word.ensures.contents
    ∙ limit-after_sets (flat_contents c.set_run.new.memory) (word_puts 60414 58374)
    ∙ ap (λ (m : Contents). m.limit) c.set_run.ensures.contents
    ∙ limit-after_sets (flat_contents c.self.inside.memory) (run_puts 256 c.args.program.now)
    ∙ c.self.invariant.0.limit in (
      record {
        limit = limit;
        count = c.self.invariant.0.count;
        room = λ h. inr (limit ∙ ap (λ (s : MachineState). s.quota) c.self.view_is ∙ c.requires);
      },
      kept c,
    )

pub returns : goal.returns
returns c =
    let program = c.args.program.now in
    let before = flat_contents c.self.inside.memory in
    let memory : flat_contents c.set_word.new.memory ≡ after_sets before (program_puts program) = c.set_word.ensures.contents
    ∙ ap (λ m. after_sets m (word_puts 60414 58374)) c.set_run.ensures.contents
    ∙ sym (after_sets-append before (run_puts 256 program) (word_puts 60414 58374)) in
    ap (begun (state_of c.self.inside.runner before)) memory ∙ ap (program_loaded program) c.self.view_is
