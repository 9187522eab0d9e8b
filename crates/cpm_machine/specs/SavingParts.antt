-- The parts of a saving that were read, as a saving. (own)
use Rattle.cpm_memory.specs.Flat.{flat_contents}
use Rattle.cpm_machine.specs.declared.saving.Parts.{Parts}
use Rattle.cpm_machine.specs.Saving.{Saving, saving_with}

-- of whose memory as many pages may be written as the quota says
abbrev pub saving_of_parts : Parts → Saving
saving_of_parts p =
    saving_with p.digest (record {
      cpu = p.numbers.cpu;
      session = p.session;
      memory = record (flat_contents p.memory) { limit = p.numbers.quota };
      quota = p.numbers.quota;
      count = p.numbers.count;
      ended = p.numbers.ended;
      with_program = p.numbers.with_program;
    })
