-- Numbers of a machine that are appended.
use Rattle.std.proofs.Common.{◌<◌, arith}
use Rattle.cpm_flags.specs.declared.regs.Cpu.{Cpu}
use Rattle.cpm_flags.specs.declared.regs.Cpu.TheVariants.{I8080, Z80}
use Rattle.cpm_machine.specs.declared.reply.End.{End}
use Rattle.cpm_machine.specs.declared.reply.End.TheVariants as end
use Rattle.cpm_machine.specs.Saving.{end_number, processor_number}

pub processor_small : (cpu : Cpu) → processor_number cpu < 2
processor_small I8080 = omega arith
processor_small Z80 = omega arith

pub end_small : (e : End) → end_number e < 6
end_small end.Running = omega arith
end_small end.Halted = omega arith
end_small end.Illegal = omega arith
end_small end.Quota = omega arith
end_small end.CountEnd = omega arith
end_small end.Exited = omega arith
