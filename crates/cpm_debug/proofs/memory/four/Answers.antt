use Rattle.std.proofs.Common.{arith, ◌+◌, ◌%◌}
use Rattle.cpm_memory.specs.Contents.{byte_at}
use Rattle.cpm_memory.specs.Tabulated.{same_as_tabulated}
use Rattle.cpm_debug.proofs.memory.four.Goals as goal

pub returns : goal.returns
returns c =
    same_as_tabulated 4 (λ k. byte_at c.args.machine.now.memory ((c.args.address + k) % 65536)) c.loop-offset.bytes 0 c.loop-offset.invariant.size
    (λ k l. c.loop-offset.invariant.read k (omega arith))
