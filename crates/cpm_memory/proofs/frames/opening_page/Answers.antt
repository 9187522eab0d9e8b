use Rattle.std.proofs.Common.{arith}
use Rattle.cpm_memory.specs.Opening.{opening_byte}
use Rattle.cpm_memory.specs.Tabulated.{same_as_tabulated}
use Rattle.cpm_memory.proofs.frames.opening_page.Goals as goal

pub returns : goal.returns
returns c = same_as_tabulated 256 (opening_byte c.args.page) c.loop-offset.bytes 0 c.loop-offset.invariant.size (λ k l. c.loop-offset.invariant.written k (omega arith))
