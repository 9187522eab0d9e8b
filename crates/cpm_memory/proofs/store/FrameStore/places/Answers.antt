use Rattle.std.proofs.Common.{arith}
use Rattle.cpm_memory.specs.Frames.{frame_of_page}
use Rattle.cpm_memory.specs.Tabulated.{same_as_tabulated}
use Rattle.cpm_memory.proofs.store.FrameStore.places.Goals as goal

pub returns : goal.returns
returns c = same_as_tabulated 256 (frame_of_page c.args.self.now c.args.table) c.loop-number.places 0 c.loop-number.invariant.size (λ k l. c.loop-number.invariant.placed k (omega arith))
