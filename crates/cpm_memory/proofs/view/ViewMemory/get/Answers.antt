use Rattle.std.proofs.Common.{◌/◌, arith}
use Rattle.cpm_memory.proofs.Accesses.{byte-placed, frame-within}
use Rattle.cpm_memory.proofs.view.ViewMemory.get.Goals as goal

pub frame-requires : goal.frame-requires
frame-requires c = let v = c.args.self.now in frame-within v.store.now v.table (c.args.address / 256) _ v.sound (v.placed (c.args.address / 256) (omega arith))

pub returns : goal.returns
returns c =
    let v = c.args.self.now in
    byte-placed v.store.now v.table c.args.address _ _ (omega arith) (v.placed (c.args.address / 256) (omega arith)) c.frame.ensures.bytes
