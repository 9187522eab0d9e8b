use Rattle.std.proofs.Common.{arith, ◌∙◌}
use Rattle.cpm_memory.specs.Frames.{memory_of}
use Rattle.cpm_memory.proofs.Bytes.{IsByteWritten, IsByteWritten-from, after_set-marked, ChangesTable-both}
use Rattle.cpm_memory.proofs.store.FrameStore.set_byte.Goals as goal
use Rattle.cpm_memory.proofs.store.FrameStore.set_byte.Goals.{After-write}

written : (c : After-write) → IsByteWritten c.private_frame-frame.new.self c.write.new.self c.args.table c.args.address c.args.value
written c =
    IsByteWritten-from c.private_frame-frame.new.self c.write.new.self c.args.table c.args.address c.private_frame-frame.result c.args.value
    c.private_frame-frame.ensures.sound c.private_frame-frame.ensures.alone (omega arith) c.private_frame-frame.ensures.place c.write.ensures.written

pub returns-clause-memory : goal.returns-clause-memory
returns-clause-memory c =
    (written c).memory ∙ after_set-marked (memory_of c.args.self.now c.args.table) (memory_of c.private_frame-frame.new.self c.args.table) c.args.address c.args.value c.private_frame-frame.ensures.written

pub returns-clause-others : goal.returns-clause-others
returns-clause-others c =
    ChangesTable-both c.args.self.now c.private_frame-frame.new.self c.write.new.self c.args.table c.private_frame-frame.ensures.others (written c).others
