use Rattle.std.proofs.Common.{arith}
use Rattle.cpm_memory.specs.Room.{room-less}
use Rattle.cpm_bdos.proofs.session.Session.call_file_function.Goals as goal

pub store_fcb-requires : goal.store_fcb-requires
store_fcb-requires g c = c.store_record.ensures.room 2 (room-less _ 4 8 (omega arith) c.requires.room)
