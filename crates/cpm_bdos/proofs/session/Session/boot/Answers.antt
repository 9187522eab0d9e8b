use Rattle.std.proofs.Common.{arith}
use Rattle.cpm_memory.specs.Room.{room-less}
use Rattle.cpm_bdos.proofs.session.Session.boot.Goals as goal

pub reboot-requires : goal.reboot-requires
reboot-requires g c = c.change_run.ensures.room 2 (room-less _ 3 8 (omega arith) c.requires)
