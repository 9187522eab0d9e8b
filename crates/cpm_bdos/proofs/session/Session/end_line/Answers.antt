use Rattle.std.proofs.Common.{arith, ◌+◌, ◌%◌, length}
use Rattle.cpm_memory.specs.Room.{room-less}
use Rattle.cpm_bdos.proofs.Pages.{pages-le}
use Rattle.cpm_bdos.proofs.session.Session.end_line.Goals as goal

pub change_run-requires-2-clause-room : goal.change_run-requires-2-clause-room
change_run-requires-2-clause-room g c =
    c.change_run.ensures.room _ (room-less _ _ 8 (omega (arith, pages-le (((c.pair_de-at.result + 1) % 65536 + 1) % 65536) (length c.characters-characters.result.now), pages-le ((c.pair_de-at.result + 1) % 65536) 1)) c.requires)
