use Rattle.std.proofs.Common.{length, arith}
use Rattle.cpm_memory.specs.Room.{room-less}
use Rattle.cpm_bdos.proofs.Pages.{pages-le}
use Rattle.cpm_ccp.proofs.loading.put_tail.Goals as goal

pub fill_buffer-requires-clause-room : goal.fill_buffer-requires-clause-room
fill_buffer-requires-clause-room g c =
    c.change_run.ensures.room 5 (room-less _ _ 8 (omega (arith, pages-le 92 33, pages-le 92 (length c.default_files.result))) c.requires.room)

pub change_run-requires-2-clause-room : goal.change_run-requires-2-clause-room
change_run-requires-2-clause-room g c =
    c.fill_buffer.ensures.room 1 (c.change_run.ensures.room 6 (room-less _ _ 8 (omega (arith, pages-le 92 33, pages-le 92 (length c.default_files.result))) c.requires.room))

pub returns-clause-leads : goal.returns-clause-leads
returns-clause-leads g c =
    let old = c.args.memory.now in
    let filled = g.met.M.Memory.leads_on old c.change_run.new.memory c.fill_buffer.new.memory c.change_run.ensures.leads c.fill_buffer.ensures.leads in
    g.met.M.Memory.leads_on old c.fill_buffer.new.memory c.change_run-2.new.memory filled c.change_run-2.ensures.leads
