use Rattle.std.proofs.Common.{◌+◌, length, arith, sym, ap, ◌∙◌}
use Rattle.std.proofs.lemmas.List.{take_all}
use Rattle.cpm_memory.specs.Contents.{after_run}
use Rattle.cpm_memory.specs.Room.{room-less}
use Rattle.cpm_bdos.proofs.Pages.{pages-le}
use Rattle.cpm_bdos.proofs.transfer.store_record.Goals as goal

pub returns-clause-contents : goal.returns-clause-contents
returns-clause-contents g c =
    c.change_run.ensures.contents ∙ ap (after_run (g.M.Memory.contents c.args.memory.now) c.args.address) (sym (take_all 128 c.args.record.now (omega arith)))

pub returns-clause-room : goal.returns-clause-room
returns-clause-room g c = λ n h.
    c.change_run.ensures.room n (room-less _ _ (n + 2) (omega (arith, pages-le c.args.address (length c.args.record.now))) h)
