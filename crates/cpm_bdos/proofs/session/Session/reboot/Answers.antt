use Rattle.cpm_bdos.proofs.session.Session.reboot.Goals as goal

pub change_run-requires-2-clause-room : goal.change_run-requires-2-clause-room
change_run-requires-2-clause-room g c = c.change_run.ensures.room 1 c.requires
