use Rattle.cpm_bdos.proofs.Bounded.{within_fault}
use Rattle.cpm_bdos.proofs.Showing.{shown-shown}
use Rattle.cpm_bdos.proofs.session.Session.fault.Goals as goal

pub returns-clause-output : goal.returns-clause-output
returns-clause-output c =
    rw (c.show_all-3.ensures, c.name_of.ensures, c.show_all-2.ensures, c.put.ensures, c.show_all.ensures, shown-shown, shown-shown, shown-shown) (within_fault c.args.self.now c.args.fault c.args.drive)
