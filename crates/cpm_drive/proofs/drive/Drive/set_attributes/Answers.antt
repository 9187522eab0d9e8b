use Rattle.cpm_drive.proofs.NamedLemmas.{attributes_none, marks}
use Rattle.cpm_drive.proofs.drive.Drive.set_attributes.Goals as goal

pub returns-in_err-first : goal.returns-in_err-first
returns-in_err-first c =
    rw c.from_residual.ensures (attributes_none c.args.self.now c.args.user c.args.name.now (rw c.lent.ensures at c.in_err-first.ensures))

pub returns : goal.returns
returns c =
    let found = rw c.lent.ensures at c.in_ok-first.ensures in
    rw (c.directory_code.ensures, c.alter_files.ensures) (marks c.args.self.now c.args.user c.args.name.now c.in_ok-first.first found.0 found.1 c.requires)
