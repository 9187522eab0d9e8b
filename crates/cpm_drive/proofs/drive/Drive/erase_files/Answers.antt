use Rattle.std.proofs.Common.{sym, ◌∙◌}
use Rattle.cpm_drive.proofs.NamedLemmas.{erase_none, erase_refused, erases}
use Rattle.cpm_drive.proofs.drive.Drive.erase_files.Goals as goal

pub returns-in_default : goal.returns-in_default
returns-in_default c =
    erase_none c.args.self.now c.args.user c.args.name.now (rw c.lent-image.ensures at c.in_default.ensures)

pub returns-then-has_read_only : goal.returns-then-has_read_only
returns-then-has_read_only c =
    let found = rw c.lent-image.ensures at c.in-Some.ensures in
    erase_refused c.args.self.now c.args.user c.args.name.now c.in-Some.first found.0 found.1 (sym (rw c.lent-image.ensures at c.has_read_only.ensures) ∙ c.if-has_read_only.true)

pub returns : goal.returns
returns c =
    let found = rw c.lent-image.ensures at c.in-Some.ensures in
    rw (c.directory_code.ensures, c.alter_files.ensures, c.without_files-self.ensures, c.lent-image.ensures) (erases c.args.self.now c.args.user c.args.name.now c.in-Some.first found.0 found.1 c.requires (sym (rw c.lent-image.ensures at c.has_read_only.ensures) ∙ c.if-has_read_only.false))
