use Rattle.cpm_drive.proofs.NamedLemmas.{rename_none, rename_refused, renames}
use Rattle.std.proofs.Common.{sym, ◌∙◌}
use Rattle.cpm_drive.proofs.drive.Drive.rename_files.Goals as goal

pub returns-in_default : goal.returns-in_default
returns-in_default c =
    rename_none c.args.self.now c.args.user c.args.old_name.now c.args.new_name.now (rw c.lent-image.ensures at c.in_default.ensures)

pub returns-then-has_read_only : goal.returns-then-has_read_only
returns-then-has_read_only c =
    let found = rw c.lent-image.ensures at c.in-Some.ensures in
    rename_refused c.args.self.now c.args.user c.args.old_name.now c.in-Some.first found.0 found.1 c.args.new_name.now (sym (rw c.lent-image.ensures at c.has_read_only.ensures) ∙ c.if-has_read_only.true)

pub returns : goal.returns
returns c =
    let found = rw c.lent-image.ensures at c.in-Some.ensures in
    rw (c.directory_code.ensures, c.alter_files.ensures) (renames c.args.self.now c.args.user c.args.old_name.now c.in-Some.first found.0 found.1 c.args.new_name.now c.requires (sym (rw c.lent-image.ensures at c.has_read_only.ensures) ∙ c.if-has_read_only.false))
