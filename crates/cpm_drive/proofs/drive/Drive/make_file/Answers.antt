use Rattle.std.proofs.Common.{arith}
use Rattle.cpm_directory.proofs.DriveLemmas.{entries_length}
use Rattle.cpm_drive.proofs.FileLemmas.{make_refused, make_writes}
use Rattle.cpm_drive.proofs.drive.Drive.make_file.Goals as goal

pub returns-in-Some : goal.returns-in-Some
returns-in-Some c =
    let size = entries_length c.args.self.now.image in
    let within = rw c.lent.ensures at c.in-Some.ensures.within in
    let value = rw (c.from-number.ensures, c.lent.ensures) at c.in-Some.ensures.value in
    rw (c.directory_code.ensures, c.write_change.ensures.drive) (make_writes c.args.self.now c.args.fcb.now c.args.user c.in-Some.change value (rw c.lent.ensures at c.in-Some.ensures.first) (omega arith))

pub returns-in-None : goal.returns-in-None
returns-in-None c =
    let value = rw (c.from-number.ensures, c.lent.ensures) at c.in-None.ensures.value in
    make_refused c.args.self.now c.args.fcb.now c.args.user value
