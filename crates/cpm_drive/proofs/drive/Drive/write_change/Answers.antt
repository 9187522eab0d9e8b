use Rattle.std.proofs.Common.{◌≡◌, Some, None, true, false, sym, arith}
use Rattle.cpm_volume.specs.Files.{directory_records}
use Rattle.cpm_volume.proofs.Formats.{each_format}
use Rattle.cpm_drive.proofs.WriteLemmas.{drive_put, drive_kept, no_write}
use Rattle.cpm_drive.proofs.drive.Drive.write_change.Goals as goal

pub returns-then-not-self-clause-drive : goal.returns-then-not-self-clause-drive
returns-then-not-self-clause-drive c =
    let is : c.args.change ≡ Some c.in-Some.change = cc in
    let free : c.args.self.now.marks.is_protected ≡ false = cc in
    rw is (drive_put c.args.self.now c.in-Some.change c.put_entry.new.self free c.put_entry.ensures)

pub returns-else-not-self-clause-drive : goal.returns-else-not-self-clause-drive
returns-else-not-self-clause-drive c =
    let stays : c.args.self.now.marks.is_protected ≡ true = cc in
    sym (drive_kept c.args.self.now c.args.change stays)

pub returns-in_default-clause-drive : goal.returns-in_default-clause-drive
returns-in_default-clause-drive c =
    let is : c.args.change ≡ None = cc in
    rw is (sym (no_write c.args.self.now))

pub returns-then-not-self-clause-records : goal.returns-then-not-self-clause-records
unfolding directory_records
returns-then-not-self-clause-records c = λ n h.
    let whole = (each_format c.args.self.now.image.format).whole_records in
    let is : c.args.change ≡ Some c.in-Some.change = cc in
    let within = rw is at c.requires in
    c.put_entry.ensures.records n (λ e. omega arith)
