use Rattle.std.proofs.lemmas.Result.{err_from_is_err_and}
use Rattle.cpm_drives.specs.Files.{open_file, open_file_on}
use Rattle.cpm_drives.proofs.CallLemmas.{no_drive, open_call}
use Rattle.cpm_drives.proofs.disks.Disks.open_file.Goals as goal

pub returns-in_err-number : goal.returns-in_err-number
unfolding open_file
returns-in_err-number c =
    let p = err_from_is_err_and c.from_residual.result c.from_residual.ensures.1 in
    λ buffer. rw (p.1, p.2) (no_drive (open_file_on c.args.self.now.user c.args.fcb.now buffer) c.args.self.now c.use_named.new.self c.args.system.now c.args.fcb.now buffer _ c.in_err-number.ensures)

pub returns : goal.returns
returns c =
    λ buffer. rw c.code_or_none.ensures (open_call c.args.self.now c.use_named.new.self c.args.system.now c.lent_at-image.result c.args.fcb.now c.open_file_lent.new.fcb buffer c.in_ok-number.number c.open_file_lent.result c.in_ok-number.ensures c.lent_at-image.ensures c.open_file_lent.ensures)
