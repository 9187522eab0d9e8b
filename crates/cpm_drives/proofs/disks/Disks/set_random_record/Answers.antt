use Rattle.std.proofs.lemmas.Result.{err_from_is_err_and}
use Rattle.cpm_drives.specs.Files.{set_random_record, set_random_record_on}
use Rattle.cpm_drives.proofs.CallLemmas.{no_drive, position_call}
use Rattle.cpm_drives.proofs.disks.Disks.set_random_record.Goals as goal

pub returns-in_err-use_named : goal.returns-in_err-use_named
unfolding set_random_record
returns-in_err-use_named c =
    let p = err_from_is_err_and c.from_residual.result c.from_residual.ensures.1 in
    λ buffer. rw (p.1, p.2) (no_drive (set_random_record_on c.args.fcb.now buffer) c.args.self.now c.use_named.new.self c.args.system.now c.args.fcb.now buffer _ c.in_err-use_named.ensures)

pub returns : goal.returns
returns c =
    λ buffer. rw (c.put_random.ensures, c.from-extent.ensures, c.number.ensures.value, c.from.ensures) (position_call c.args.self.now c.use_named.new.self c.args.system.now c.args.fcb.now buffer c.in_ok-use_named.field-0 c.in_ok-use_named.ensures)
