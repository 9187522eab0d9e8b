use Rattle.std.proofs.lemmas.Result.{err_from_is_err_and}
use Rattle.cpm_drives.specs.Files.{compute_size, compute_size_on}
use Rattle.cpm_drives.proofs.CallLemmas.{no_drive, size_call}
use Rattle.cpm_drives.proofs.disks.Disks.compute_size.Goals as goal

pub returns-in_err-number : goal.returns-in_err-number
unfolding compute_size
returns-in_err-number c =
    let p = err_from_is_err_and c.from_residual.result c.from_residual.ensures.1 in
    λ buffer. rw (p.1, p.2) (no_drive (compute_size_on c.args.self.now.user c.args.fcb.now buffer) c.args.self.now c.use_named.new.self c.args.system.now c.args.fcb.now buffer _ c.in_err-number.ensures)

pub returns-in-Some : goal.returns-in-Some
returns-in-Some c =
    λ buffer. rw c.put_random.ensures (rw c.in-Some.is at (size_call c.args.self.now c.use_named.new.self c.args.system.now c.lent_at-image.result c.args.fcb.now buffer c.in_ok-number.number c.compute_size.result c.in_ok-number.ensures c.lent_at-image.ensures c.compute_size.ensures.value))

pub returns-in-None : goal.returns-in-None
returns-in-None c =
    λ buffer. rw c.put_random-in-None.ensures (rw c.in-None.is at (size_call c.args.self.now c.use_named.new.self c.args.system.now c.lent_at-image.result c.args.fcb.now buffer c.in_ok-number.number c.compute_size.result c.in_ok-number.ensures c.lent_at-image.ensures c.compute_size.ensures.value))
