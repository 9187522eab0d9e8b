use Rattle.std.proofs.Common.{refl, arith}
use Rattle.std.proofs.lemmas.Result.{err_from_is_err_and}
use Rattle.cpm_drives.specs.Calls.{on_drive}
use Rattle.cpm_drives.specs.Files.{write_next, write_next_on}
use Rattle.cpm_drives.proofs.DriveLemmas.{own_is_some}
use Rattle.cpm_drives.proofs.CallLemmas.{own_call}
use Rattle.cpm_drives.proofs.disks.Disks.write_next.Goals as goal

pub returns-in_err-place : goal.returns-in_err-place
unfolding write_next write_next_on
returns-in_err-place c =
    let p = err_from_is_err_and c.from_residual.result c.from_residual.ensures.1 in
    rw (p.1, p.2) (c.in_err-place.ensures (write_next_on c.args.self.now.user c.args.fcb.now c.args.buffer.now) c.args.buffer.now (λ drive h. rw h refl))

pub drive_in-requires : goal.drive_in-requires
drive_in-requires c =
    own_is_some c.place_to_write.new.self c.in_ok-place.place _ _ refl (omega (arith, c.in_ok-place.ensures.2)) c.in_ok-place.ensures.1

pub returns : goal.returns
unfolding write_next
returns c =
    own_call (λ user. write_next_on user c.args.fcb.now c.args.buffer.now) c.args.self.now c.place_to_write.new.self c.args.system.now c.args.fcb.now c.args.buffer.now c.in_ok-place.place c.in_ok-place.place _ c.drive_in.result.now (on_drive c.write_next.result c.write_next.new.drive c.write_next.new.fcb c.args.buffer.now) c.in_ok-place.ensures.0 refl (omega (arith, c.in_ok-place.ensures.2)) c.drive_in.ensures.value c.write_next.ensures
