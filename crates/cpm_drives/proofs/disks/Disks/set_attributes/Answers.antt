use Rattle.std.proofs.Common.{refl, arith}
use Rattle.std.proofs.lemmas.Result.{err_from_is_err_and}
use Rattle.cpm_drives.specs.Calls.{on_drive}
use Rattle.cpm_drives.specs.Files.{set_attributes, set_attributes_on}
use Rattle.cpm_drives.proofs.DriveLemmas.{own_is_some}
use Rattle.cpm_drives.proofs.CallLemmas.{own_call}
use Rattle.cpm_drives.proofs.disks.Disks.set_attributes.Goals as goal

pub returns-in_err-place : goal.returns-in_err-place
unfolding set_attributes set_attributes_on
returns-in_err-place c =
    let p = err_from_is_err_and c.from_residual.result c.from_residual.ensures.1 in
    λ buffer. rw (p.1, p.2) (c.in_err-place.ensures (set_attributes_on c.args.self.now.user c.args.fcb.now buffer) buffer (λ drive h. rw h refl))

pub drive_in-requires : goal.drive_in-requires
drive_in-requires c =
    own_is_some c.place_to_write.new.self c.in_ok-place.place _ _ refl (omega (arith, c.in_ok-place.ensures.2)) c.in_ok-place.ensures.1

pub returns : goal.returns
unfolding set_attributes
returns c =
    λ buffer. own_call (λ user. set_attributes_on user c.args.fcb.now buffer) c.args.self.now c.place_to_write.new.self c.args.system.now c.args.fcb.now buffer c.in_ok-place.place c.in_ok-place.place _ c.drive_in.result.now (on_drive c.set_attributes.result c.set_attributes.new.drive c.args.fcb.now buffer) c.in_ok-place.ensures.0 refl (omega (arith, c.in_ok-place.ensures.2)) c.drive_in.ensures.value (c.set_attributes.ensures buffer)
