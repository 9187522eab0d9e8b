use Rattle.std.proofs.Common.{◌∙◌, refl, sym, arith}
use Rattle.std.proofs.lemmas.Result.{err_from_is_err_and}
use Rattle.cpm_drive.specs.Reads.{lent_drive}
use Rattle.cpm_drives.specs.Calls.{on_drive}
use Rattle.cpm_drives.specs.Files.{close_file, close_file_on}
use Rattle.cpm_drives.proofs.DriveLemmas.{own_is_some, system_is_protected}
use Rattle.cpm_drives.proofs.CallLemmas.{no_drive, own_call, system_call}
use Rattle.cpm_drives.proofs.disks.Disks.close_file.Goals as goal

pub returns-in_err-number : goal.returns-in_err-number
unfolding close_file
returns-in_err-number c =
    let p = err_from_is_err_and c.from_residual.result c.from_residual.ensures.1 in
    λ buffer. rw (p.1, p.2) (no_drive (close_file_on c.args.self.now.user c.args.fcb.now buffer) c.args.self.now c.use_named.new.self c.args.system.now c.args.fcb.now buffer _ c.in_err-number.ensures)

pub close_file-requires : goal.close_file-requires
close_file-requires c =
    system_is_protected c.args.self.now c.use_named.new.self c.args.system.now c.in_ok-number.number c.in_ok-number.ensures.2 (sym c.is_own.ensures.value ∙ c.if-not-is_own.true)

pub returns-then-not-is_own : goal.returns-then-not-is_own
unfolding close_file
returns-then-not-is_own c =
    λ buffer. system_call (λ user. close_file_on user c.args.fcb.now buffer) c.args.self.now c.use_named.new.self c.args.system.now c.args.fcb.now buffer c.in_ok-number.number (on_drive c.close_file.result (lent_drive c.args.system.now c.use_named.new.self.system) c.close_file.new.fcb buffer) c.in_ok-number.ensures (sym c.is_own.ensures.value ∙ c.if-not-is_own.true) (c.close_file.ensures buffer) refl

pub drive_in-drive-requires : goal.drive_in-drive-requires
drive_in-drive-requires c =
    own_is_some c.use_named.new.self c.from.result _ _ c.from.ensures (omega (arith, c.is_own.ensures.within c.if-not-is_own.false)) (sym c.is_own.ensures.value ∙ c.if-not-is_own.false)

pub returns : goal.returns
unfolding close_file
returns c =
    λ buffer. own_call (λ user. close_file_on user c.args.fcb.now buffer) c.args.self.now c.use_named.new.self c.args.system.now c.args.fcb.now buffer c.in_ok-number.number c.from.result _ c.drive_in-drive.result.now (on_drive c.close_file-2.result c.close_file-2.new.drive c.close_file-2.new.fcb buffer) c.in_ok-number.ensures c.from.ensures (omega (arith, c.is_own.ensures.within c.if-not-is_own.false)) c.drive_in-drive.ensures.value (c.close_file-2.ensures buffer)
