use Rattle.std.proofs.Common.{arith, sym, ◌∙◌}
use Rattle.cpm_drives.specs.Disks.{system_drive}
use Rattle.cpm_drives.proofs.DriveLemmas.{is_own_drive, own_is_some, not_own, own_used, system_used}
use Rattle.cpm_drives.proofs.disks.Disks.use_drive.Goals as goal

pub returns-then-not-is_own : goal.returns-then-not-is_own
unfolding system_drive
returns-then-not-is_own c =
    system_used c.args.self.now c.args.system.now c.args.drive c.make_lent_ready.new.marks (not_own c.args.self.now c.args.drive (sym c.is_own.ensures.value ∙ c.if-not-is_own.true)) c.make_lent_ready.ensures

pub drive_in-requires : goal.drive_in-requires
drive_in-requires c =
    own_is_some c.args.self.now c.from.result c.args.drive _ c.from.ensures (omega (arith, c.is_own.ensures.within c.if-not-is_own.false)) (sym c.is_own.ensures.value ∙ c.if-not-is_own.false)

pub returns : goal.returns
returns c =
    own_used c.args.self.now c.args.system.now c.from.result c.args.drive c.drive_in.result.now c.make_ready.new.drive c.from.ensures (is_own_drive c.args.self.now c.from.result c.args.drive c.drive_in.result.now _ c.from.ensures (omega (arith, c.is_own.ensures.within c.if-not-is_own.false)) c.drive_in.ensures.value) c.make_ready.ensures
