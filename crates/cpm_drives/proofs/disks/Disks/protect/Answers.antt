use Rattle.std.proofs.Common.{arith, sym, ◌∙◌}
use Rattle.cpm_drives.proofs.DriveLemmas.{is_own_drive, own_is_some, not_own, own_protected, system_protected}
use Rattle.cpm_drives.proofs.disks.Disks.protect.Goals as goal

pub returns-then-not-is_own : goal.returns-then-not-is_own
returns-then-not-is_own c =
    system_protected c.args.self.now c.args.system.now (not_own c.args.self.now c.args.self.now.current (sym c.is_own.ensures.value ∙ c.if-not-is_own.true))

pub drive_in-own-requires : goal.drive_in-own-requires
drive_in-own-requires c =
    own_is_some c.args.self.now c.from.result c.args.self.now.current _ c.from.ensures (omega (arith, c.is_own.ensures.within c.if-not-is_own.false)) (sym c.is_own.ensures.value ∙ c.if-not-is_own.false)

pub returns : goal.returns
returns c =
    own_protected c.args.self.now c.args.system.now c.from.result c.drive_in-own.result.now c.from.ensures (is_own_drive c.args.self.now c.from.result c.args.self.now.current c.drive_in-own.result.now _ c.from.ensures (omega (arith, c.is_own.ensures.within c.if-not-is_own.false)) c.drive_in-own.ensures.value)
