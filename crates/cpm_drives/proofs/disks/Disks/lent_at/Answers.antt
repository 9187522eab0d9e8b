use Rattle.std.proofs.Common.{arith, sym, ap, ◌∙◌}
use Rattle.cpm_drive.specs.declared.drive.Drive.{Drive}
use Rattle.cpm_drives.specs.Disks.{system_drive}
use Rattle.cpm_drives.proofs.DriveLemmas.{is_own_drive, is_own_and_none, not_own, drive_at-own, drive_at-system}
use Rattle.cpm_drives.proofs.disks.Disks.lent_at.Goals as goal

pub returns-then-not-is_own : goal.returns-then-not-is_own
unfolding system_drive
returns-then-not-is_own c =
    c.new.ensures ∙ sym (ap (λ (d : Drive). d.image) (drive_at-system c.args.self.now c.args.system.now c.args.drive (not_own c.args.self.now c.args.drive (sym c.is_own.ensures.value ∙ c.if-not-is_own.true))))

pub unreachable-requires : goal.unreachable-requires
unreachable-requires c =
    is_own_and_none c.args.self.now c.from.result c.args.drive c.index-self-from.result c.from.ensures (omega (arith, c.is_own.ensures.within c.if-not-is_own.false)) c.in_default.is (sym c.is_own.ensures.value ∙ c.if-not-is_own.false)

pub returns : goal.returns
returns c =
    c.lent.ensures ∙ sym (ap (λ (d : Drive). d.image) (drive_at-own c.args.self.now c.args.system.now c.args.drive c.in-Some.own (is_own_drive c.args.self.now c.from.result c.args.drive c.in-Some.own c.index-self-from.result c.from.ensures (omega (arith, c.is_own.ensures.within c.if-not-is_own.false)) c.in-Some.is)))
