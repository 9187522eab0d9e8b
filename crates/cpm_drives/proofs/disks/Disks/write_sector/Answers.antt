use Rattle.std.proofs.Common.{sym, ap, ◌∙◌, Option, is_some, unwrap_or, arith}
use Rattle.cpm_drives.specs.declared.disks.Disks.{Disks}
use Rattle.cpm_drives.proofs.DriveLemmas.{is_own_drive, own_is_some, not_own}
use Rattle.cpm_drives.proofs.SectorLemmas.{written-is, written-there, written-no_drive}
use Rattle.cpm_drives.proofs.disks.Disks.write_sector.Goals as goal

pub returns-then-not-is_own-clause-there : goal.returns-then-not-is_own-clause-there
returns-then-not-is_own-clause-there c =
    sym (ap (λ (o : Option Disks). is_some o) (written-no_drive c.args.self.now c.args.drive c.args.track c.args.sector c.args.bytes.now (not_own c.args.self.now c.args.drive (sym c.is_own.ensures.value ∙ c.if-not-is_own.true))))

pub returns-then-not-is_own-clause-disks : goal.returns-then-not-is_own-clause-disks
returns-then-not-is_own-clause-disks c =
    sym (ap (λ (o : Option Disks). unwrap_or o c.args.self.now) (written-no_drive c.args.self.now c.args.drive c.args.track c.args.sector c.args.bytes.now (not_own c.args.self.now c.args.drive (sym c.is_own.ensures.value ∙ c.if-not-is_own.true))))

pub drive_in-own-requires : goal.drive_in-own-requires
drive_in-own-requires c =
    own_is_some c.args.self.now c.from.result c.args.drive _ c.from.ensures (omega (arith, c.is_own.ensures.within c.if-not-is_own.false)) (sym c.is_own.ensures.value ∙ c.if-not-is_own.false)

pub returns-clause-there : goal.returns-clause-there
returns-clause-there c =
    c.put_sector.ensures.there ∙ written-there c.args.self.now c.args.drive c.args.track c.args.sector c.drive_in-own.result.now c.args.bytes.now (is_own_drive c.args.self.now c.from.result c.args.drive c.drive_in-own.result.now _ c.from.ensures (omega (arith, c.is_own.ensures.within c.if-not-is_own.false)) c.drive_in-own.ensures.value)

pub returns-clause-disks : goal.returns-clause-disks
returns-clause-disks c =
    written-is c.args.self.now c.from.result c.args.drive c.args.track c.args.sector c.drive_in-own.result.now c.put_sector.new.drive c.args.bytes.now c.from.ensures (is_own_drive c.args.self.now c.from.result c.args.drive c.drive_in-own.result.now _ c.from.ensures (omega (arith, c.is_own.ensures.within c.if-not-is_own.false)) c.drive_in-own.ensures.value) c.put_sector.ensures.drive
