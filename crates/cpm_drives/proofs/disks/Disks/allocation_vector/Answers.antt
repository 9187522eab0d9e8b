use Rattle.std.proofs.Common.{◌∙◌, ap, sym, arith}
use Rattle.cpm_geom.specs.Disk.{Disk}
use Rattle.cpm_geom.specs.Geometry.{dpb_of}
use Rattle.cpm_geom.specs.declared.format.Format.{Format}
use Rattle.cpm_drive.specs.declared.drive.Drive.{Drive}
use Rattle.cpm_drives.specs.Disks.{drive_at, system_drive}
use Rattle.cpm_drives.specs.Vectors.{allocation_vector}
use Rattle.cpm_drives.proofs.DriveLemmas.{is_own_drive, is_own_and_none, not_own, drive_at-own, drive_at-system}
use Rattle.cpm_drives.proofs.disks.Disks.allocation_vector.Goals as goal

pub returns-then-not-is_own-clause-value : goal.returns-then-not-is_own-clause-value
unfolding system_drive
returns-then-not-is_own-clause-value c =
    let at = drive_at-system c.args.self.now c.args.system.now c.args.self.now.current (not_own c.args.self.now c.args.self.now.current (sym c.is_own.ensures.value ∙ c.if-not-is_own.true)) in
    let f = c.format-format.ensures.format ∙ ap (λ (disk : Disk). disk.format) c.image_at.ensures in
    c.allocation_vector.ensures.value ∙ (ap (λ (format : Format). allocation_vector (dpb_of format) c.args.self.now.system.reserved) f ∙ ap (λ (d : Drive). allocation_vector (dpb_of (drive_at c.args.self.now c.args.system.now c.args.self.now.current).image.format) d.marks.reserved) (sym at))

pub unreachable-requires : goal.unreachable-requires
unreachable-requires c =
    is_own_and_none c.args.self.now c.from.result c.args.self.now.current c.index-self-from.result c.from.ensures (omega (arith, c.is_own.ensures.within c.if-not-is_own.false)) c.in_default.is (sym c.is_own.ensures.value ∙ c.if-not-is_own.false)

pub returns-clause-value : goal.returns-clause-value
returns-clause-value c =
    let at = drive_at-own c.args.self.now c.args.system.now c.args.self.now.current c.in-Some.own (is_own_drive c.args.self.now c.from.result c.args.self.now.current c.in-Some.own c.index-self-from.result c.from.ensures (omega (arith, c.is_own.ensures.within c.if-not-is_own.false)) c.in-Some.is) in
    let f = c.format-format.ensures.format ∙ ap (λ (disk : Disk). disk.format) c.image_at.ensures in
    c.allocation_vector-2.ensures.value ∙ (ap (λ (format : Format). allocation_vector (dpb_of format) c.in-Some.own.marks.reserved) f ∙ ap (λ (d : Drive). allocation_vector (dpb_of (drive_at c.args.self.now c.args.system.now c.args.self.now.current).image.format) d.marks.reserved) (sym at))
