use Rattle.std.proofs.Common.{sym, ap, ◌∙◌, arith}
use Rattle.cpm_geom.specs.Geometry.{dpb_of}
use Rattle.cpm_volume.specs.declared.answer.Answer.{Answer}
use Rattle.cpm_volume.specs.Operations.{stopped}
use Rattle.cpm_directory.proofs.DriveLemmas.{entries_length}
use Rattle.cpm_drive.specs.Drive.{volume_of}
use Rattle.cpm_drive.specs.Judged.{purpose_of, target_by}
use Rattle.cpm_drive.proofs.PlaceLemmas.{no_changes, cross_refused, cross_fault, cross_closed}
use Rattle.cpm_drive.proofs.place.cross.Goals as goal

pub returns-in-Refused-clause-place : goal.returns-in-Refused-clause-place
returns-in-Refused-clause-place c =
    rw c.stopped.ensures (ap (λ v. stopped c.args.sought.now.unclosed v c.args.extent.now) (no_changes (volume_of c.args.image.now c.args.marks.now.reserved)) ∙ sym (cross_refused (dpb_of c.args.image.now.format) (purpose_of c.args.access) c.args.marks.now.is_protected c.args.image.now c.args.marks.now.reserved c.args.user c.args.extent.now (target_by c.args.sought.now) (sym c.in-Refused.ensures.value)))

pub returns-in-Fault-clause-place : goal.returns-in-Fault-clause-place
returns-in-Fault-clause-place c =
    rw c.stopped-in-Fault.ensures (ap (λ v. stopped (Answer.Fault c.in-Fault.which) v c.args.extent.now) (no_changes (volume_of c.args.image.now c.args.marks.now.reserved)) ∙ sym (cross_fault (dpb_of c.args.image.now.format) (purpose_of c.args.access) c.args.marks.now.is_protected c.args.image.now c.args.marks.now.reserved c.args.user c.args.extent.now (target_by c.args.sought.now) c.in-Fault.which (sym c.in-Fault.ensures.value)))

pub returns-in-Closed-clause-place : goal.returns-in-Closed-clause-place
returns-in-Closed-clause-place c =
    let size = entries_length c.args.image.now in
    let within = c.in-Closed.ensures.within in
    c.have_extent.ensures.place ∙ sym (cross_closed (dpb_of c.args.image.now.format) (purpose_of c.args.access) c.args.marks.now.is_protected c.args.image.now c.args.marks.now.reserved c.args.user c.args.extent.now (target_by c.args.sought.now) c.in-Closed.closed c.in-Closed.both (sym c.in-Closed.ensures.value) (omega arith))
