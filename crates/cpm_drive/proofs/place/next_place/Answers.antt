use Rattle.std.proofs.Common.{◌≡◌, ◌≢◌, sym, ap, ◌∙◌, arith}
use Rattle.cpm_geom.specs.Geometry.{dpb_of}
use Rattle.cpm_volume.specs.declared.answer.Answer.{Answer}
use Rattle.cpm_volume.specs.Files.{extent_number}
use Rattle.cpm_volume.specs.Operations.{standing, stopped, next_target}
use Rattle.cpm_drive.specs.Drive.{volume_of}
use Rattle.cpm_drive.specs.Judged.{purpose_of}
use Rattle.cpm_drive.proofs.PlaceLemmas.{no_changes, next_here, next_last, next_crosses}
use Rattle.cpm_drive.proofs.place.next_place.Goals as goal

pub returns-then-fcb-lt128-clause-place : goal.returns-then-fcb-lt128-clause-place
returns-then-fcb-lt128-clause-place c =
    rw c.standing.ensures (ap (λ v. standing v c.args.fcb.now.extent c.args.fcb.now.current_record) (no_changes (volume_of c.args.image.now c.args.marks.now.reserved)) ∙ sym (next_here (dpb_of c.args.image.now.format) (purpose_of c.args.access) c.args.marks.now.is_protected (volume_of c.args.image.now c.args.marks.now.reserved) c.args.user c.args.fcb.now.extent c.args.fcb.now.current_record (omega arith)))

pub returns-then-number-eq511-clause-place : goal.returns-then-number-eq511-clause-place
returns-then-number-eq511-clause-place c =
    let number = c.number-number.ensures.value in
    let last : extent_number c.args.fcb.now.extent ≡ 511 = omega arith in
    rw c.stopped.ensures (ap (λ v. stopped Answer.NoRecord v c.args.fcb.now.extent) (no_changes (volume_of c.args.image.now c.args.marks.now.reserved)) ∙ sym (next_last (dpb_of c.args.image.now.format) (purpose_of c.args.access) c.args.marks.now.is_protected (volume_of c.args.image.now c.args.marks.now.reserved) c.args.user c.args.fcb.now.extent c.args.fcb.now.current_record (omega arith) last))

pub returns-clause-place : goal.returns-clause-place
unfolding next_target
returns-clause-place c =
    let number = c.number-number.ensures.value in
    let other : extent_number c.args.fcb.now.extent ≢ 511 = λ e. omega arith in
    rw number at c.cross.ensures.place ∙ sym (next_crosses (dpb_of c.args.image.now.format) (purpose_of c.args.access) c.args.marks.now.is_protected (volume_of c.args.image.now c.args.marks.now.reserved) c.args.user c.args.fcb.now.extent c.args.fcb.now.current_record (omega arith) other)
