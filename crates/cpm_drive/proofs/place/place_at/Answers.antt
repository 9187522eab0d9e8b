use Rattle.std.proofs.Common.{◌≡◌, ◌≢◌, ◌/◌, ◌%◌, sym, ap, ◌∙◌, arith}
use Rattle.cpm_geom.specs.Geometry.{dpb_of}
use Rattle.cpm_volume.specs.Files.{extent_number}
use Rattle.cpm_volume.specs.Operations.{standing, target_of}
use Rattle.cpm_drive.specs.Drive.{volume_of}
use Rattle.cpm_drive.specs.Judged.{purpose_of}
use Rattle.cpm_drive.proofs.PlaceLemmas.{no_changes, at_here, at_crosses}
use Rattle.cpm_drive.proofs.place.place_at.Goals as goal

pub returns-then-sought-number-clause-place : goal.returns-then-sought-number-clause-place
unfolding target_of
returns-then-sought-number-clause-place c =
    let number = c.number.ensures.value in
    let same : c.args.number / 128 ≡ extent_number c.args.extent.now = omega arith in
    rw c.standing.ensures (ap (λ v. standing v c.args.extent.now (c.args.number % 128)) (no_changes (volume_of c.args.image.now c.args.marks.now.reserved)) ∙ sym (at_here (dpb_of c.args.image.now.format) (purpose_of c.args.access) c.args.marks.now.is_protected (volume_of c.args.image.now c.args.marks.now.reserved) c.args.user c.args.extent.now (target_of c.args.missing c.args.number) same))

pub returns-clause-place : goal.returns-clause-place
unfolding target_of
returns-clause-place c =
    let number = c.number.ensures.value in
    let other : c.args.number / 128 ≢ extent_number c.args.extent.now = λ e. omega arith in
    c.cross.ensures.place ∙ sym (at_crosses (dpb_of c.args.image.now.format) (purpose_of c.args.access) c.args.marks.now.is_protected (volume_of c.args.image.now c.args.marks.now.reserved) c.args.user c.args.extent.now (target_of c.args.missing c.args.number) other)
