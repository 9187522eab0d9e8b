use Rattle.std.proofs.Common.{refl, sym, ap, ◌∙◌}
use Rattle.cpm_geom.specs.Geometry.{dpb_of}
use Rattle.cpm_volume.specs.Operations.{read_random_on_volume}
use Rattle.cpm_drive.specs.Drive.{volume_of, after_call}
use Rattle.cpm_drive.specs.Reads.{lent_drive}
use Rattle.cpm_drive.proofs.ReadLemmas.{taken, at_gives}
use Rattle.cpm_drive.proofs.WriteLemmas.{drive_kept}
use Rattle.cpm_drive.proofs.reading.read_random_protected.Goals as goal

pub returns-clause-value : goal.returns-clause-value
returns-clause-value c =
    let reading = c.judge_read_random-reading in
    let kept = sym (drive_kept (lent_drive c.args.image.now c.args.marks.now) reading.result.closed c.requires) in
    taken (lent_drive c.args.image.now c.args.marks.now) (lent_drive c.args.image.now c.args.marks.now) _ reading.result.found reading.result.closed _ c.args.buffer.now _ c.take_record.ensures.answer kept c.take_record.ensures.buffer ∙ ((rw c.new.ensures at (reading.ensures.value c.args.buffer.now)) ∙ ap (λ b. after_call (lent_drive c.args.image.now c.args.marks.now) c.args.fcb.now c.args.buffer.now (read_random_on_volume (dpb_of c.args.image.now.format) b (volume_of c.args.image.now c.args.marks.now.reserved) c.args.user c.args.fcb.now.extent c.args.fcb.now.current_record c.args.number)) c.requires)

pub returns-clause-file : goal.returns-clause-file
returns-clause-file c =
    let reading = c.judge_read_random-reading in
    let kept = sym (drive_kept (lent_drive c.args.image.now c.args.marks.now) reading.result.closed c.requires) in
    at_gives (lent_drive c.args.image.now c.args.marks.now) (lent_drive c.args.image.now c.args.marks.now) c.args.user c.args.fcb.now _ c.args.buffer.now _ _ (λ n h. refl) c.args.number c.ranges.number.fits (taken (lent_drive c.args.image.now c.args.marks.now) (lent_drive c.args.image.now c.args.marks.now) _ reading.result.found reading.result.closed _ c.args.buffer.now _ c.take_record.ensures.answer kept c.take_record.ensures.buffer ∙ (rw c.new.ensures at (reading.ensures.value c.args.buffer.now)))
