use Rattle.std.proofs.Common.{ap, ◌∙◌}
use Rattle.cpm_geom.specs.Geometry.{dpb_of}
use Rattle.cpm_volume.specs.declared.answer.Answer.{Answer}
use Rattle.cpm_volume.specs.Operations.{writing, write_in, place_at, target_of}
use Rattle.cpm_drive.specs.Drive.{volume_of, after_call}
use Rattle.cpm_drive.proofs.drive.Drive.write_numbered.Goals as goal

pub returns : goal.returns
returns c =
    let p = (rw c.lent.ensures at c.place_at-arrival.ensures.place) ∙ ap (λ b. place_at (dpb_of c.args.self.now.image.format) writing b (volume_of c.args.self.now.image c.args.self.now.marks.reserved) c.args.user c.args.fcb.now.extent (target_of Answer.NoEntryFree c.args.number)) c.requires in
    c.write_arrived.ensures ∙ ap (λ place. after_call c.args.self.now c.args.fcb.now c.args.bytes.now (write_in (dpb_of c.args.self.now.image.format) c.args.clears c.args.fcb.now.current_record 0 c.args.bytes.now place)) p
