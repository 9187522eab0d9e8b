use Rattle.std.proofs.Common.{false, ap, ◌∙◌}
use Rattle.cpm_geom.specs.Geometry.{dpb_of}
use Rattle.cpm_volume.specs.Operations.{writing, write_in, next_place, write_next_on_volume}
use Rattle.cpm_drive.specs.Drive.{volume_of, after_call}
use Rattle.cpm_drive.proofs.drive.Drive.write_next.Goals as goal

pub returns : goal.returns
unfolding write_next_on_volume
returns c =
    let p = (rw c.lent.ensures at c.next_place-arrival.ensures.place) ∙ ap (λ b. next_place (dpb_of c.args.self.now.image.format) writing b (volume_of c.args.self.now.image c.args.self.now.marks.reserved) c.args.user c.args.fcb.now.extent c.args.fcb.now.current_record) c.requires in
    c.write_arrived.ensures ∙ ap (λ place. after_call c.args.self.now c.args.fcb.now c.args.bytes.now (write_in (dpb_of c.args.self.now.image.format) false c.args.fcb.now.current_record 1 c.args.bytes.now place)) p
