use Rattle.std.proofs.Common.{◌≡◌, ◌+◌, Ok, Err, ◌∙◌}
use Rattle.cpm_geom.specs.Geometry.{dpb_of}
use Rattle.cpm_volume.specs.Operations.{write_in}
use Rattle.cpm_drive.specs.Drive.{volume_of, after_writes}
use Rattle.cpm_drive.specs.Judged.{with_change}
use Rattle.cpm_drive.proofs.PutLemmas.{twice, reserved_kept, writes_format, put_after, stops_after}
use Rattle.cpm_drive.proofs.drive.Drive.write_arrived.Goals as goal

pub put_record-requires-clause-writable : goal.put_record-requires-clause-writable
put_record-requires-clause-writable c =
    let t = rw c.write_change.ensures.drive at c.write_change-2.ensures.drive ∙ twice c.args.self.now c.args.arrival.now.closed c.args.arrival.now.made c.requires.writable in
    rw t c.requires.writable

pub returns-in-Ok : goal.returns-in-Ok
unfolding write_in volume_of after_writes
returns-in-Ok c =
    let t = rw c.write_change.ensures.drive at c.write_change-2.ensures.drive ∙ twice c.args.self.now c.args.arrival.now.closed c.args.arrival.now.made c.requires.writable in
    let is : c.args.arrival.now.current ≡ Ok c.in-Ok.here = cc in
    let same = reserved_kept (volume_of c.args.self.now.image c.args.self.now.marks.reserved) c.args.arrival.now.closed c.args.arrival.now.made in
    rw is (rw (t, writes_format (with_change (with_change (volume_of c.args.self.now.image c.args.self.now.marks.reserved) c.args.arrival.now.closed) c.args.arrival.now.made).written c.args.self.now.image) at c.put_record.ensures ∙ put_after (dpb_of c.args.self.now.image.format) c.args.self.now (with_change (with_change (volume_of c.args.self.now.image c.args.self.now.marks.reserved) c.args.arrival.now.closed) c.args.arrival.now.made) c.args.fcb.now c.args.arrival.now.extent c.in-Ok.here (c.in-Ok.here + c.args.step) c.args.bytes.now c.args.clears c.requires.writable same)

pub returns-in-Err : goal.returns-in-Err
unfolding write_in volume_of
returns-in-Err c =
    let t = rw c.write_change.ensures.drive at c.write_change-2.ensures.drive ∙ twice c.args.self.now c.args.arrival.now.closed c.args.arrival.now.made c.requires.writable in
    let is : c.args.arrival.now.current ≡ Err c.in-Err.answer = cc in
    let same = reserved_kept (volume_of c.args.self.now.image c.args.self.now.marks.reserved) c.args.arrival.now.closed c.args.arrival.now.made in
    rw (is, t) (stops_after (dpb_of c.args.self.now.image.format) c.args.self.now (with_change (with_change (volume_of c.args.self.now.image c.args.self.now.marks.reserved) c.args.arrival.now.closed) c.args.arrival.now.made) c.args.fcb.now c.args.arrival.now.extent c.args.fcb.now.current_record c.args.fcb.now.current_record c.args.bytes.now c.args.clears c.requires.writable same c.in-Err.answer c.args.fcb.now.current_record)
