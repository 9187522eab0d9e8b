use Rattle.std.proofs.Common.{◌∙◌, ap}
use Rattle.cpm_geom.specs.declared.dpb.Dpb.{Dpb}
use Rattle.cpm_volume.specs.declared.fcb.Fcb.{Fcb}
use Rattle.cpm_volume.specs.Encoding.{fcb_of, fcb_bytes}
use Rattle.cpm_drives.specs.Calls.{FileCall}
use Rattle.cpm_drives.specs.Functions.{BytesCall, bytes_call, file_function, file_function_bytes}
use Rattle.cpm_drives.proofs.disks.Disks.call.Goals as goal

-- by any disk parameter block
left_by : Dpb → FileCall → BytesCall
left_by d c = bytes_call c.answer c.disks (fcb_bytes d c.fcb) c.buffer

pub returns : goal.returns
unfolding file_function_bytes left_by
returns c =
    rw c.to_bytes.ensures (ap (left_by c.dpb_named-dpb.result) (c.file_function-answer.ensures ∙ ap (λ (f : Fcb). file_function c.args.function c.args.bytes.now c.args.self.now c.args.system.now f c.args.buffer.now) c.from_bytes-fcb.ensures) ∙ ap (λ (d : Dpb). left_by d (file_function c.args.function c.args.bytes.now c.args.self.now c.args.system.now (fcb_of d c.args.bytes.now) c.args.buffer.now)) c.dpb_named-dpb.ensures)
