use Rattle.std.proofs.Common.{Bool, ap, sym, ◌∙◌}
use Rattle.cpm_drives.specs.Files.{read_next_on, by_record}
use Rattle.cpm_drive.specs.Drive.{CallResult}
use Rattle.cpm_geom.specs.Geometry.{dpb_of}
use Rattle.cpm_volume.specs.Operations.{read_next_on_volume}
use Rattle.cpm_drive.specs.Drive.{volume_of, after_call}
use Rattle.cpm_drive.specs.Reads.{lent_drive}
use Rattle.cpm_drives.proofs.lent.read_next.Goals as goal

pub returns : goal.returns
unfolding read_next_on
returns c =
    rw (c.code_of.ensures) (ap (λ (o : CallResult). by_record o) c.read_next_protected.ensures.value ∙ ap (λ (p : Bool). by_record (after_call (lent_drive c.args.image.now c.args.marks.now) c.args.fcb.now c.args.buffer.now (read_next_on_volume (dpb_of c.args.image.now.format) p (volume_of c.args.image.now c.args.marks.now.reserved) c.args.user c.args.fcb.now.extent c.args.fcb.now.current_record))) (sym c.requires))
