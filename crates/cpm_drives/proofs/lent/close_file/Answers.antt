use Rattle.std.proofs.Common.{Bool, ap, sym, ◌∙◌}
use Rattle.cpm_drives.specs.Files.{close_file_on, by_close}
use Rattle.cpm_drives.proofs.CallLemmas.{lent_close}
use Rattle.cpm_geom.specs.Geometry.{dpb_of}
use Rattle.cpm_volume.specs.Operations.{close_file_on_volume}
use Rattle.cpm_directory.specs.Directory.{entries_of}
use Rattle.cpm_drive.specs.Calls.{after_close}
use Rattle.cpm_drive.specs.Reads.{lent_drive}
use Rattle.cpm_drives.proofs.lent.close_file.Goals as goal

pub returns : goal.returns
unfolding close_file_on
returns c =
    λ buffer. rw c.code_or_fault.ensures (lent_close c.args.image.now c.args.marks.now c.args.fcb.now buffer _ c.close_file_lent.result c.close_file_lent.new.fcb c.requires c.close_file_lent.ensures ∙ ap (λ (p : Bool). by_close buffer (after_close (lent_drive c.args.image.now c.args.marks.now) c.args.fcb.now (close_file_on_volume (dpb_of c.args.image.now.format) p (entries_of c.args.image.now) c.args.user c.args.fcb.now.extent))) (sym c.requires))
