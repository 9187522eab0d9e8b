use Rattle.std.proofs.Common.{◌≡◌, false}
use Rattle.cpm_geom.specs.Geometry.{dpb_of}
use Rattle.cpm_drive.proofs.PutLemmas.{not_cleared}
use Rattle.cpm_drive.proofs.drive.Drive.clear_taken.Goals as goal

pub returns-else-clears : goal.returns-else-clears
returns-else-clears c =
    let is : c.args.clears ≡ false = cc in
    rw is (not_cleared (dpb_of c.args.self.now.image.format) c.args.self.now c.args.block)
