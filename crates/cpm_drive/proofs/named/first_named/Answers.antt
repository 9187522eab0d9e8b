use Rattle.std.proofs.Common.{◌∙◌, arith}
use Rattle.cpm_geom.specs.Geometry.{dpb_of}
use Rattle.cpm_directory.specs.Directory.{entries_of}
use Rattle.cpm_directory.proofs.DriveLemmas.{entries_length}
use Rattle.cpm_drive.proofs.NamedLemmas.{first_is}
use Rattle.cpm_drive.proofs.named.first_named.Goals as goal

pub returns-in-Ok : goal.returns-in-Ok
returns-in-Ok c =
    let found = c.in-Ok.ensures in
    (found.0 ∙ first_is (dpb_of c.args.image.now.format) (entries_of c.args.image.now) c.args.user c.args.name.now (omega arith), found.1)

pub returns-in-Err : goal.returns-in-Err
returns-in-Err c =
    let none = c.in-Err.ensures.1 in
    let size = entries_length c.args.image.now in
    let first = first_is (dpb_of c.args.image.now.format) (entries_of c.args.image.now) c.args.user c.args.name.now (omega arith) in
    omega arith
