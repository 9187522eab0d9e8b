use Rattle.std.proofs.Common.{◌≡◌, Err, refl}
use Rattle.cpm_ccp.specs.FileCommands.{saved}
use Rattle.cpm_ccp.proofs.files.save.Goals as goal

pub returns-in-Err : goal.returns-in-Err
unfolding saved
returns-in-Err c =
    let is : c.write_next.result ≡ Err c.in-Err.fault = cc in
    let did = c.write_next.ensures in
    rw (c.fail.ensures, ← did, is) refl
