use Rattle.std.proofs.Common.{◌≡◌, Err, refl}
use Rattle.cpm_ccp.specs.Parts.{own_record}
use Rattle.cpm_ccp.specs.FileCommands.{save_begun}
use Rattle.cpm_ccp.proofs.files.begin_save.Goals as goal

pub returns-in-Err : goal.returns-in-Err
unfolding save_begun
returns-in-Err c =
    let is : c.erase_files.result ≡ Err c.in-Err.fault = cc in
    let did = c.erase_files.ensures own_record in
    rw (c.fail.ensures, ← did, is) refl
