use Rattle.std.proofs.Common.{◌≡◌, Err, refl}
use Rattle.cpm_ccp.specs.Parts.{own_record}
use Rattle.cpm_ccp.specs.FileCommands.{file_closed}
use Rattle.cpm_ccp.proofs.files.close.Goals as goal

pub returns-in-Err : goal.returns-in-Err
unfolding file_closed
returns-in-Err c =
    let is : c.close_file.result ≡ Err c.in-Err.fault = cc in
    let did = c.close_file.ensures own_record in
    rw (c.fail.ensures, ← did, is) refl
