use Rattle.std.proofs.Common.{◌≡◌, Err, refl}
use Rattle.cpm_ccp.specs.Parts.{own_record}
use Rattle.cpm_ccp.specs.FileCommands.{file_made}
use Rattle.cpm_ccp.proofs.files.make.Goals as goal

pub returns-in-Err : goal.returns-in-Err
unfolding file_made
returns-in-Err c =
    let is : c.make_file.result ≡ Err c.in-Err.fault = cc in
    let did = c.make_file.ensures own_record in
    rw (c.fail.ensures, ← did, is) refl
