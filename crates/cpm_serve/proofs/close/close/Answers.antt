use Rattle.cpm_protocol.specs.Requests.{drive_names_of}
use Rattle.cpm_serve.specs.Owned.{owned_answer}
use Rattle.cpm_serve.proofs.OutputLemmas.{close-absent, close-by, close-refused, cpu-absent}
use Rattle.cpm_serve.proofs.close.close.Goals as goal

pub returns-in_default : goal.returns-in_default
returns-in_default g c =
    close-absent g.F.Folder.does c.args.host.now.host c.args.slot (drive_names_of c.args.out) (owned_answer c.refused.result) c.args.folder.now
    (cpu-absent _ _ c.in_default.ensures) c.refused.ensures

pub returns-in-Ok-write_outputs : goal.returns-in-Ok-write_outputs
returns-in-Ok-write_outputs g c =
    close-by g.F.Folder.does c.args.host.now.host c.finish.new.host.host c.args.slot (drive_names_of c.args.out) c.in-Ok.cpu (owned_answer c.finish.result) c.args.folder.now
    c.write_outputs.new.folder c.in-Ok.ensures c.in-Ok-write_outputs.ensures c.finish.ensures.host c.finish.ensures.reply

pub returns-in-Err : goal.returns-in-Err
returns-in-Err g c =
    close-refused g.F.Folder.does c.args.host.now.host c.args.slot (drive_names_of c.args.out) c.in-Ok.cpu c.in-Err.refusal (owned_answer c.refused-in-Err.result) c.args.folder.now
    c.write_outputs.new.folder c.in-Ok.ensures c.in-Err.ensures c.refused-in-Err.ensures
