use Rattle.std.proofs.Common.{ap}
use Rattle.std.specs.Prelude.{Result, Err}
use Rattle.cpm_geom.specs.Disk.{Disk}
use Rattle.cpm_protocol.specs.declared.word.WireRefusal.{WireRefusal}
use Rattle.cpm_serve.specs.Folder.{Failed, Given}
use Rattle.cpm_serve.proofs.disk.held_image.Goals as goal

pub returns-in-Ok : goal.returns-in-Ok
returns-in-Ok g c = record { answer = Given c.in-Ok.bytes.items; did = c.in-Ok.ensures.did; is = c.image_of.ensures }

pub returns-in-Err : goal.returns-in-Err
returns-in-Err g c = record {
  answer = Failed c.in-Err.error;
  did = c.in-Err.ensures.did;
  is = ap (λ (w : WireRefusal). let r : Result Disk WireRefusal = Err w in r) c.read_refusal.ensures;
}
