use Rattle.std.proofs.Common.{ap, map, refl}
use Rattle.std.specs.Prelude.{⊤, Result, Ok, Err}
use Rattle.cpm_protocol.specs.Requests.{drive_names_of}
use Rattle.cpm_slots.specs.Host.{slot_at}
use Rattle.cpm_store.specs.Writes.{named_output}
use Rattle.cpm_protocol.specs.declared.word.WireRefusal.{WireRefusal}
use Rattle.cpm_serve.specs.Folder.{Failed, Stored}
use Rattle.cpm_serve.proofs.OutputLemmas.{written-by, written-not}
use Rattle.cpm_serve.proofs.close.write_named_outputs.Goals as goal

pub returns-in-Err : goal.returns-in-Err
returns-in-Err g c =
    written-not g.F.Folder.does (slot_at c.args.id.0 c.args.host.now.host.slots) (drive_names_of c.args.out) c.in-Err.refusal c.args.folder.now c.in-Err.ensures

pub returns-in-Ok-write : goal.returns-in-Ok-write
returns-in-Ok-write g c =
    written-by g.F.Folder.does (slot_at c.args.id.0 c.args.host.now.host.slots) (drive_names_of c.args.out) (map named_output c.in-Ok.files.items) Stored c.args.folder.now c.write.new.self (Ok tt)
    c.in-Ok.ensures (rw c.deref.ensures.value at c.in-Ok-write.ensures.did) refl

pub returns : goal.returns
returns g c =
    written-by g.F.Folder.does (slot_at c.args.id.0 c.args.host.now.host.slots) (drive_names_of c.args.out) (map named_output c.in-Ok.files.items) (Failed c.in-Err-write.error) c.args.folder.now c.write.new.self _
    c.in-Ok.ensures (rw c.deref.ensures.value at c.in-Err-write.ensures.did) (ap (λ (w : WireRefusal). let r : Result ⊤ WireRefusal = Err w in r) c.write_refusal.ensures)
