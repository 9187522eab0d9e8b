use Rattle.cpm_slots.specs.Host.{slot_at}
use Rattle.cpm_serve.proofs.OutputLemmas.{written-named, written-plain}
use Rattle.cpm_serve.proofs.close.write_outputs.Goals as goal

pub returns-in-Some : goal.returns-in-Some
returns-in-Some g c =
    written-named g.F.Folder.does (slot_at c.args.id.0 c.args.host.now.host.slots) c.args.out c.in-Some.field-0 c.args.folder.now c.write_named_outputs.new.folder c.write_named_outputs.result
    c.in-Some.is c.write_named_outputs.ensures

pub returns-in-None : goal.returns-in-None
returns-in-None g c = written-plain g.F.Folder.does (slot_at c.args.id.0 c.args.host.now.host.slots) c.args.out c.args.folder.now c.in-None.is
