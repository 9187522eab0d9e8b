use Rattle.cpm_asm.proofs.OneTable.{assembled}
use Rattle.cpm_asm.proofs.Relaying.{found_places}
use Rattle.cpm_asm.proofs.pass.assemble_placed.Goals as goal

pub returns-in-Ok-clause-assembled : goal.returns-in-Ok-clause-assembled
returns-in-Ok-clause-assembled c = assembled c.args.source.now c.in-Ok.assembly.image.items c.in-Ok.ensures.image

pub returns-in-Ok-clause-places : goal.returns-in-Ok-clause-places
returns-in-Ok-clause-places c = found_places c.args.source.now c.in-Ok.assembly.image.items c.in-Ok.assembly.places.items c.in-Ok.ensures.image c.in-Ok.ensures.places
