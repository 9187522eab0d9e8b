use Rattle.std.proofs.Common.{◌∙◌, sym}
use Rattle.cpm_batch.specs.Inputs.{start_view}
use Rattle.cpm_run.specs.Settled.{opening_of}
use Rattle.cpm_run.proofs.PressableLemmas.{room-counted}
use Rattle.cpm_run.proofs.pressable.takes_all.Goals as goal

pub returns-clause-room : goal.returns-clause-room
returns-clause-room c = λ can. room-counted (opening_of (start_view c.args.start.now)) c.pending_keys.result c.args.count c.pending_keys.ensures (sym c.has_room.ensures ∙ can)
