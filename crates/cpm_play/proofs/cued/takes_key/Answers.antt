use Rattle.cpm_play.proofs.RoomLemmas.{look-takes}
use Rattle.cpm_play.proofs.cued.takes_key.Goals as goal

pub returns : goal.returns
returns c = look-takes c.args.machine.now c.look.result c.look.ensures
