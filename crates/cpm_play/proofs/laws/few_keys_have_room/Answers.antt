use Rattle.cpm_play.proofs.RoomLemmas.{few-room}
use Rattle.cpm_play.proofs.laws.few_keys_have_room.Goals as goal

pub returns : goal.returns
returns c = few-room
