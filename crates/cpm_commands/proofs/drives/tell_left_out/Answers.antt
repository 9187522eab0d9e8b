use Rattle.std.proofs.lemmas.List.{drop_all}
use Rattle.cpm_commands.specs.Drives.{IsPlaceLeftOutTold}
use Rattle.cpm_commands.proofs.DriveLemmas.{told_all}
use Rattle.cpm_commands.proofs.drives.tell_left_out.Goals as goal

pub returns : goal.returns
returns g c =
    told_all (IsPlaceLeftOutTold g.M.Messages.tells) c.args.places.now _ c.args.messages.now c.loop-place.messages
    (drop_all c.loop-place.place-index c.args.places.now c.loop-place-test.false) c.loop-place.invariant
