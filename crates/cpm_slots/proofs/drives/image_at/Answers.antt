use Rattle.std.proofs.Common.{◌≡◌, Some, refl}
use Rattle.std.specs.Prelude.{option_map, slice_get}
use Rattle.std.proofs.lemmas.Option.{slice_get_read}
use Rattle.cpm_drives.specs.Disks.{image_of, own_drive}
use Rattle.cpm_slots.proofs.TableLaws.{IfSlot-at}
use Rattle.cpm_slots.proofs.drives.image_at.Goals as goal

pub returns : goal.returns
returns c = λ m.
    let slots = c.args.slots.now in
    let slot = c.index-slots-index.result in
    let at : slice_get slots c.args.index ≡ Some slot = slice_get_read slots _ c.args.index slot refl c.requires c.index-slots-index.is in
    IfSlot-at m slots c.args.index slot (λ x. option_map (λ image. image.now) c.own_image.result ≡ image_of (own_drive x.state.session.disks c.args.drive)) at c.own_image.ensures
