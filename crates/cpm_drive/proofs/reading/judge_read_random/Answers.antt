use Rattle.std.proofs.Common.{◌≡◌, None, refl}
use Rattle.cpm_geom.specs.Geometry.{dpb_of}
use Rattle.cpm_volume.specs.Operations.{read_random_on_volume}
use Rattle.cpm_drive.specs.Drive.{volume_of}
use Rattle.cpm_drive.specs.Reads.{lent_drive}
use Rattle.cpm_drive.proofs.ReadLemmas.{reading_is}
use Rattle.cpm_drive.proofs.reading.judge_read_random.Goals as goal

pub returns-clause-value : goal.returns-clause-value
unfolding read_random_on_volume
returns-clause-value c = λ buffer.
    let arrival = c.place_at-arrival in
    let none : arrival.result.made ≡ None = arrival.ensures.made refl in
    let value = rw c.format.ensures.format at c.find_arrived-found.ensures.value (volume_of c.args.image.now c.args.marks.now.reserved) in
    rw (← arrival.ensures.place) (reading_is (dpb_of c.args.image.now.format) (lent_drive c.args.image.now c.args.marks.now) c.args.fcb.now _ arrival.result 0 c.find_arrived-found.result buffer none value)
