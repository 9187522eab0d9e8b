use Rattle.std.proofs.Common.{Bool, ap, refl, sym, ◌∙◌}
use Rattle.cpm_drives.specs.Files.{read_random_on, by_record}
use Rattle.cpm_drives.proofs.CallLemmas.{within}
use Rattle.cpm_drive.specs.Drive.{CallResult}
use Rattle.std.proofs.lemmas.Bool.{ne_eqb}
use Rattle.cpm_geom.specs.Geometry.{dpb_of}
use Rattle.cpm_volume.specs.Operations.{read_random_on_volume}
use Rattle.cpm_drive.specs.Drive.{volume_of, after_call}
use Rattle.cpm_drive.specs.Reads.{lent_drive}
use Rattle.cpm_drives.proofs.lent.read_random.Goals as goal

pub returns-then-fcb-ne0 : goal.returns-then-fcb-ne0
unfolding read_random_on
returns-then-fcb-ne0 c = rw (ne_eqb _ _ c.if-fcb-ne0.true) refl

pub returns : goal.returns
unfolding read_random_on
returns c =
    rw (← c.random_number.ensures, c.code_of.ensures) ((ap (λ (o : CallResult). by_record o) c.read_random_protected.ensures.value ∙ ap (λ (p : Bool). by_record (after_call (lent_drive c.args.image.now c.args.marks.now) c.args.fcb.now c.args.buffer.now (read_random_on_volume (dpb_of c.args.image.now.format) p (volume_of c.args.image.now c.args.marks.now.reserved) c.args.user c.args.fcb.now.extent c.args.fcb.now.current_record c.random_number.result))) (sym c.requires)) ∙ (within (lent_drive c.args.image.now c.args.marks.now) c.args.fcb.now c.args.buffer.now _ c.if-fcb-ne0.false))
