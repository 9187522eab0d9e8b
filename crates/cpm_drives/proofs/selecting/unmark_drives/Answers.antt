use Rattle.std.proofs.Common.{◌∙◌, ap, refl, arith, Bool, if◌then◌else◌, get_or}
use Rattle.std.proofs.lemmas.List.{length-set}
use Rattle.cpm_drives.specs.Selecting.{drive_unmarked}
use Rattle.cpm_drives.proofs.MarkLemmas.{reset_step, reset_whole}
use Rattle.cpm_drives.proofs.selecting.unmark_drives.Goals as goal

pub loop-number-init : goal.loop-number-init
loop-number-init c = (refl, c.told-drives)

pub loop-number-preserved : goal.loop-number-preserved
loop-number-preserved c =
    (reset_step c.args.vector c.loop-number.number c.loop-number.drives c.index-drives-number.result c.unmark_drive.new.drive (omega arith) (c.unmark_drive.ensures ∙ ap (λ (b : Bool). if b then drive_unmarked (get_or c.loop-number.drives c.loop-number.number c.index-drives-number.result) else get_or c.loop-number.drives c.loop-number.number c.index-drives-number.result) c.has_drive_bit.ensures) ∙ c.loop-number.invariant.0, length-set c.loop-number.drives c.loop-number.number c.unmark_drive.new.drive ∙ c.loop-number.invariant.1)

pub returns : goal.returns
returns c =
    reset_whole c.args.vector c.loop-number.number c.loop-number.drives c.args.drives.now (omega (arith, c.loop-number.invariant.1)) c.loop-number.invariant.0
