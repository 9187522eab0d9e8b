use Rattle.std.proofs.Common.{◌∙◌, Bool, ap}
use Rattle.std.specs.Prelude.{Ok}
use Rattle.cpm_flags.specs.Arithmetic.{bit}
use Rattle.cpm_saved.proofs.DiskSteps.{large_read, small_read}
use Rattle.cpm_saved.proofs.disks.read_image.Goals as goal

pub returns-then-branch : goal.returns-then-branch
returns-then-branch c =
    large_read c.args.reader.now _ _ _ (c.in_ok-flag.ensures ∙ ap (λ (b : Bool). Ok (bit b, c.flag.new.self)) c.if-branch.true) c.read_image_of.ensures.read
    c.read_image_of.ensures.format

pub returns-else-branch : goal.returns-else-branch
returns-else-branch c =
    small_read c.args.reader.now _ _ _ (c.in_ok-flag.ensures ∙ ap (λ (b : Bool). Ok (bit b, c.flag.new.self)) c.if-branch.false)
    c.read_image_of-else-branch.ensures.read c.read_image_of-else-branch.ensures.format
