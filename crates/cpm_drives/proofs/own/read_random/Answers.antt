use Rattle.std.proofs.Common.{ap, refl, ◌∙◌}
use Rattle.cpm_drives.specs.Files.{read_random_on, by_record}
use Rattle.cpm_drives.proofs.CallLemmas.{within}
use Rattle.cpm_drive.specs.Drive.{CallResult}
use Rattle.std.proofs.lemmas.Bool.{ne_eqb}
use Rattle.cpm_drives.proofs.own.read_random.Goals as goal

pub returns-then-fcb-ne0 : goal.returns-then-fcb-ne0
unfolding read_random_on
returns-then-fcb-ne0 c = rw (ne_eqb _ _ c.if-fcb-ne0.true) refl

pub returns : goal.returns
unfolding read_random_on
returns c =
    rw (← c.random_number.ensures, c.code_of.ensures) ((ap (λ (o : CallResult). by_record o) c.read_random.ensures.value) ∙ (within c.args.drive.now c.args.fcb.now c.args.buffer.now _ c.if-fcb-ne0.false))
