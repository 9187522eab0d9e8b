use Rattle.std.proofs.Common.{◌∙◌}
use Rattle.std.proofs.lemmas.List.{append-nil}
use Rattle.cpm_saved.proofs.Appends.{as_value, then_appended}
use Rattle.cpm_saved.specs.declared.part.SavingPart.TheVariants as part
use Rattle.cpm_saved.proofs.console.append_line.Goals as goal

pub returns : goal.returns
returns c =
    then_appended _ _ _ _ _ _ _ (as_value _ _ _ _ _ c.start.ensures.value (c.in_ok-append_byte.ensures part.Line))
    (then_appended _ _ _ _ _ _ _ (as_value _ _ _ _ _ c.limit.ensures.value (c.in_ok-append_byte-2.ensures part.Line))
    (as_value _ _ _ _ _ (append-nil c.characters.result.now ∙ c.characters.ensures.value) (c.in_ok-append_run.ensures part.Line)))
