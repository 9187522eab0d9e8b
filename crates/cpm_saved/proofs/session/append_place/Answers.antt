use Rattle.cpm_saved.proofs.Appends.{then_appended}
use Rattle.cpm_saved.specs.declared.part.SavingPart.TheVariants as part
use Rattle.cpm_saved.proofs.session.append_place.Goals as goal

pub returns : goal.returns
returns c =
    then_appended _ _ _ _ _ _ _ (c.in_ok-append_byte.ensures part.SectorPlace)
    (then_appended _ _ _ _ _ _ _ (c.in_ok-append_word.ensures part.SectorPlace)
    (then_appended _ _ _ _ _ _ _ (c.in_ok-append_word-2.ensures part.SectorPlace)
    (c.in_ok-append_word-3.ensures part.SectorPlace)))
