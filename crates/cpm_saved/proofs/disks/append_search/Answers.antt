use Rattle.std.proofs.Common.{Option, ap, sym}
use Rattle.std.specs.Prelude.{option_map}
use Rattle.cpm_drives.specs.declared.search.Search.{Search}
use Rattle.cpm_saved.proofs.Appends.{as_value, none_appended, some_appended, then_appended}
use Rattle.cpm_saved.specs.SavedDisks.{search_fields}
use Rattle.cpm_saved.specs.declared.part.SavingPart.TheVariants as part
use Rattle.cpm_saved.proofs.disks.append_search.Goals as goal

pub returns-in_ok-append_flag-in-None : goal.returns-in_ok-append_flag-in-None
returns-in_ok-append_flag-in-None c =
    as_value _ _ _ _ _ (ap (λ (o : Option Search). option_map search_fields o) (sym c.in-None.is))
    (none_appended part.Search _ _ _ (c.in_ok-append_flag-in-None.ensures part.Search))

pub returns-in_ok-append_word-in-Some : goal.returns-in_ok-append_word-in-Some
returns-in_ok-append_word-in-Some c =
    as_value _ _ _ _ _ (ap (λ (o : Option Search). option_map search_fields o) (sym c.in-Some.is))
    (some_appended part.Search _ _ _ _ _ (c.in_ok-append_flag-in-Some.ensures part.Search)
    (then_appended _ _ _ _ _ _ _ (c.in_ok-append_byte-in-Some.ensures part.Search)
    (then_appended _ _ _ _ _ _ _ (c.in_ok-append_flag-in-Some-2.ensures part.Search)
    (then_appended _ _ _ _ _ _ _ (c.in_ok-append_array-in-Some.ensures part.Search)
    (then_appended _ _ _ _ _ _ _ (c.in_ok-append_byte-in-Some-2.ensures part.Search) (c.in_ok-append_word-in-Some.ensures part.Search))))))
