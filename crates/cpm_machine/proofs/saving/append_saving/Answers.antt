use Rattle.cpm_memory.specs.Flat.{IsContents-flat}
use Rattle.cpm_saved.proofs.Appends.{then_appended}
use Rattle.cpm_machine.proofs.saving.append_saving.Goals as goal

pub returns-clause-appended : goal.returns-clause-appended
returns-clause-appended c =
    then_appended _ _ _ _ _ _ _ c.in_ok-append_head.ensures
    (then_appended _ _ _ _ _ _ _ c.in_ok-append_numbers.ensures
    (then_appended _ _ _ _ _ _ _ c.in_ok-append_memory.ensures c.in_ok-append_session.ensures.appended))

pub returns-clause-fits : goal.returns-clause-fits
returns-clause-fits c = record {
  session = c.in_ok-append_session.ensures.fits;
  memory = IsContents-flat c.args.memory.now;
  blank = c.unwritten_is_blank.ensures;
  limit = c.requires.limit;
}
